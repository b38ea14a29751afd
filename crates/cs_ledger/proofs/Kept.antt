-- What each entry keeps true of the table of its shard.
use Rattle.std.proofs.Common.{◌≡◌, ℕ, ◌<◌, ◌≤◌, List, [], ◌∷◌, ◌++◌, length, Bool, true, false, ◌&&◌, ◌⊎◌, inl, inr, Option, Some, None, refl, sym, ap, ◌∙◌, subst, arith, length-append}
use Rattle.std.specs.Prelude.{bytes_eq, if◌then◌else◌, nat_lt}
use Rattle.std.proofs.lemmas.Bool.{cases_Bool, and_parts, both_ways, false_from_ne_true, ltb-true, lt-ltb, and_from}
use Rattle.cs_base.specs.Lists.{IsIn}
use Rattle.cs_ledger.specs.Ledger.{Bytes}
use Rattle.cs_base.specs.Options.{or_else}
use Rattle.cs_ledger.specs.Session.{AreToldApart, Session, Rules, Key, Piece, key_eq, has_key, object_under, used_up, read_only, anchor}
use Rattle.cs_ledger.specs.Table.{Vote, Commit, Abort, Book, State, Active, Locked, Inactive, Shared, Table, is_locked_by, vote_in, lock_state, undo_state, accept_state, all_ready, all_readable, is_ready, released, with_locks, with_vote, with_accepted, with_aborted, new_pieces}
use Rattle.cs_ledger.proofs.Basics.{same_bytes, bytes_from, same_key, key_refl, has_piece, piece_has, anchor_used}
use Rattle.cs_ledger.proofs.Settled.{settled, open_parts, held_settles, settled_used, settled_released, settled_locked, settled_joined, settled_left, settled_made, settled_noted, settled_own, vote_in-append, vote_in-other}
use Rattle.cs_ledger.proofs.Changes.{settled_at}
use Rattle.cs_ledger.proofs.States.{ready_at, open_at, IsRead, locked_by, held_if_locked, lock_cases, lock_keeps, lock_keeps_read, lock_takes, lock_reads, lock_inactive, accept_locked, accept_keeps, accept_keeps_read, accept_inactive, undo_locked, undo_keeps, undo_keeps_read, undo_inactive}

-- a session holds all its keys in a shard, with the carried objects, and is not in the book of its anchor
pub record Holding (rules : Rules) (shard : ℕ) (t : Table) (x : Session) : Type 0 where
  pub all : (piece : Piece) → IsIn piece (used_up rules x shard) → (t.at piece.key).state ≡ Locked piece.object x.digest
  pub reads : (piece : Piece) → IsIn piece (read_only rules x shard) → IsRead piece.object x.digest (t.at piece.key).state
  pub key : Key
  pub is : anchor rules x shard ≡ Some key
  pub unnoted : vote_in (t.at key).book x.digest ≡ None
  pub short : length (t.at key).book ≤ 1024

-- a lock is that of a known session, which holds all its keys
pub record LockedBy (rules : Rules) (known : List Session) (shard : ℕ) (t : Table) (key : Key) (object d : Bytes) : Type 0 where
  pub x : Session
  pub knows : IsIn x known
  pub digest : x.digest ≡ d
  pub piece : Piece
  pub within : IsIn piece (used_up rules x shard)
  pub key_is : key ≡ piece.key
  pub object_is : object ≡ piece.object
  pub holding : Holding rules shard t x

-- a known session of that digest, of which this holds
pub record Known (known : List Session) (P : Session → Type 0) (d : Bytes) : Type 0 where
  pub x : Session
  pub knows : IsIn x known
  pub digest : x.digest ≡ d
  pub holds : P x

pub record Kept (rules : Rules) (known : List Session) (commits aborts : Session → Type 0) (shard : ℕ) (t : Table) : Type 0 where
  pub locked : (key : Key) (object d : Bytes) → (t.at key).state ≡ Locked object d → LockedBy rules known shard t key object d
  pub inactive : (key : Key) (d : Bytes) → (t.at key).state ≡ Inactive d → Known known commits d
  pub noted : (key : Key) (d : Bytes) → vote_in (t.at key).book d ≡ Some Commit → Known known aborts d

same_some : (a b : Key) → Some a ≡ Some b → a ≡ b
same_some a b e = cc

-- a note with abort brings no commit
abort_note : (noted : Option Vote) (b : Bool) → or_else noted (if b then Some Abort else None) ≡ Some Commit → noted ≡ Some Commit
abort_note (Some v) b e = e
abort_note None true e = cc
abort_note None false e = cc

commit_note : (noted : Option Vote) (b : Bool) → or_else noted (if b then Some Commit else None) ≡ Some Commit → (noted ≡ Some Commit) ⊎ (b ≡ true)
commit_note (Some v) b e = inl e
commit_note None true e = inr refl
commit_note None false e = cc

-- a book that may get one more note
abbrev pub more : Bool → Book → (Bytes × Vote) → Book
more b book note = if b then book ++ note ∷ [] else book

more_length : (b : Bool) (book : Book) (note : Bytes × Vote) → length book < 1024 → length (more b book note) ≤ 1024
more_length true book note h = omega (arith, length-append book (note ∷ []))
more_length false book note h = omega arith

more_other : (b : Bool) (book : Book) (note : Bytes × Vote) (d : Bytes) → (d ≡ note.0 → ⊥) → vote_in (more b book note) d ≡ vote_in book d
more_other true book note d ne = vote_in-other book note d ne
more_other false book note d ne = refl

more_settled : (b : Bool) (state : State) (book : Book) (note : Bytes × Vote) (d : Bytes) (vote : Vote) → (d ≡ note.0 → ⊥) → settled state book d ≡ Some vote → settled state (more b book note) d ≡ Some vote
more_settled true state book note d vote ne e = settled_noted state book note d vote ne e
more_settled false state book note d vote ne e = e

more_abort : (b : Bool) (book : Book) (d by : Bytes) → vote_in (more b book ((by, Abort))) d ≡ Some Commit → vote_in book d ≡ Some Commit
more_abort true book d by e = abort_note _ _ (sym (vote_in-append book ((by, Abort)) d) ∙ e)
more_abort false book d by e = e

more_commit : (b : Bool) (book : Book) (d by : Bytes) → vote_in (more b book ((by, Commit))) d ≡ Some Commit → (vote_in book d ≡ Some Commit) ⊎ (d ≡ by)
more_commit true book d by e =
    elim (commit_note _ _ (sym (vote_in-append book ((by, Commit)) d) ∙ e)) [
      | inl h ↦ inl h
      | inr h ↦ inr (same_bytes d by h)
    ]
more_commit false book d by e = inl e

more_short : (b : Bool) (book : Book) (note : Bytes × Vote) → b ≡ false → more b book note ≡ book
more_short b book note e = ap (λ (c : Bool). more c book note) e

module _ (rules : Rules) (known : List Session) (unique : AreToldApart known) (shard : ℕ) (t : Table) where
  pub two_locks : (state : State) (a b d e : Bytes) → state ≡ Locked a d → state ≡ Locked b e → d ≡ e
  two_locks state a b d e p q = cc

  pub held_is_locked : (x : Session) → Holding rules shard t x → (key : Key) → has_key key (used_up rules x shard) ≡ true → (object : Bytes) × ((t.at key).state ≡ Locked object x.digest)
  held_is_locked x h key e =
      let p = has_piece key _ e in
      (p.0.object, ap (λ k. (t.at k).state) p.2 ∙ h.all p.0 p.1)

  pub anchor_is_piece : (x : Session) (key : Key) → anchor rules x shard ≡ Some key → has_key key (used_up rules x shard) ≡ true
  anchor_is_piece x key e = anchor_used rules x shard key e

  module _ (commits aborts : Session → Type 0) (kept : Kept rules known commits aborts shard t) (y : Session) (knows : IsIn y known) (key : Key) (is : anchor rules y shard ≡ Some key) where
    -- the session that has its anchor locked holds all its keys
    pub own : is_locked_by y.digest (t.at key).state ≡ true → Holding rules shard t y
    own held =
        let l = locked_by y.digest (t.at key).state held in
        let by = kept.locked key l.0 y.digest l.1 in
        let same : by.x ≡ y = unique by.x y by.knows knows by.digest in
        subst (λ z. Holding rules shard t z) same by.holding

    -- a key that another session locks or reads is none that a session uses up that holds its keys
    others : Holding rules shard t y → (k : Key) (object d : Bytes) → (t.at k).state ≡ Locked object d → (y.digest ≡ d → ⊥) → has_key k (used_up rules y shard) ≡ false
    others h k object d e ne =
        false_from_ne_true _ (λ has. let l = held_is_locked y h k has in ne (two_locks _ l.0 object y.digest d l.1 e))

    others_read : Holding rules shard t y → (k : Key) (object d : Bytes) → IsRead object d (t.at k).state → (y.digest ≡ d → ⊥) → has_key k (used_up rules y shard) ≡ false
    others_read h k object d (inl e) ne = others h k object d e ne
    others_read h k object d (inr s) ne =
        false_from_ne_true _ (λ has.
        let l = held_is_locked y h k has in
        let q : Locked l.0 y.digest ≡ Shared object s.0 = sym l.1 ∙ s.1 in cc)

    anchor_locked : (x : Session) → (h : Holding rules shard t x) → (object : Bytes) × ((t.at h.key).state ≡ Locked object x.digest)
    anchor_locked x h = held_is_locked x h h.key (anchor_is_piece x h.key h.is)

    pub kept_lock : settled_at t key y.digest ≡ None → is_ready t (used_up rules y shard) (read_only rules y shard) ≡ true → Kept rules known commits aborts shard (with_locks t y.digest (used_up rules y shard) (read_only rules y shard))
    kept_lock free both =
        let ready : all_ready t (used_up rules y shard) ≡ true = (and_parts _ _ both).0 in
        let readable : all_readable t (read_only rules y shard) ≡ true = (and_parts (all_ready t (used_up rules y shard)) _ both).1 in
        let used = λ (k : Key). has_key k (used_up rules y shard) in
        let read = λ (k : Key). has_key k (read_only rules y shard) in
        let was = open_parts (t.at key).state (t.at key).book y.digest free in
        let room : length (t.at key).book < 1024 = ltb-true _ _ was.3 in
        record {
          locked = λ k object d e.
              elim (lock_cases (used k) (read k) y.digest (t.at k).state object d e) [
                | inl before ↦
                    let by = kept.locked k object d before in
                    record {
                      x = by.x;
                      knows = by.knows;
                      digest = by.digest;
                      piece = by.piece;
                      within = by.within;
                      key_is = by.key_is;
                      object_is = by.object_is;
                      holding = record {
                        all = λ piece h. lock_keeps (used piece.key) (read piece.key) y.digest (t.at piece.key).state piece.object by.x.digest (by.holding.all piece h);
                        reads = λ piece h. lock_keeps_read (used piece.key) (read piece.key) y.digest (t.at piece.key).state piece.object by.x.digest (by.holding.reads piece h);
                        key = by.holding.key;
                        is = by.holding.is;
                        unnoted = by.holding.unnoted;
                        short = by.holding.short;
                      };
                    }
                | inr now ↦
                    let p = has_piece k _ now.0 in
                    let state : (t.at k).state ≡ Active p.0.object = ap (λ z. (t.at z).state) p.2 ∙ ready_at t _ ready p.0 p.1 in
                    let object_is : object ≡ p.0.object = let q : Active object ≡ Active p.0.object = sym now.1 ∙ state in cc in
                    record {
                      x = y;
                      knows = knows;
                      digest = now.2;
                      piece = p.0;
                      within = p.1;
                      key_is = p.2;
                      object_is = object_is;
                      holding = record {
                        all = λ piece h. lock_takes (used piece.key) (read piece.key) y.digest (t.at piece.key).state piece.object (piece_has piece _ h) (ready_at t _ ready piece h);
                        reads = λ piece h. lock_reads (used piece.key) (read piece.key) y.digest (t.at piece.key).state piece.object
                            (λ u. let q = has_piece piece.key (used_up rules y shard) u in (q.0.object, ap (λ z. (t.at z).state) q.2 ∙ ready_at t _ ready q.0 q.1))
                            (piece_has piece _ h) (open_at t _ readable piece h);
                        key = key;
                        is = is;
                        unnoted = was.1;
                        short = omega (arith, room);
                      };
                    }
              ];
          inactive = λ k d e. kept.inactive k d (lock_inactive (used k) (read k) y.digest (t.at k).state d e);
          noted = λ k d e. kept.noted k d e;
        }

    pub kept_note : settled_at t key y.digest ≡ None → Kept rules known commits aborts shard (with_vote t key y.digest Abort)
    kept_note free =
        let was = open_parts (t.at key).state (t.at key).book y.digest free in
        let room : length (t.at key).book < 1024 = ltb-true _ _ was.3 in
        record {
          locked = λ k object d e.
              let by = kept.locked k object d e in
              let h = by.holding in
              let ne : by.x.digest ≡ y.digest → ⊥ = λ same.
              let xy : by.x ≡ y = unique by.x y by.knows knows same in
              let hy : Holding rules shard t y = subst (λ z. Holding rules shard t z) xy h in
              let l = held_is_locked y hy key (anchor_is_piece y key is) in
              both_ways _ was.0 (held_if_locked y.digest l.0 y.digest _ l.1 refl) in
              let note : Bytes × Vote = (y.digest, Abort) in
              record {
                x = by.x;
                knows = by.knows;
                digest = by.digest;
                piece = by.piece;
                within = by.within;
                key_is = by.key_is;
                object_is = by.object_is;
                holding = record {
                  all = h.all;
                  reads = h.reads;
                  key = h.key;
                  is = h.is;
                  unnoted = more_other (key_eq h.key key) (t.at h.key).book note by.x.digest ne ∙ h.unnoted;
                  short = elim (cases_Bool (key_eq h.key key)) [
                    | inl same ↦
                        let below : length (t.at h.key).book < 1024 = subst (λ z. length (t.at z).book < 1024) (sym (same_key _ _ same)) room in
                        more_length (key_eq h.key key) (t.at h.key).book note below
                    | inr other ↦ subst (λ z. length z ≤ 1024) (sym (more_short (key_eq h.key key) (t.at h.key).book note other)) h.short
                  ];
                };
              };
          inactive = λ k d e. kept.inactive k d e;
          noted = λ k d e. kept.noted k d (more_abort (key_eq k key) (t.at k).book d y.digest e);
        }

    pub kept_accept : is_locked_by y.digest (t.at key).state ≡ true → commits y → Kept rules known commits aborts shard (with_accepted rules shard t y)
    kept_accept held all =
        let hy = own held in
        record {
          locked = λ k object d e.
              let was = accept_locked (has_key k (used_up rules y shard)) (has_key k (read_only rules y shard)) y.digest (object_under (new_pieces rules shard t y) k) (t.at k).state object d e in
              let by = kept.locked k object d was.1 in
              let ne : y.digest ≡ by.x.digest → ⊥ = λ same.
              let yx : by.x ≡ y = unique by.x y by.knows knows (sym same) in
              both_ways _ was.0 (rw by.key_is (piece_has by.piece _ (subst (λ z. IsIn by.piece (used_up rules z shard)) yx by.within))) in
              record {
                x = by.x;
                knows = by.knows;
                digest = by.digest;
                piece = by.piece;
                within = by.within;
                key_is = by.key_is;
                object_is = by.object_is;
                holding = record {
                  all = λ piece h.
                      let l = by.holding.all piece h in
                      accept_keeps (has_key piece.key (used_up rules y shard)) (has_key piece.key (read_only rules y shard)) y.digest (object_under (new_pieces rules shard t y) piece.key) (t.at piece.key).state piece.object by.x.digest
                      (others hy piece.key piece.object by.x.digest l ne) l;
                  reads = λ piece h.
                      let l = by.holding.reads piece h in
                      accept_keeps_read (has_key piece.key (used_up rules y shard)) (has_key piece.key (read_only rules y shard)) y.digest (object_under (new_pieces rules shard t y) piece.key) (t.at piece.key).state piece.object by.x.digest
                      (others_read hy piece.key piece.object by.x.digest l ne) ne l;
                  key = by.holding.key;
                  is = by.holding.is;
                  unnoted = by.holding.unnoted;
                  short = by.holding.short;
                };
              };
          inactive = λ k d e.
              elim (accept_inactive (has_key k (used_up rules y shard)) (has_key k (read_only rules y shard)) y.digest (object_under (new_pieces rules shard t y) k) (t.at k).state d e) [
                | inl now ↦ record { x = y; knows = knows; digest = now.1; holds = all }
                | inr before ↦ kept.inactive k d before
              ];
          noted = λ k d e. kept.noted k d e;
        }

    pub kept_abort : is_locked_by y.digest (t.at key).state ≡ true → aborts y → Kept rules known commits aborts shard (with_aborted t y.digest key (used_up rules y shard) (read_only rules y shard))
    kept_abort held one =
        let hy = own held in
        let note : Bytes × Vote = (y.digest, Commit) in
        record {
          locked = λ k object d e.
              let was = undo_locked (has_key k (used_up rules y shard)) (has_key k (read_only rules y shard)) y.digest (t.at k).state object d e in
              let by = kept.locked k object d was.1 in
              let h = by.holding in
              let ne : y.digest ≡ by.x.digest → ⊥ = λ same.
              let yx : by.x ≡ y = unique by.x y by.knows knows (sym same) in
              both_ways _ was.0 (rw by.key_is (piece_has by.piece _ (subst (λ z. IsIn by.piece (used_up rules z shard)) yx by.within))) in
              let l = anchor_locked by.x h in
              let m = locked_by y.digest (t.at key).state held in
              let apart : key_eq h.key key ≡ false = false_from_ne_true _ (λ same.
              let at = same_key _ _ same in
              ne (two_locks _ m.0 l.0 y.digest by.x.digest m.1 (ap (λ z. (t.at z).state) (sym at) ∙ l.1))) in
              let book : more (key_eq h.key key && nat_lt (length (t.at h.key).book) 1025) (t.at h.key).book note ≡ (t.at h.key).book =
              more_short _ _ note (ap (λ b. b && nat_lt (length (t.at h.key).book) 1025) apart) in
              record {
                x = by.x;
                knows = by.knows;
                digest = by.digest;
                piece = by.piece;
                within = by.within;
                key_is = by.key_is;
                object_is = by.object_is;
                holding = record {
                  all = λ piece i.
                      let lp = h.all piece i in
                      undo_keeps (has_key piece.key (used_up rules y shard)) (has_key piece.key (read_only rules y shard)) y.digest (t.at piece.key).state piece.object by.x.digest (others hy piece.key piece.object by.x.digest lp ne) lp;
                  reads = λ piece i.
                      let lp = h.reads piece i in
                      undo_keeps_read (has_key piece.key (used_up rules y shard)) (has_key piece.key (read_only rules y shard)) y.digest (t.at piece.key).state piece.object by.x.digest (others_read hy piece.key piece.object by.x.digest lp ne) ne lp;
                  key = h.key;
                  is = h.is;
                  unnoted = ap (λ z. vote_in z by.x.digest) book ∙ h.unnoted;
                  short = subst (λ z. length z ≤ 1024) (sym book) h.short;
                };
              };
          inactive = λ k d e. kept.inactive k d (undo_inactive (has_key k (used_up rules y shard)) (has_key k (read_only rules y shard)) y.digest (t.at k).state d e);
          noted = λ k d e.
              elim (more_commit (key_eq k key && nat_lt (length (t.at k).book) 1025) (t.at k).book d y.digest e) [
                | inl before ↦ kept.noted k d before
                | inr now ↦ record { x = y; knows = knows; digest = sym now; holds = one }
              ];
        }

    -- what a known session's anchor fixes stays fixed
    module _ (x : Session) (knows_x : IsIn x known) (k : Key) (is_x : anchor rules x shard ≡ Some k) (vote : Vote) (fixed : settled_at t k x.digest ≡ Some vote) where
      pub same_anchor : x.digest ≡ y.digest → k ≡ key
      same_anchor same =
          let xy : x ≡ y = unique x y knows_x knows same in
          same_some k key (sym is_x ∙ ap (λ z. anchor rules z shard) xy ∙ is)

      differs : settled_at t key y.digest ≡ None → x.digest ≡ y.digest → ⊥
      differs free same =
          let e : settled_at t k x.digest ≡ settled_at t key y.digest = λ i. settled_at t (same_anchor same i) (same i) in
          let f : Some vote ≡ None = sym fixed ∙ e ∙ free in cc

      fixed_lock_state : (used read : Bool) → settled_at t key y.digest ≡ None → settled (lock_state used read y.digest (t.at k).state) (t.at k).book x.digest ≡ Some vote
      fixed_lock_state true read free = settled_locked (t.at k).state y.digest x.digest (t.at k).book vote (differs free) fixed
      fixed_lock_state false true free = settled_joined y.digest (t.at k).state (t.at k).book x.digest vote fixed
      fixed_lock_state false false free = fixed

      pub fixed_lock : settled_at t key y.digest ≡ None → settled_at (with_locks t y.digest (used_up rules y shard) (read_only rules y shard)) k x.digest ≡ Some vote
      fixed_lock free = fixed_lock_state (has_key k (used_up rules y shard)) (has_key k (read_only rules y shard)) free

      pub fixed_note : settled_at t key y.digest ≡ None → settled_at (with_vote t key y.digest Abort) k x.digest ≡ Some vote
      fixed_note free = more_settled (key_eq k key) (t.at k).state (t.at k).book ((y.digest, Abort)) x.digest vote (differs free) fixed

      pub fixed_accept : is_locked_by y.digest (t.at key).state ≡ true → settled_at (with_accepted rules shard t y) k x.digest ≡ Some vote
      fixed_accept held =
          let hy = own held in
          let new = object_under (new_pieces rules shard t y) k in
          let state = (t.at k).state in
          let book = (t.at k).book in
          let goal = λ (used read : Bool). settled (accept_state used read y.digest new state) book x.digest in
          elim (cases_Bool (has_key k (used_up rules y shard))) as (λ _. goal (has_key k (used_up rules y shard)) (has_key k (read_only rules y shard)) ≡ Some vote) [
            | inl u ↦
                let l = held_is_locked y hy k u in
                (ap (λ b. goal b (has_key k (read_only rules y shard))) u)
                ∙ settled_used l.0 y.digest x.digest book vote (ap (λ s. settled s book x.digest) (sym l.1) ∙ fixed)
            | inr u ↦
                ap (λ b. goal b (has_key k (read_only rules y shard))) u
                ∙ elim (cases_Bool (has_key k (read_only rules y shard))) as (λ _. goal false (has_key k (read_only rules y shard)) ≡ Some vote) [
                  | inl r ↦ ap (goal false) r ∙ settled_left y.digest state book x.digest vote fixed
                  | inr r ↦ ap (goal false) r ∙ settled_made new state book x.digest vote fixed
                ]
          ]

      fixed_undo_state : Holding rules shard t y → (x.digest ≡ y.digest → ⊥) → (used read : Bool) → has_key k (used_up rules y shard) ≡ used → settled (undo_state used read y.digest (t.at k).state) (t.at k).book x.digest ≡ Some vote
      fixed_undo_state hy ne true read e =
          let l = held_is_locked y hy k e in
          ap (λ s. settled (released s) (t.at k).book x.digest) l.1
          ∙ settled_released l.0 y.digest x.digest (t.at k).book vote ne (ap (λ s. settled s (t.at k).book x.digest) (sym l.1) ∙ fixed)
      fixed_undo_state hy ne false true e = settled_left y.digest (t.at k).state (t.at k).book x.digest vote fixed
      fixed_undo_state hy ne false false e = fixed

      pub fixed_abort : is_locked_by y.digest (t.at key).state ≡ true → settled_at (with_aborted t y.digest key (used_up rules y shard) (read_only rules y shard)) k x.digest ≡ Some vote
      fixed_abort held =
          let hy = own held in
          let note : Bytes × Vote = (y.digest, Commit) in
          let state = (t.at k).state in
          let book = (t.at k).book in
          let noted = key_eq k key && nat_lt (length book) 1025 in
          elim (cases_Bool (bytes_eq x.digest y.digest)) as (λ _. settled (undo_state (has_key k (used_up rules y shard)) (has_key k (read_only rules y shard)) y.digest state) (more noted book note) x.digest ≡ Some vote) [
            | inl e ↦
                let same = same_bytes x.digest y.digest e in
                let l = held_is_locked y hy key (anchor_is_piece y key is) in
                let at = same_some hy.key key (sym hy.is ∙ is) in
                let unnoted : vote_in (t.at key).book y.digest ≡ None = ap (λ z. vote_in (t.at z).book y.digest) (sym at) ∙ hy.unnoted in
                let short : length (t.at key).book ≤ 1024 = subst (λ z. length (t.at z).book ≤ 1024) at hy.short in
                let full : (key_eq key key && nat_lt (length (t.at key).book) 1025) ≡ true = and_from _ _ (key_refl key) (lt-ltb _ _ (omega (arith, short))) in
                let after : settled_at (with_aborted t y.digest key (used_up rules y shard) (read_only rules y shard)) key y.digest ≡ Some Commit =
                (λ i. settled (undo_state (anchor_is_piece y key is i) (has_key key (read_only rules y shard)) y.digest (l.1 i)) (more (full i) (t.at key).book note) y.digest)
                ∙ settled_own (Active l.0) (t.at key).book y.digest Commit refl unnoted in
                let before : settled_at t key y.digest ≡ Some Commit =
                held_settles (t.at key).state (t.at key).book y.digest (held_if_locked y.digest l.0 y.digest _ l.1 refl) in
                let moved : settled_at t k x.digest ≡ settled_at t key y.digest = λ i. settled_at t (same_anchor same i) (same i) in
                (λ i. settled_at (with_aborted t y.digest key (used_up rules y shard) (read_only rules y shard)) (same_anchor same i) (same i))
                ∙ after ∙ sym before ∙ sym moved ∙ fixed
            | inr other ↦
                let ne : x.digest ≡ y.digest → ⊥ = λ same. both_ways _ other (bytes_from _ _ same) in
                more_settled noted (undo_state (has_key k (used_up rules y shard)) (has_key k (read_only rules y shard)) y.digest state) book note x.digest vote ne
                (fixed_undo_state hy ne (has_key k (used_up rules y shard)) (has_key k (read_only rules y shard)) refl)
          ]
