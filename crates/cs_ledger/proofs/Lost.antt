-- A session whose standing is Aborted stays so.
use Rattle.std.proofs.Common.{◌≡◌, ℕ, List, [], ◌∷◌, ◌++◌, length, Bool, true, false, not, ◌&&◌, ◌||◌, ◌⊎◌, inl, inr, Option, Some, None, refl, sym, ap, ◌∙◌, subst}
use Rattle.std.specs.Prelude.{is_some, nat_lt}
use Rattle.cs_base.specs.Lists.{IsIn}
use Rattle.cs_ledger.specs.Ledger.{Bytes}
use Rattle.cs_ledger.specs.Session.{AreToldApart, Session, Rules, Key, key_eq, has_key, used_up, read_only, anchor, object_under}
use Rattle.cs_ledger.specs.Table.{Vote, Commit, Abort, Book, State, Unknown, Active, Locked, Inactive, Shared, Table, Entry, session_of, exec, is_locked_by, is_inactive, lock_state, undo_state, accept_state, vote_in, has_room, released, vacated_by, read_by, without_reader, made, new_pieces}
use Rattle.cs_ledger.specs.Standing.{is_inactive_by, stands_aborted}
use Rattle.cs_ledger.proofs.Basics.{bytes_differ}
use Rattle.cs_ledger.proofs.Settled.{open_parts, vote_in-other, stays_full}
use Rattle.cs_ledger.proofs.Changes.{settled_at, Nothing, Locks, Notes, Accepts, Aborts, change}
use Rattle.cs_ledger.proofs.States.{locked_by}
use Rattle.cs_ledger.proofs.Kept.{Kept, own, held_is_locked, more}
use Rattle.cs_ledger.proofs.Entries.{same_out}

abbrev is_lost : State → Book → Bytes → Bool
is_lost state book d = stands_aborted (record { state = state; book = book }) d

abbrev lost : Bool → Bool → Bool → Bool → Bool → Bool
lost by noted gone room held = not by && (noted || (gone || (not room && not held)))

lost_less : (by noted gone room less held : Bool) → (room ≡ false → less ≡ false) → lost by noted gone room held ≡ true → lost by noted gone less held ≡ true
lost_less true noted gone room less held h e = e
lost_less false true gone room less held h e = e
lost_less false false true room less held h e = e
lost_less false false false true less held h e = cc
lost_less false false false false less held h e = ap (λ b. not b && not held) (h refl) ∙ e

abbrev pub lost_at : Table → Key → Bytes → Bool
lost_at t key d = stands_aborted (t.at key) d

-- another session's changes of a state
other_lock : (used read : Bool) (by d : Bytes) (state : State) (book : Book) → (d ≡ by → ⊥) → is_lost state book d ≡ true → is_lost (lock_state used read by state) book d ≡ true
other_lock true read by d Unknown book ne e = e
other_lock true read by d (Active object) book ne e =
    ap (λ held. lost false (is_some (vote_in book d)) false (has_room book) held) (bytes_differ d by ne) ∙ e
other_lock true read by d (Locked object other) book ne e = e
other_lock true read by d (Inactive other) book ne e = e
other_lock true read by d (Shared object readers) book ne e = e
other_lock false true by d Unknown book ne e = e
other_lock false true by d (Active object) book ne e = e
other_lock false true by d (Locked object other) book ne e = e
other_lock false true by d (Inactive other) book ne e = e
other_lock false true by d (Shared object readers) book ne e = e
other_lock false false by d state book ne e = e

other_release : (object by d : Bytes) (book : Book) → (d ≡ by → ⊥) → is_lost (Locked object by) book d ≡ true → is_lost (Active object) book d ≡ true
other_release object by d book ne e =
    ap (λ held. lost false (is_some (vote_in book d)) false (has_room book) held) (sym (bytes_differ d by ne)) ∙ e

-- who reads a key, and who leaves it, makes no other standing of whom it is the anchor
other_readers : (object : Bytes) (readers more : List Bytes) (book : Book) (d : Bytes) → is_lost (Shared object readers) book d ≡ true → is_lost (read_by object more) book d ≡ true
other_readers object readers [] book d e = e
other_readers object readers (reader ∷ more) book d e = e

other_leaves : (by d : Bytes) (state : State) (book : Book) → is_lost state book d ≡ true → is_lost (vacated_by by state) book d ≡ true
other_leaves by d Unknown book e = e
other_leaves by d (Active object) book e = e
other_leaves by d (Locked object other) book e = e
other_leaves by d (Inactive other) book e = e
other_leaves by d (Shared object readers) book e = other_readers object readers (without_reader by readers) book d e

other_use : (by d : Bytes) (book : Book) → (d ≡ by → ⊥) → is_lost (Inactive by) book d ≡ true
other_use by d book ne =
    ap (λ b. not b && (is_some (vote_in book d) || true)) (bytes_differ d by ne) ∙ or_true (is_some (vote_in book d))
  where
    or_true : (b : Bool) → (b || true) ≡ true
    or_true true = refl
    or_true false = refl

other_made : (new : Option Bytes) (state : State) (book : Book) (d : Bytes) → is_lost state book d ≡ true → is_lost (made new state) book d ≡ true
other_made None state book d e = e
other_made (Some object) Unknown book d e = e
other_made (Some object) (Active other) book d e = e
other_made (Some object) (Locked other by) book d e = e
other_made (Some object) (Inactive by) book d e = e
other_made (Some object) (Shared other readers) book d e = e

other_note : (b : Bool) (state : State) (book : Book) (note : Bytes × Vote) (d : Bytes) → (d ≡ note.0 → ⊥) → is_lost state book d ≡ true → is_lost state (more b book note) d ≡ true
other_note true state book note d ne e =
    lost_less (is_inactive_by d state) (is_some (vote_in (book ++ note ∷ []) d)) (is_inactive state) (has_room book) (has_room (book ++ note ∷ [])) (is_locked_by d state) (stays_full book note)
    (ap (λ o. lost (is_inactive_by d state) (is_some o) (is_inactive state) (has_room book) (is_locked_by d state)) (vote_in-other book note d ne) ∙ e)
other_note false state book note d ne e = e

no_lost : (by : Bool) (noted : Option Vote) (gone room held : Bool) → noted ≡ None → gone ≡ false → (room ≡ true) ⊎ (held ≡ true) → lost by (is_some noted) gone room held ≡ true → ⊥
no_lost true noted gone room held n g r e = cc
no_lost false (Some v) gone room held n g r e = cc
no_lost false None true room held n g r e = cc
no_lost false None false true held n g r e = cc
no_lost false None false false true n g r e = cc
no_lost false None false false false n g (inl r) e = cc
no_lost false None false false false n g (inr r) e = cc

module _ (rules : Rules) (known : List Session) (unique : AreToldApart known) (shard : ℕ) (t : Table) (commits aborts : Session → Type 0) (kept : Kept rules known commits aborts shard t) (x : Session) (knows_x : IsIn x known) (k : Key) (is_x : anchor rules x shard ≡ Some k) (was : lost_at t k x.digest ≡ true) where
  module _ (y : Session) (knows : IsIn y known) (key : Key) (is : anchor rules y shard ≡ Some key) where
    one_key : x.digest ≡ y.digest → k ≡ key
    one_key same =
        let xy : x ≡ y = unique x y knows_x knows same in
        let e : Some k ≡ Some key = sym is_x ∙ ap (λ z. anchor rules z shard) xy ∙ is in cc

    moved : x.digest ≡ y.digest → lost_at t key y.digest ≡ true
    moved same = (λ i. lost_at t (sym (one_key same) i) (sym same i)) ∙ was

    open_differs : settled_at t key y.digest ≡ None → x.digest ≡ y.digest → ⊥
    open_differs free same =
        let p = open_parts (t.at key).state (t.at key).book y.digest free in
        no_lost (is_inactive_by y.digest (t.at key).state) _ _ _ (is_locked_by y.digest (t.at key).state) p.1 p.2 (inl p.3) (moved same)

    held_differs : is_locked_by y.digest (t.at key).state ≡ true → x.digest ≡ y.digest → ⊥
    held_differs held same =
        let h = own rules known unique shard t commits aborts kept y knows key is held in
        let l = locked_by y.digest (t.at key).state held in
        let e : Some h.key ≡ Some key = sym h.is ∙ is in
        let at : h.key ≡ key = cc in
        no_lost (is_inactive_by y.digest (t.at key).state) (vote_in (t.at key).book y.digest) (is_inactive (t.at key).state) (has_room (t.at key).book) (is_locked_by y.digest (t.at key).state)
        (ap (λ z. vote_in (t.at z).book y.digest) (sym at) ∙ h.unnoted) (ap is_inactive l.1) (inr held) (moved same)

    lost_accept : is_locked_by y.digest (t.at key).state ≡ true → (used read : Bool) → has_key k (used_up rules y shard) ≡ used → has_key k (read_only rules y shard) ≡ read → is_lost (accept_state used read y.digest (object_under (new_pieces rules shard t y) k) (t.at k).state) (t.at k).book x.digest ≡ true
    lost_accept held true read u r = other_use y.digest x.digest (t.at k).book (held_differs held)
    lost_accept held false true u r = other_leaves y.digest x.digest (t.at k).state (t.at k).book was
    lost_accept held false false u r = other_made (object_under (new_pieces rules shard t y) k) (t.at k).state (t.at k).book x.digest was

    lost_undo : is_locked_by y.digest (t.at key).state ≡ true → (used read : Bool) → has_key k (used_up rules y shard) ≡ used → is_lost (undo_state used read y.digest (t.at k).state) (t.at k).book x.digest ≡ true
    lost_undo held true read u =
        let h = own rules known unique shard t commits aborts kept y knows key is held in
        let l = held_is_locked rules known unique shard t y h k u in
        ap (λ s. is_lost (released s) (t.at k).book x.digest) l.1
        ∙ other_release l.0 y.digest x.digest (t.at k).book (held_differs held) (ap (λ s. is_lost s (t.at k).book x.digest) (sym l.1) ∙ was)
    lost_undo held false true u = other_leaves y.digest x.digest (t.at k).state (t.at k).book was
    lost_undo held false false u = was

  -- the standing Aborted stays
  pub lost_entry : (entry : Entry) → IsIn (session_of entry) known → lost_at (exec rules shard t entry).table k x.digest ≡ true
  lost_entry entry knows =
      let P : Table → Type 0 = λ z. lost_at z k x.digest ≡ true in
      elim (change rules shard t entry) [
        | Nothing same idle repeats ↦ subst P (sym same) was
        | Locks y key what is free ready to ↦
            let ky = subst (λ e. IsIn (session_of e) known) what knows in
            same_out P _ _ to (other_lock (has_key k (used_up rules y shard)) (has_key k (read_only rules y shard)) y.digest x.digest (t.at k).state (t.at k).book (open_differs y ky key is free) was)
        | Notes y key what is free to ↦
            let ky = subst (λ e. IsIn (session_of e) known) what knows in
            same_out P _ _ to (other_note (key_eq k key) (t.at k).state (t.at k).book ((y.digest, Abort)) x.digest (open_differs y ky key is free) was)
        | Accepts y key what is held to ↦
            let ky = subst (λ e. IsIn (session_of e) known) what knows in
            same_out P _ _ to (lost_accept y ky key is held (has_key k (used_up rules y shard)) (has_key k (read_only rules y shard)) refl refl)
        | Aborts y key what is held to ↦
            let ky = subst (λ e. IsIn (session_of e) known) what knows in
            same_out P _ _ to
            (other_note (key_eq k key && nat_lt (length (t.at k).book) 1025) (undo_state (has_key k (used_up rules y shard)) (has_key k (read_only rules y shard)) y.digest (t.at k).state) (t.at k).book ((y.digest, Commit)) x.digest (held_differs y ky key is held)
            (lost_undo y ky key is held (has_key k (used_up rules y shard)) (has_key k (read_only rules y shard)) refl))
      ]
