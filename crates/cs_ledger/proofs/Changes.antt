-- What executing an entry does: nothing, or one of four changes.
use Rattle.std.proofs.Common.{◌≡◌, ℕ, Bool, true, false, ◌&&◌, Option, Some, None, refl, subst}
use Rattle.std.proofs.lemmas.Bool.{cond_both}
use Rattle.cs_ledger.specs.Ledger.{Bytes}
use Rattle.cs_ledger.specs.Session.{Session, Rules, Key, used_up, read_only, anchor, concerns, well_formed}
use Rattle.cs_ledger.specs.Table.{Vote, Commit, Abort, Table, Entry, Prepare, Decide, Effect, Voted, Accepted, Aborted, Skipped, Void, Outcome, is_held_by, is_locked_by, is_inactive, vote_in, has_room, is_ready, with_locks, with_vote, with_accepted, with_aborted, voted, prepare_open, prepare_unless, prepare, decide, act, session_of, exec}
use Rattle.cs_ledger.proofs.Settled.{settle, settled}

abbrev pub settled_at : Table → Key → Bytes → Option Vote
settled_at t key d = settled (t.at key).state (t.at key).book d

-- a vote that changes nothing is the one that the anchor fixes
pub record Repeats (rules : Rules) (shard : ℕ) (t : Table) (x : Session) (vote : Vote) : Type 0 where
  pub key : Key
  pub is : anchor rules x shard ≡ Some key
  pub fixed : settled_at t key x.digest ≡ Some vote

-- no decision that took change
abbrev pub IsIdle : Effect → Type 0
IsIdle Accepted = ⊥
IsIdle Aborted = ⊥
IsIdle (Voted vote) = Unit {0}
IsIdle Skipped = Unit {0}
IsIdle Void = Unit {0}

pub data Change (rules : Rules) (shard : ℕ) (t : Table) (entry : Entry) (out : Outcome) : Type 0 where
  Nothing : (same : out.table ≡ t) (idle : IsIdle out.effect) (repeats : (x : Session) (vote : Vote) → entry ≡ Prepare x → out.effect ≡ Voted vote → Repeats rules shard t x vote) → Change rules shard t entry out
  Locks : (x : Session) (key : Key) (what : entry ≡ Prepare x) (is : anchor rules x shard ≡ Some key) (free : settled_at t key x.digest ≡ None) (ready : is_ready t (used_up rules x shard) (read_only rules x shard) ≡ true) (to : out ≡ voted (with_locks t x.digest (used_up rules x shard) (read_only rules x shard)) Commit) → Change rules shard t entry out
  Notes : (x : Session) (key : Key) (what : entry ≡ Prepare x) (is : anchor rules x shard ≡ Some key) (free : settled_at t key x.digest ≡ None) (to : out ≡ voted (with_vote t key x.digest Abort) Abort) → Change rules shard t entry out
  Accepts : (x : Session) (key : Key) (what : entry ≡ Decide x Commit) (is : anchor rules x shard ≡ Some key) (held : is_locked_by x.digest (t.at key).state ≡ true) (to : out ≡ record { table = with_accepted rules shard t x; effect = Accepted }) → Change rules shard t entry out
  Aborts : (x : Session) (key : Key) (what : entry ≡ Decide x Abort) (is : anchor rules x shard ≡ Some key) (held : is_locked_by x.digest (t.at key).state ≡ true) (to : out ≡ record { table = with_aborted t x.digest key (used_up rules x shard) (read_only rules x shard); effect = Aborted }) → Change rules shard t entry out

module _ (rules : Rules) (shard : ℕ) (t : Table) where
  same_vote : (x : Session) (key : Key) (vote : Vote) → anchor rules x shard ≡ Some key → settled_at t key x.digest ≡ Some vote → Change rules shard t (Prepare x) (voted t vote)
  same_vote x key vote is fixed =
      Nothing refl tt (λ y other e r.
      let xy : x ≡ y = cc in
      let v : vote ≡ other = cc in
      subst (λ z. Repeats rules shard t z other) xy (subst (λ w. Repeats rules shard t x w) v (record { key = key; is = is; fixed = fixed })))

  module _ (x : Session) (key : Key) (is : anchor rules x shard ≡ Some key) where
    parts : (held : Bool) (noted : Option Vote) (gone room : Bool) → is_held_by x.digest (t.at key).state ≡ held → vote_in (t.at key).book x.digest ≡ noted → is_inactive (t.at key).state ≡ gone → has_room (t.at key).book ≡ room → settled_at t key x.digest ≡ settle held noted gone room
    parts held noted gone room a b c d = λ i. settle (a i) (b i) (c i) (d i)

    opened : is_held_by x.digest (t.at key).state ≡ false → vote_in (t.at key).book x.digest ≡ None → is_inactive (t.at key).state ≡ false → Change rules shard t (Prepare x) (prepare_open t x.digest key (used_up rules x shard) (read_only rules x shard))
    opened a b c =
        cond_both (has_room (t.at key).book) _ _ (λ o. Change rules shard t (Prepare x) o)
        (λ d. cond_both (is_ready t (used_up rules x shard) (read_only rules x shard)) _ _ (λ o. Change rules shard t (Prepare x) o)
        (λ e. Locks x key refl is (parts _ _ _ _ a b c d) e refl)
        (λ e. Notes x key refl is (parts _ _ _ _ a b c d) refl))
        (λ d. same_vote x key Abort is (parts _ _ _ _ a b c d))

    unless : (noted : Option Vote) → is_held_by x.digest (t.at key).state ≡ false → vote_in (t.at key).book x.digest ≡ noted → Change rules shard t (Prepare x) (prepare_unless t x.digest key (used_up rules x shard) (read_only rules x shard) noted)
    unless (Some vote) a b = same_vote x key vote is (parts _ _ _ _ a b refl refl)
    unless None a b =
        cond_both (is_inactive (t.at key).state) _ _ (λ o. Change rules shard t (Prepare x) o)
        (λ c. same_vote x key Abort is (parts _ _ _ _ a b c refl))
        (λ c. opened a b c)

    prepares : Change rules shard t (Prepare x) (prepare t x.digest key (used_up rules x shard) (read_only rules x shard))
    prepares =
        cond_both (is_held_by x.digest (t.at key).state) _ _ (λ o. Change rules shard t (Prepare x) o)
        (λ a. same_vote x key Commit is (parts _ _ _ _ a refl refl refl))
        (λ a. unless _ a refl)

    decides : (vote : Vote) → Change rules shard t (Decide x vote) (decide rules shard t x key vote)
    decides Commit =
        cond_both (is_locked_by x.digest (t.at key).state) _ _ (λ o. Change rules shard t (Decide x Commit) o)
        (λ a. Accepts x key refl is a refl)
        (λ a. Nothing refl tt (λ y v e r. cc))
    decides Abort =
        cond_both (is_locked_by x.digest (t.at key).state) _ _ (λ o. Change rules shard t (Decide x Abort) o)
        (λ a. Aborts x key refl is a refl)
        (λ a. Nothing refl tt (λ y v e r. cc))

  acts : (entry : Entry) (o : Option Key) → anchor rules (session_of entry) shard ≡ o → Change rules shard t entry (act rules shard t entry o)
  acts entry None is = Nothing refl tt (λ y v e r. cc)
  acts (Prepare x) (Some key) is = prepares x key is
  acts (Decide x vote) (Some key) is = decides x key is vote

  pub change : (entry : Entry) → Change rules shard t entry (exec rules shard t entry)
  change entry =
      cond_both (well_formed rules (session_of entry) && concerns rules (session_of entry) shard) _ _ (λ o. Change rules shard t entry o)
      (λ a. acts entry (anchor rules (session_of entry) shard) refl)
      (λ a. Nothing refl tt (λ y v e r. cc))
