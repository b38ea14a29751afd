-- How a session stands in the table of a log: accepted, where it was accepted in the log; and where it stands aborted, the log gave it no commit vote unless it aborted it.
use Rattle.std.proofs.Common.{◌≡◌, ◌⊎◌, inl, inr, ℕ, Bool, true, false, not, ◌&&◌, ◌||◌, List, [], ◌∷◌, Option, Some, None, sym, ◌∙◌, ap, subst, refl}
use Rattle.std.specs.Prelude.{bytes_eq, is_some}
use Rattle.std.proofs.lemmas.Bool.{and_from, or_left, or_right}
use Rattle.cs_base.specs.Lists.{IsIn}
use Rattle.cs_ledger.specs.Ledger.{Bytes}
use Rattle.cs_ledger.specs.Session.{AreToldApart, Session, Rules, Key, has_key, key_eq, anchor, used_up, read_only, object_under}
use Rattle.cs_ledger.specs.Table.{Vote, Commit, Abort, State, Unknown, Active, Locked, Inactive, Shared, Record, Table, Entry, Outcome, Effect, Accepted, Aborted, is_held_by, is_locked_by, is_inactive, vote_in, has_room, new_pieces, exec, table_of}
use Rattle.cs_ledger.specs.Standing.{is_inactive_by, has_lost, stands_accepted, stands_aborted}
use Rattle.cs_ledger.specs.ShardWorld.{votes_in, decided_in, is_decide_of, is_effect, sessions_of}
use Rattle.cs_ledger.proofs.Settled.{settle, settled}
use Rattle.cs_ledger.proofs.Changes.{settled_at, Change, Nothing, Locks, Notes, Accepts, Aborts, change}
use Rattle.cs_ledger.proofs.Alone.{fixed_alone}
use Rattle.cs_node_law.proofs.Notes.{by-lock, by-undo, by-accept, none-used, noted-if, noted-voted}

and-true : (b : Bool) → b ≡ true → (b && true) ≡ true
and-true b e = and_from b true e refl

module _ (r : Rules) (shard : ℕ) (t : Table) (d : Bytes) (key : Key) (entry : Entry) (out : Outcome) where
  abbrev Takes : Effect → Type 0
  Takes effect = (is_decide_of d entry && is_effect effect out.effect) ≡ true

  -- what is used up by the session was used up before, or is accepted now
  abbrev IsUsed : Table → Type 0
  IsUsed u = is_inactive_by d (u.at key).state ≡ true

  used-now : Change r shard t entry out → IsUsed out.table → IsUsed t ⊎ Takes Accepted
  used-now (Nothing same idle repeats) h = inl (subst IsUsed same h)
  used-now (Locks x k what is free ready to) h =
      inl (by-lock (has_key key (used_up r x shard)) (has_key key (read_only r x shard)) d x.digest (t.at key).state (subst (λ (o : Outcome). IsUsed o.table) to h))
  used-now (Notes x k what is free to) h = inl (subst (λ (o : Outcome). IsUsed o.table) to h)
  used-now (Accepts x k what is held to) h =
      elim (by-accept (has_key key (used_up r x shard)) (has_key key (read_only r x shard)) d x.digest (object_under (new_pieces r shard t x) key) (t.at key).state (subst (λ (o : Outcome). IsUsed o.table) to h)) [
        | inl old ↦ inl old
        | inr new ↦ inr (subst (λ (o : Outcome). (is_decide_of d entry && is_effect Accepted o.effect) ≡ true) (sym to) (subst (λ e. (is_decide_of d e && true) ≡ true) (sym what) (and-true (bytes_eq d x.digest) new)))
      ]
  used-now (Aborts x k what is held to) h =
      inl (by-undo (has_key key (used_up r x shard)) (has_key key (read_only r x shard)) d x.digest (t.at key).state (subst (λ (o : Outcome). IsUsed o.table) to h))

  -- a commit that is noted was noted before, or the session is aborted now
  abbrev IsNoted : Table → Type 0
  IsNoted u = vote_in (u.at key).book d ≡ Some Commit

  noted-now : Change r shard t entry out → IsNoted out.table → IsNoted t ⊎ Takes Aborted
  noted-now (Nothing same idle repeats) h = inl (subst IsNoted same h)
  noted-now (Locks x k what is free ready to) h = inl (subst (λ (o : Outcome). IsNoted o.table) to h)
  noted-now (Notes x k what is free to) h =
      elim (noted-if (key_eq key k) (t.at key).book x.digest Abort d Commit (subst (λ (o : Outcome). IsNoted o.table) to h)) [
        | inl old ↦ inl old
        | inr new ↦ absurd (let q = new.1 in cc)
      ]
  noted-now (Accepts x k what is held to) h = inl (subst (λ (o : Outcome). IsNoted o.table) to h)
  noted-now (Aborts x k what is held to) h =
      elim (noted-if _ (t.at key).book x.digest Commit d Commit (subst (λ (o : Outcome). IsNoted o.table) to h)) [
        | inl old ↦ inl old
        | inr new ↦ inr (subst (λ (o : Outcome). (is_decide_of d entry && is_effect Aborted o.effect) ≡ true) (sym to) (subst (λ e. (is_decide_of d e && true) ≡ true) (sym what) (and-true (bytes_eq d x.digest) new.0)))
      ]

module _ (r : Rules) (shard : ℕ) (d : Bytes) (key : Key) where
  -- a session that stands accepted was accepted
  pub accepted-log : (log : List Entry) → stands_accepted ((table_of r shard log).at key) d ≡ true → decided_in r shard d Accepted log ≡ true
  accepted-log [] h = absurd (none-used r shard d key h)
  accepted-log (entry ∷ log) h =
      let t = table_of r shard log in
      elim (used-now r shard t d key entry (exec r shard t entry) (change r shard t entry) h) [
        | inl old ↦ or_right _ _ (accepted-log log old)
        | inr new ↦ or_left _ _ new
      ]

  noted-log : (log : List Entry) → vote_in ((table_of r shard log).at key).book d ≡ Some Commit → decided_in r shard d Aborted log ≡ true
  noted-log [] h = cc
  noted-log (entry ∷ log) h =
      let t = table_of r shard log in
      elim (noted-now r shard t d key entry (exec r shard t entry) (change r shard t entry) h) [
        | inl old ↦ or_right _ _ (noted-log log old)
        | inr new ↦ or_left _ _ new
      ]

-- ---- what stands aborted

neither : (a b : Bool) → (not a && not b) ≡ true → (a ≡ false) × (b ≡ false)
neither false false h = (refl, refl)
neither false true h = cc
neither true b h = cc

-- a session that has lost doesn't hold the record, which is used up or worn
lost-parts : (state : State) (room : Bool) (d : Bytes) → is_inactive_by d state ≡ false → (is_inactive state || (not room && not (is_locked_by d state))) ≡ true
    → (is_held_by d state ≡ false) × ((is_inactive state || not room) ≡ true)
lost-parts Unknown true d used h = cc
lost-parts Unknown false d used h = (refl, refl)
lost-parts (Active object) true d used h = cc
lost-parts (Active object) false d used h = (refl, refl)
lost-parts (Locked object by) room d used h = let n = neither room (bytes_eq d by) h in (n.1, ap not n.0)
lost-parts (Inactive by) room d used h = (used, refl)
lost-parts (Shared object readers) true d used h = cc
lost-parts (Shared object readers) false d used h = (refl, refl)

settle-lost : (held gone room : Bool) → held ≡ false → (gone || not room) ≡ true → settle held None gone room ≡ Some Abort
settle-lost true gone room h e = cc
settle-lost false true room h e = refl
settle-lost false false true h e = cc
settle-lost false false false h e = refl

not-both : (a b : Bool) → (not a && b) ≡ true → (a ≡ false) × (b ≡ true)
not-both false b h = (refl, h)
not-both true b h = cc

settled-lost : (r : Record) (d : Bytes) → vote_in r.book d ≡ None → stands_aborted r d ≡ true → settled r.state r.book d ≡ Some Abort
settled-lost r d none h =
    let parts = not-both (stands_accepted r d) _ h in
    let lost : has_lost r d ≡ true = ap (λ (o : Option Vote). is_some o || has_lost r d) (sym none) ∙ parts.1 in
    let p = lost-parts r.state (has_room r.book) d parts.0 lost in
    ap (λ o. settle (is_held_by d r.state) o (is_inactive r.state) (has_room r.book)) none
    ∙ settle-lost (is_held_by d r.state) (is_inactive r.state) (has_room r.book) p.0 p.1

-- A shard in whose table a session stands aborted gave it no commit vote, unless it aborted it or gave it an abort vote too.
pub aborted-log : (r : Rules) (shard : ℕ) (known : List Session) → AreToldApart known → (x : Session) → IsIn x known → (key : Key) → anchor r x shard ≡ Some key
    → (log : List Entry) → ((z : Session) → IsIn z (sessions_of log) → IsIn z known) → stands_aborted ((table_of r shard log).at key) x.digest ≡ true → votes_in r shard x.digest Commit log ≡ true
    → (decided_in r shard x.digest Aborted log ≡ true) ⊎ (votes_in r shard x.digest Abort log ≡ true)
aborted-log r shard known unique x knows key is log within stands commits = by (vote_in ((table_of r shard log).at key).book x.digest) refl
  where
    by : (o : Option Vote) → vote_in ((table_of r shard log).at key).book x.digest ≡ o → (decided_in r shard x.digest Aborted log ≡ true) ⊎ (votes_in r shard x.digest Abort log ≡ true)
    by (Some Commit) e = inl (noted-log r shard x.digest key log e)
    by (Some Abort) e = inr (noted-voted r shard x.digest key Abort log e)
    by None e =
        let f = fixed_alone r shard known unique x knows Commit log within commits in
        let same : f.key ≡ key = (let q : Some f.key ≡ Some key = sym f.is ∙ is in cc) in
        let fixed : settled_at (table_of r shard log) key x.digest ≡ Some Commit = subst (λ k. settled_at (table_of r shard log) k x.digest ≡ Some Commit) same f.fixed in
        absurd (let q : Some Abort ≡ Some Commit = sym (settled-lost ((table_of r shard log).at key) x.digest e stands) ∙ fixed in cc)
