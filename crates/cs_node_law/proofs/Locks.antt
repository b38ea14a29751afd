-- A lock comes from a Prepare of that session that was voted commit.
use Rattle.std.proofs.Common.{◌≡◌, ◌⊎◌, inl, inr, ℕ, Bool, true, false, ◌&&◌, ◌==◌, nat_lt, if◌then◌else◌, List, [], ◌∷◌, Option, Some, None, sym, ◌∙◌, subst, refl}
use Rattle.std.specs.Prelude.{bytes_eq}
use Rattle.std.proofs.lemmas.Bool.{and_from, or_left, or_right}
use Rattle.cs_ledger.specs.Ledger.{Bytes}
use Rattle.cs_ledger.specs.Session.{Rules, Key, Object, Dummy, has_key, objects_in, anchor, used_up, read_only, object_under}
use Rattle.cs_ledger.specs.Table.{Commit, State, Unknown, Active, Locked, Inactive, Shared, Table, Entry, Outcome, is_locked_by, locked, released, joined_by, vacated_by, read_by, without_reader, made, lock_state, undo_state, accept_state, new_pieces, exec, table_of}
use Rattle.cs_ledger.specs.ShardWorld.{votes_in, is_prepare_of, is_vote}
use Rattle.cs_ledger.proofs.Changes.{Change, Nothing, Locks, Notes, Accepts, Aborts, change}
use Rattle.cs_node_state.specs.Setup.{digest_of}
use Rattle.cs_node_state.specs.Bench.{is_locked_at}
use Rattle.cs_node_rules.specs.Site.{Site}
use Rattle.cs_node_law.specs.Made.{view_at, LocksAreGiven}
use Rattle.cs_node_law.proofs.Logs.{seen_log, table-is, given-is}

not-released : (d : Bytes) (s : State) → is_locked_by d (released s) ≡ true → ⊥
not-released d Unknown h = cc
not-released d (Active object) h = cc
not-released d (Locked object by) h = cc
not-released d (Inactive by) h = cc
not-released d (Shared object readers) h = cc

not-joined : (d by : Bytes) (s : State) → is_locked_by d (joined_by by s) ≡ true → is_locked_by d s ≡ true
not-joined d by Unknown h = h
not-joined d by (Active object) h = cc
not-joined d by (Locked object other) h = h
not-joined d by (Inactive other) h = h
not-joined d by (Shared object readers) h = cc

not-shared : (d object : Bytes) (readers : List Bytes) → is_locked_by d (read_by object readers) ≡ true → ⊥
not-shared d object [] h = cc
not-shared d object (reader ∷ readers) h = cc

not-vacated : (d by : Bytes) (s : State) → is_locked_by d (vacated_by by s) ≡ true → is_locked_by d s ≡ true
not-vacated d by Unknown h = h
not-vacated d by (Active object) h = h
not-vacated d by (Locked object other) h = h
not-vacated d by (Inactive other) h = h
not-vacated d by (Shared object readers) h = absurd (not-shared d object (without_reader by readers) h)

not-made : (d : Bytes) (o : Option Bytes) (s : State) → is_locked_by d (made o s) ≡ true → is_locked_by d s ≡ true
not-made d None s h = h
not-made d (Some object) Unknown h = cc
not-made d (Some object) (Active held) h = h
not-made d (Some object) (Locked held by) h = h
not-made d (Some object) (Inactive by) h = h
not-made d (Some object) (Shared held readers) h = h

newly-locked : (d by : Bytes) (s : State) → is_locked_by d (locked by s) ≡ true → (is_locked_by d s ≡ true) ⊎ (bytes_eq d by ≡ true)
newly-locked d by Unknown h = inl h
newly-locked d by (Active object) h = inr h
newly-locked d by (Locked object other) h = inl h
newly-locked d by (Inactive other) h = inl h
newly-locked d by (Shared object readers) h = inl h

by-lock : (used read : Bool) (d by : Bytes) (s : State) → is_locked_by d (lock_state used read by s) ≡ true → (is_locked_by d s ≡ true) ⊎ (bytes_eq d by ≡ true)
by-lock true read d by s h = newly-locked d by s h
by-lock false true d by s h = inl (not-joined d by s h)
by-lock false false d by s h = inl h

by-undo : (used read : Bool) (d by : Bytes) (s : State) → is_locked_by d (undo_state used read by s) ≡ true → is_locked_by d s ≡ true
by-undo true read d by s h = absurd (not-released d s h)
by-undo false true d by s h = not-vacated d by s h
by-undo false false d by s h = h

by-accept : (used read : Bool) (d by : Bytes) (new : Option Bytes) (s : State) → is_locked_by d (accept_state used read by new s) ≡ true → is_locked_by d s ≡ true
by-accept true read d by new s h = cc
by-accept false true d by new s h = not-vacated d by s h
by-accept false false d by new s h = not-made d new s h

module _ (r : Rules) (shard : ℕ) (t : Table) (d : Bytes) (key : Key) where
  abbrev Was : Entry → Outcome → Type 0
  Was entry out = (is_locked_by d (t.at key).state ≡ true) ⊎ ((is_prepare_of d entry && is_vote Commit out.effect) ≡ true)

  abbrev IsAt : Outcome → Type 0
  IsAt o = is_locked_by d (o.table.at key).state ≡ true

  lock-from : (entry : Entry) (out : Outcome) → Change r shard t entry out → IsAt out → Was entry out
  lock-from entry out (Nothing same idle repeats) h = inl (subst (λ (u : Table). is_locked_by d (u.at key).state ≡ true) same h)
  lock-from entry out (Locks x k what is free ready to) h =
      elim (by-lock (has_key key (used_up r x shard)) (has_key key (read_only r x shard)) d x.digest (t.at key).state (subst (λ o. IsAt o) to h)) [
        | inl g ↦ inl g
        | inr g ↦ inr (subst (λ o. (is_prepare_of d entry && is_vote Commit o.effect) ≡ true) (sym to) (subst (λ e. (is_prepare_of d e && true) ≡ true) (sym what) (and-true (bytes_eq d x.digest) g)))
      ]
    where
      and-true : (b : Bool) → b ≡ true → (b && true) ≡ true
      and-true b e = and_from b true e refl
  lock-from entry out (Notes x k what is free to) h = inl (subst (λ o. IsAt o) to h)
  lock-from entry out (Accepts x k what is held to) h =
      inl (by-accept (has_key key (used_up r x shard)) (has_key key (read_only r x shard)) d x.digest (object_under (new_pieces r shard t x) key) (t.at key).state (subst (λ o. IsAt o) to h))
  lock-from entry out (Aborts x k what is held to) h =
      inl (by-undo (has_key key (used_up r x shard)) (has_key key (read_only r x shard)) d x.digest (t.at key).state (subst (λ o. IsAt o) to h))

at-start : (r : Rules) (shard : ℕ) (d : Bytes) (key : Key) → is_locked_by d ((table_of r shard []).at key).state ≡ true → ⊥
at-start r shard d (Object name) h = let q : false ≡ true = not-made d (object_under (objects_in r shard r.genesis) (Object name)) Unknown h in cc
at-start r shard d (Dummy s serial) h = spare (s == shard && nat_lt serial r.dummies) h
  where
    spare : (b : Bool) → is_locked_by d (if b then Active r.dummy_object else Unknown) ≡ true → ⊥
    spare true h = cc
    spare false h = cc

pub lock-voted : (r : Rules) (shard : ℕ) (d : Bytes) (key : Key) (log : List Entry) → is_locked_by d ((table_of r shard log).at key).state ≡ true → votes_in r shard d Commit log ≡ true
lock-voted r shard d key [] h = absurd (at-start r shard d key h)
lock-voted r shard d key (entry ∷ log) h =
    elim (lock-from r shard (table_of r shard log) d key entry (exec r shard (table_of r shard log) entry) (change r shard (table_of r shard log) entry) h) [
      | inl g ↦ or_right _ _ (lock-voted r shard d key log g)
      | inr g ↦ or_left _ _ g
    ]

pub locks-given : {M : Type 0} (site : Site M) → LocksAreGiven site
locks-given {M} site me t x made h =
    let shard = (view_at site me t).me.shard in
    let d = digest_of site.setup x in
    given-is site me d Commit t made
    ∙ at_key (anchor site.setup.rules (site.setup.session_of x) shard) (subst (λ (u : Table). is_locked_at u d (anchor site.setup.rules (site.setup.session_of x) shard) ≡ true) (table-is site me t) h)
  where
    at_key : (o : Option Key) → is_locked_at (table_of site.setup.rules (view_at site me t).me.shard (seen_log site t)) (digest_of site.setup x) o ≡ true → votes_in site.setup.rules (view_at site me t).me.shard (digest_of site.setup x) Commit (seen_log site t) ≡ true
    at_key None h = cc
    at_key (Some key) h = lock-voted site.setup.rules (view_at site me t).me.shard (digest_of site.setup x) key (seen_log site t) h
