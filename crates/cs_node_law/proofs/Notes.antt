-- A vote that is on record comes from a Prepare of that session that gave it.
use Rattle.std.proofs.Common.{◌≡◌, ◌⊎◌, inl, inr, ℕ, Bool, true, false, ◌&&◌, if◌then◌else◌, List, [], ◌∷◌, ◌++◌, Option, Some, None, sym, ◌∙◌, ap, subst, refl}
use Rattle.std.specs.Prelude.{bytes_eq, nat_lt, ◌==◌}
use Rattle.std.proofs.lemmas.Bool.{and_from, or_left, or_right}
use Rattle.cs_tx.specs.Votes.{vote_of}
use Rattle.cs_tx_types.specs.declared.vote.Vote.{Vote as Said}
use Rattle.cs_tx_types.specs.declared.vote.Vote.TheVariants as tx
use Rattle.cs_ledger.specs.Ledger.{Bytes}
use Rattle.cs_base.specs.Options.{or_else}
use Rattle.cs_ledger.specs.Session.{Rules, Key, Object, Dummy, has_key, key_eq, objects_in, anchor, used_up, read_only, object_under}
use Rattle.cs_ledger.specs.Table.{Vote, Commit, Abort, Book, State, Unknown, Active, Locked, Inactive, Shared, Table, Entry, Outcome, Effect, Voted, is_locked_by, vote_in, locked, released, joined_by, vacated_by, read_by, without_reader, made, lock_state, undo_state, accept_state, new_pieces, exec, table_of}
use Rattle.cs_ledger.specs.Standing.{is_inactive_by, recorded}
use Rattle.cs_ledger.specs.ShardWorld.{votes_in, is_prepare_of, is_vote}
use Rattle.cs_ledger.proofs.Basics.{same_bytes}
use Rattle.cs_ledger.proofs.Settled.{vote_in-append}
use Rattle.cs_ledger.proofs.Changes.{Change, Nothing, Locks, Notes, Accepts, Aborts, change}
use Rattle.cs_node_state.specs.Setup.{digest_of}
use Rattle.cs_node_state.specs.Bench.{vote_read, noted_at}
use Rattle.cs_node_rules.specs.Site.{Site}
use Rattle.cs_node_law.specs.Made.{view_at, NotesAreGiven}
use Rattle.cs_node_law.proofs.Logs.{seen_log, table-is, given-is}
use Rattle.cs_node_law.proofs.Locks.{lock-voted}

-- ---- who used a key up

of-locked : (d by : Bytes) (s : State) → is_inactive_by d (locked by s) ≡ true → is_inactive_by d s ≡ true
of-locked d by Unknown h = cc
of-locked d by (Active object) h = cc
of-locked d by (Locked object other) h = cc
of-locked d by (Inactive other) h = h
of-locked d by (Shared object readers) h = cc

of-released : (d : Bytes) (s : State) → is_inactive_by d (released s) ≡ true → is_inactive_by d s ≡ true
of-released d Unknown h = cc
of-released d (Active object) h = cc
of-released d (Locked object by) h = cc
of-released d (Inactive by) h = h
of-released d (Shared object readers) h = cc

of-joined : (d by : Bytes) (s : State) → is_inactive_by d (joined_by by s) ≡ true → is_inactive_by d s ≡ true
of-joined d by Unknown h = cc
of-joined d by (Active object) h = cc
of-joined d by (Locked object other) h = cc
of-joined d by (Inactive other) h = h
of-joined d by (Shared object readers) h = cc

of-shared : (d object : Bytes) (readers : List Bytes) → is_inactive_by d (read_by object readers) ≡ true → ⊥
of-shared d object [] h = cc
of-shared d object (reader ∷ readers) h = cc

of-vacated : (d by : Bytes) (s : State) → is_inactive_by d (vacated_by by s) ≡ true → is_inactive_by d s ≡ true
of-vacated d by Unknown h = cc
of-vacated d by (Active object) h = cc
of-vacated d by (Locked object other) h = cc
of-vacated d by (Inactive other) h = h
of-vacated d by (Shared object readers) h = absurd (of-shared d object (without_reader by readers) h)

of-made : (d : Bytes) (o : Option Bytes) (s : State) → is_inactive_by d (made o s) ≡ true → is_inactive_by d s ≡ true
of-made d None s h = h
of-made d (Some object) Unknown h = cc
of-made d (Some object) (Active held) h = cc
of-made d (Some object) (Locked held by) h = cc
of-made d (Some object) (Inactive by) h = h
of-made d (Some object) (Shared held readers) h = cc

pub by-lock : (used read : Bool) (d by : Bytes) (s : State) → is_inactive_by d (lock_state used read by s) ≡ true → is_inactive_by d s ≡ true
by-lock true read d by s h = of-locked d by s h
by-lock false true d by s h = of-joined d by s h
by-lock false false d by s h = h

pub by-undo : (used read : Bool) (d by : Bytes) (s : State) → is_inactive_by d (undo_state used read by s) ≡ true → is_inactive_by d s ≡ true
by-undo true read d by s h = of-released d s h
by-undo false true d by s h = of-vacated d by s h
by-undo false false d by s h = h

pub by-accept : (used read : Bool) (d by : Bytes) (new : Option Bytes) (s : State) → is_inactive_by d (accept_state used read by new s) ≡ true → (is_inactive_by d s ≡ true) ⊎ (bytes_eq d by ≡ true)
by-accept true read d by new s h = inr h
by-accept false true d by new s h = inl (of-vacated d by s h)
by-accept false false d by new s h = inl (of-made d new s h)

module _ (r : Rules) (shard : ℕ) (t : Table) (d : Bytes) (key : Key) where
  abbrev IsUsed : Table → Type 0
  IsUsed u = is_inactive_by d (u.at key).state ≡ true

  -- it was used up before, or now by a session that held its lock
  abbrev UsedFrom : Type 0
  UsedFrom = IsUsed t ⊎ ((by : Bytes) × (at : Key) × (bytes_eq d by ≡ true) × (is_locked_by by (t.at at).state ≡ true))

  used-from : (entry : Entry) (out : Outcome) → Change r shard t entry out → IsUsed out.table → UsedFrom
  used-from entry out (Nothing same idle repeats) h = inl (subst IsUsed same h)
  used-from entry out (Locks x k what is free ready to) h =
      inl (by-lock (has_key key (used_up r x shard)) (has_key key (read_only r x shard)) d x.digest (t.at key).state (subst (λ (o : Outcome). IsUsed o.table) to h))
  used-from entry out (Notes x k what is free to) h = inl (subst (λ (o : Outcome). IsUsed o.table) to h)
  used-from entry out (Accepts x k what is held to) h =
      elim (by-accept (has_key key (used_up r x shard)) (has_key key (read_only r x shard)) d x.digest (object_under (new_pieces r shard t x) key) (t.at key).state (subst (λ (o : Outcome). IsUsed o.table) to h)) [
        | inl old ↦ inl old
        | inr new ↦ inr (x.digest, k, new, held)
      ]
  used-from entry out (Aborts x k what is held to) h =
      inl (by-undo (has_key key (used_up r x shard)) (has_key key (read_only r x shard)) d x.digest (t.at key).state (subst (λ (o : Outcome). IsUsed o.table) to h))

-- a lock of this digest was voted commit
held-voted : (r : Rules) (shard : ℕ) (d by : Bytes) (at : Key) (log : List Entry) → bytes_eq d by ≡ true → is_locked_by by ((table_of r shard log).at at).state ≡ true → votes_in r shard d Commit log ≡ true
held-voted r shard d by at log same held = subst (λ k. votes_in r shard k Commit log ≡ true) (sym (same_bytes d by same)) (lock-voted r shard by at log held)

pub none-used : (r : Rules) (shard : ℕ) (d : Bytes) (key : Key) → is_inactive_by d ((table_of r shard []).at key).state ≡ true → ⊥
none-used r shard d (Object name) h = let q : false ≡ true = of-made d (object_under (objects_in r shard r.genesis) (Object name)) Unknown h in cc
none-used r shard d (Dummy s serial) h = spare (s == shard && nat_lt serial r.dummies) h
  where
    spare : (b : Bool) → is_inactive_by d (if b then Active r.dummy_object else Unknown) ≡ true → ⊥
    spare true h = cc
    spare false h = cc

used-voted : (r : Rules) (shard : ℕ) (d : Bytes) (key : Key) (log : List Entry) → is_inactive_by d ((table_of r shard log).at key).state ≡ true → votes_in r shard d Commit log ≡ true
used-voted r shard d key [] h = absurd (none-used r shard d key h)
used-voted r shard d key (entry ∷ log) h =
    elim (used-from r shard (table_of r shard log) d key entry (exec r shard (table_of r shard log) entry) (change r shard (table_of r shard log) entry) h) [
      | inl old ↦ or_right _ _ (used-voted r shard d key log old)
      | inr new ↦ or_right _ _ (held-voted r shard d new.0 new.1 log new.2 new.3)
    ]

-- ---- what stands in a book

noted-in : (book : Book) (by : Bytes) (w : Vote) (d : Bytes) (vote : Vote) → vote_in (book ++ (by, w) ∷ []) d ≡ Some vote → (vote_in book d ≡ Some vote) ⊎ ((bytes_eq d by ≡ true) × (w ≡ vote))
noted-in book by w d vote h = old (vote_in book d) refl (sym (vote_in-append book (by, w) d) ∙ h)
  where
    new : (b : Bool) → bytes_eq d by ≡ b → (if b then Some w else None) ≡ Some vote → (bytes_eq d by ≡ true) × (w ≡ vote)
    new true e h = let q : w ≡ vote = cc in (e, q)
    new false e h = cc

    old : (o : Option Vote) → vote_in book d ≡ o → or_else o (if bytes_eq d by then Some w else None) ≡ Some vote → (vote_in book d ≡ Some vote) ⊎ ((bytes_eq d by ≡ true) × (w ≡ vote))
    old None e h = inr (new (bytes_eq d by) refl h)
    old (Some v) e h = inl (e ∙ h)

pub noted-if : (b : Bool) (book : Book) (by : Bytes) (w : Vote) (d : Bytes) (vote : Vote) → vote_in (if b then book ++ (by, w) ∷ [] else book) d ≡ Some vote → (vote_in book d ≡ Some vote) ⊎ ((bytes_eq d by ≡ true) × (w ≡ vote))
noted-if true book by w d vote h = noted-in book by w d vote h
noted-if false book by w d vote h = inl h

module _ (r : Rules) (shard : ℕ) (t : Table) (d : Bytes) (key : Key) (vote : Vote) where
  abbrev IsNoted : Table → Type 0
  IsNoted u = vote_in (u.at key).book d ≡ Some vote

  -- it stood there before, or was given now, or is the commit of a lock that was aborted
  abbrev NotedFrom : Entry → Effect → Type 0
  NotedFrom entry effect =
      IsNoted t ⊎ (((is_prepare_of d entry && is_vote vote effect) ≡ true) ⊎ ((by : Bytes) × (at : Key) × (bytes_eq d by ≡ true) × (is_locked_by by (t.at at).state ≡ true) × (Commit ≡ vote)))

  aborted-now : (entry : Entry) (digest : Bytes) → is_prepare_of d entry ≡ bytes_eq d digest → bytes_eq d digest ≡ true → Abort ≡ vote → (is_prepare_of d entry && is_vote vote (Voted Abort)) ≡ true
  aborted-now entry digest of same is = and_from _ _ (of ∙ same) (subst (λ v. is_vote v (Voted Abort) ≡ true) is refl)

  noted-from : (entry : Entry) (out : Outcome) → Change r shard t entry out → IsNoted out.table → NotedFrom entry out.effect
  noted-from entry out (Nothing same idle repeats) h = inl (subst IsNoted same h)
  noted-from entry out (Locks x k what is free ready to) h = inl (subst (λ (o : Outcome). IsNoted o.table) to h)
  noted-from entry out (Notes x k what is free to) h =
      elim (noted-if (key_eq key k) (t.at key).book x.digest Abort d vote (subst (λ (o : Outcome). IsNoted o.table) to h)) [
        | inl old ↦ inl old
        | inr new ↦ inr (inl (subst (λ (o : Outcome). (is_prepare_of d entry && is_vote vote o.effect) ≡ true) (sym to) (aborted-now entry x.digest (ap (is_prepare_of d) what) new.0 new.1)))
      ]
  noted-from entry out (Accepts x k what is held to) h = inl (subst (λ (o : Outcome). IsNoted o.table) to h)
  noted-from entry out (Aborts x k what is held to) h =
      elim (noted-if _ (t.at key).book x.digest Commit d vote (subst (λ (o : Outcome). IsNoted o.table) to h)) [
        | inl old ↦ inl old
        | inr new ↦ inr (inr (x.digest, k, new.0, held, new.1))
      ]

pub noted-voted : (r : Rules) (shard : ℕ) (d : Bytes) (key : Key) (vote : Vote) (log : List Entry) → vote_in ((table_of r shard log).at key).book d ≡ Some vote → votes_in r shard d vote log ≡ true
noted-voted r shard d key vote [] h = cc
noted-voted r shard d key vote (entry ∷ log) h =
    elim (noted-from r shard (table_of r shard log) d key vote entry (exec r shard (table_of r shard log) entry) (change r shard (table_of r shard log) entry) h) [
      | inl old ↦ or_right _ _ (noted-voted r shard d key vote log old)
      | inr new ↦ elim new [
        | inl now ↦ or_left _ _ now
        | inr held ↦ or_right _ _ (subst (λ v. votes_in r shard d v log ≡ true) held.4 (held-voted r shard d held.0 held.1 log held.2 held.3))
      ]
    ]

-- ---- the record

recorded-voted : (r : Rules) (shard : ℕ) (d : Bytes) (key : Key) (vote : Vote) (log : List Entry) → recorded ((table_of r shard log).at key) d ≡ Some vote → votes_in r shard d vote log ≡ true
recorded-voted r shard d key vote log h = go (is_inactive_by d ((table_of r shard log).at key).state) refl h
  where
    go : (b : Bool) → is_inactive_by d ((table_of r shard log).at key).state ≡ b → (if b then Some Commit else vote_in ((table_of r shard log).at key).book d) ≡ Some vote → votes_in r shard d vote log ≡ true
    go true e h = let is : Commit ≡ vote = cc in subst (λ v. votes_in r shard d v log ≡ true) is (used-voted r shard d key log e)
    go false e h = noted-voted r shard d key vote log h

read-from : (o : Option Vote) (said : Said) → vote_read o ≡ Some said → o ≡ Some (vote_of said)
read-from None said h = cc
read-from (Some Commit) said h = let q : tx.Commit ≡ said = cc in ap (λ s. Some (vote_of s)) q
read-from (Some Abort) said h = let q : tx.Abort ≡ said = cc in ap (λ s. Some (vote_of s)) q

pub notes-given : {M : Type 0} (site : Site M) → NotesAreGiven site
notes-given {M} site me t x vote made h =
    let shard = (view_at site me t).me.shard in
    let d = digest_of site.setup x in
    given-is site me d (vote_of vote) t made
    ∙ at_key (anchor site.setup.rules (site.setup.session_of x) shard) (subst (λ (u : Table). noted_at u d (anchor site.setup.rules (site.setup.session_of x) shard) ≡ Some vote) (table-is site me t) h)
  where
    at_key : (o : Option Key) → noted_at (table_of site.setup.rules (view_at site me t).me.shard (seen_log site t)) (digest_of site.setup x) o ≡ Some vote
        → votes_in site.setup.rules (view_at site me t).me.shard (digest_of site.setup x) (vote_of vote) (seen_log site t) ≡ true
    at_key None h = cc
    at_key (Some key) h = recorded-voted site.setup.rules (view_at site me t).me.shard (digest_of site.setup x) key (vote_of vote) (seen_log site t) (read-from _ vote h)
