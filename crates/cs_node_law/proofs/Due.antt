-- What is due stands in the pool: a session that waits, or a decision that the votes on a session support.
use Rattle.std.proofs.Common.{◌≡◌, ◌⊎◌, inl, inr, ℕ, Bool, true, false, if◌then◌else◌, List, [], ◌∷◌, Option, Some, None, ◌∙◌, subst, refl}
use Rattle.cs_tx_types.specs.declared.vote.Vote.{Vote}
use Rattle.cs_tx_types.specs.declared.vote.Vote.TheVariants.{Commit, Abort}
use Rattle.cs_tx_types.specs.declared.action.Action.{Action}
use Rattle.cs_tx_types.specs.declared.action.Action.TheVariants.{Prepare, Decide}
use Rattle.cs_tx_types.specs.declared.entry.Entry.{Entry}
use Rattle.cs_base.specs.Lists.{IsIn}
use Rattle.cs_node_state.specs.declared.pooled.Pooled.{Pooled}
use Rattle.cs_node_state.specs.Setup.{Setup, concerned}
use Rattle.cs_node_state.specs.Evidence.{is_decided}
use Rattle.cs_node_state.specs.Pool.{Pool}
use Rattle.cs_node_state.specs.Admission.{due_vote, with_decision, decisions, questions, all_due, due}
use Rattle.cs_node_state.specs.laws.Due.{due_in}
use Rattle.cs_ledger.proofs.Basics.{in_either}
use Rattle.cs_node_law.proofs.Pools.{Place}

-- the votes on this session decide so
abbrev pub IsDecision : Setup → Pooled → Action → Type 0
IsDecision setup p entry = (vote : Vote) × (entry ≡ Decide vote p.session) × (is_decided setup.f (concerned setup p.session) vote p.ballots ≡ true)

abbrev pub IsDueFrom : Setup → Pool → Action → Type 0
IsDueFrom setup pool entry = (e : Place) × (IsIn e pool) × ((entry ≡ Prepare e.1.session) ⊎ IsDecision setup e.1 entry)

later : (setup : Setup) (e : Place) (pool : Pool) (entry : Action) → IsDueFrom setup pool entry → IsDueFrom setup (e ∷ pool) entry
later setup e pool entry d = (d.0, inr d.1, d.2)

voted : (f : ℕ) (shards : List ℕ) (p : Pooled) (vote : Vote) → due_vote f shards p ≡ Some vote → is_decided f shards vote p.ballots ≡ true
voted f shards p vote h = locked p.locked h
  where
    aborts : (b : Bool) → is_decided f shards Abort p.ballots ≡ b → (if b then Some Abort else None) ≡ Some vote → is_decided f shards vote p.ballots ≡ true
    aborts true e h = let is : Abort ≡ vote = cc in subst (λ v. is_decided f shards v p.ballots ≡ true) is e
    aborts false e h = cc

    commits : (b : Bool) → is_decided f shards Commit p.ballots ≡ b → (if b then Some Commit else (if is_decided f shards Abort p.ballots then Some Abort else None)) ≡ Some vote → is_decided f shards vote p.ballots ≡ true
    commits true e h = let is : Commit ≡ vote = cc in subst (λ v. is_decided f shards v p.ballots ≡ true) is e
    commits false e h = aborts _ refl h

    locked : (b : Bool) → (if b then (if is_decided f shards Commit p.ballots then Some Commit else if is_decided f shards Abort p.ballots then Some Abort else None) else None) ≡ Some vote → is_decided f shards vote p.ballots ≡ true
    locked true h = commits _ refl h
    locked false h = cc

decided-from : (setup : Setup) (pool : Pool) (action : Action) → IsIn action (decisions setup pool) → IsDueFrom setup pool action
decided-from setup [] action i = absurd i
decided-from setup (e ∷ pool) action i = go (due_vote setup.f (concerned setup e.1.session) e.1) refl (decided-from setup pool action) i
  where
    go : (o : Option Vote) → due_vote setup.f (concerned setup e.1.session) e.1 ≡ o → (IsIn action (decisions setup pool) → IsDueFrom setup pool action) → IsIn action (with_decision e.1.session o (decisions setup pool)) → IsDueFrom setup (e ∷ pool) action
    go None d again i = later setup e pool action (again i)
    go (Some vote) d again (inl is) = (e, inl refl, inr (vote, is, voted setup.f (concerned setup e.1.session) e.1 vote d))
    go (Some vote) d again (inr i) = later setup e pool action (again i)

waiting-from : (setup : Setup) (pool : Pool) (action : Action) → IsIn action (questions pool) → IsDueFrom setup pool action
waiting-from setup [] action i = absurd i
waiting-from setup (e ∷ pool) action i = go e.1.locked (waiting-from setup pool action) i
  where
    go : (b : Bool) → (IsIn action (questions pool) → IsDueFrom setup pool action) → IsIn action (if b then questions pool else Prepare e.1.session ∷ questions pool) → IsDueFrom setup (e ∷ pool) action
    go true again i = later setup e pool action (again i)
    go false again (inl is) = (e, inl refl, inl is)
    go false again (inr i) = later setup e pool action (again i)

pub all-from : (setup : Setup) (pool : Pool) (action : Action) → IsIn action (all_due setup pool) → IsDueFrom setup pool action
all-from setup pool action i =
    elim (in_either action (decisions setup pool) (questions pool) i) [ inl decided ↦ decided-from setup pool action decided | inr waits ↦ waiting-from setup pool action waits ]

-- so is each action of the due entry
pub due-from : (setup : Setup) (pool : Pool) (entry : Entry) → due setup pool ≡ Some entry → (action : Action) → IsIn action entry.actions → IsDueFrom setup pool action
due-from setup pool entry h action i = all-from setup pool action (due_in setup pool entry h action i)
