-- The session of each step is well formed, and concerns its shard.
use Rattle.std.proofs.Common.{◌≡◌, inl, inr, ℕ, true, false, ◌&&◌, List, [], ◌∷◌, refl, sym, ap, subst, ◌∙◌}
use Rattle.std.proofs.lemmas.Bool.{and_parts, and_from, or_cases, both_ways}
use Rattle.cs_base.specs.Lists.{IsIn}
use Rattle.cs_tx_types.specs.declared.action.Action.{Action}
use Rattle.cs_tx_types.specs.declared.action.Action.TheVariants.{Prepare, Decide}
use Rattle.cs_tx_types.specs.declared.vote.Vote.TheVariants as vote
use Rattle.cs_ledger.specs.Ledger.{Bytes}
use Rattle.cs_ledger.specs.Session as Seen
use Rattle.cs_ledger.specs.Session.{Rules, AreToldApart, all_items, well_formed}
use Rattle.cs_ledger.specs.Table as Shard
use Rattle.cs_ledger.specs.Table.{Vote, Commit, Abort, table_of, exec, session_of}
use Rattle.cs_ledger.specs.ShardWorld.{Step, log, is_vote, is_prepare_of, votes_in, shard_votes, IsAllowed, AllAllowed, sessions}
use Rattle.cs_ledger.proofs.Votes.{log_at, Prepares, prepares_is, all_at, one_at}
use Rattle.cs_node_state.specs.Setup.{Setup, entry_of, is_fit}
use Rattle.cs_tx_types.specs.Session.{session_in}
use Rattle.cs_world_law.proofs.Counting.{item-among}
use Rattle.cs_audit_rules.specs.Slots.{is_judged}

-- a well-formed session of the steps with this digest
record HasFormed (rules : Rules) (past : List Step) (d : Bytes) : Type 0 where
  pub x : Seen.Session
  pub within : IsIn x (sessions past)
  pub formed : well_formed rules x ≡ true
  pub digest : d ≡ x.digest

more : (rules : Rules) (step : Step) (past : List Step) (d : Bytes) → HasFormed rules past d → HasFormed rules (step ∷ past) d
more rules step past d has = record { x = has.x; within = inr has.within; formed = has.formed; digest = has.digest }

prepared : (rules : Rules) (step : Step) (past : List Step) (d : Bytes) → IsAllowed rules past step.shard step.entry → Prepares d step.entry → HasFormed rules (step ∷ past) d
prepared rules step past d allowed is =
    let here : IsAllowed rules past step.shard (Shard.Prepare is.x) = subst (λ e. IsAllowed rules past step.shard e) is.entry_is allowed in
    record { x = is.x; within = inl (sym (ap session_of is.entry_is)); formed = here.0; digest = is.digest }

-- what was voted on was well formed
voted_formed : (rules : Rules) (shard : ℕ) (d : Bytes) (v : Vote) (past : List Step) → AllAllowed rules past → votes_in rules shard d v (log shard past) ≡ true → HasFormed rules past d
voted_formed rules shard d v [] allowed h = absurd (both_ways false refl h)
voted_formed rules shard d v (step ∷ past) allowed h =
    log_at (λ l. votes_in rules shard d v l ≡ true → HasFormed rules (step ∷ past) d) shard step past
    (λ at e. elim (or_cases (is_prepare_of d step.entry && is_vote v (exec rules shard (table_of rules shard (log shard past)) step.entry).effect) _ e) [
      | inl now ↦ prepared rules step past d allowed.0 (prepares_is d step.entry (and_parts (is_prepare_of d step.entry) _ now).0)
      | inr before ↦ more rules step past d (voted_formed rules shard d v past allowed.1 before)
    ])
    (λ e. more rules step past d (voted_formed rules shard d v past allowed.1 e))
    h

module _ (rules : Rules) (past : List Step) (shard : ℕ) (x : Seen.Session) (v : Vote) (allowed : AllAllowed rules past)
    (apart : AreToldApart (sessions (record { shard = shard; entry = Shard.Decide x v } ∷ past))) where
  decided_formed : (other : ℕ) (vote : Vote) → shard_votes rules past other x vote ≡ true → well_formed rules x ≡ true
  decided_formed other vote voted =
      let has = voted_formed rules other x.digest vote past allowed voted in
      let same : x ≡ has.x = apart x has.x (inl refl) (inr has.within) has.digest in
      ap (well_formed rules) same ∙ has.formed

entry_fits : (setup : Setup) (past : List Step) (shard : ℕ) (entry : Action) → AllAllowed setup.rules past → IsAllowed setup.rules past shard (entry_of setup entry)
    → AreToldApart (sessions (record { shard = shard; entry = entry_of setup entry } ∷ past)) → is_fit setup shard (session_in entry) ≡ true
entry_fits setup past shard (Prepare x) allowed is apart = and_from _ _ is.0 is.1
entry_fits setup past shard (Decide vote.Commit x) allowed is apart =
    let seen = setup.session_of x in
    let item = item-among setup.rules shard (all_items seen.transaction) is.0 in
    let voted = all_at setup.rules past seen Commit (all_items seen.transaction) is.1 item.0 item.1 in
    and_from _ _ (decided_formed setup.rules past shard seen Commit allowed apart (setup.rules.shard_of item.0.name) Commit voted) is.0
entry_fits setup past shard (Decide vote.Abort x) allowed is apart =
    let seen = setup.session_of x in
    let item = one_at setup.rules past seen Abort (all_items seen.transaction) is.1 in
    and_from _ _ (decided_formed setup.rules past shard seen Abort allowed apart (setup.rules.shard_of item.0.name) Abort item.2) is.0

pub step_fits : (setup : Setup) (past : List Step) (shard : ℕ) (entry : Action) → AllAllowed setup.rules (record { shard = shard; entry = entry_of setup entry } ∷ past)
    → AreToldApart (sessions (record { shard = shard; entry = entry_of setup entry } ∷ past)) → is_fit setup shard (session_in entry) ≡ true
step_fits setup past shard entry allowed apart = entry_fits setup past shard entry allowed.1 allowed.0 apart

-- what is voted on is approved
pub step_judged : (setup : Setup) (past : List Step) (shard : ℕ) (entry : Action) → IsAllowed setup.rules past shard (entry_of setup entry) → is_judged setup entry ≡ true
step_judged setup past shard (Prepare x) is = is.2
step_judged setup past shard (Decide v x) is = refl
