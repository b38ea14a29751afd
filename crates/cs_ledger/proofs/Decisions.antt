-- What a decision in a log says of the votes.
use Rattle.std.proofs.Common.{◌≡◌, ℕ, List, [], ◌∷◌, true, false, ◌&&◌, inl, inr, Option, Some, None, refl, sym, ap, ◌∙◌, subst}
use Rattle.std.specs.Prelude.{◌==◌}
use Rattle.std.proofs.lemmas.Bool.{both_ways, and_parts, or_cases, eqb-true}
use Rattle.cs_base.specs.Lists.{IsIn}
use Rattle.cs_ledger.specs.Ledger.{Bytes, Item}
use Rattle.cs_ledger.specs.Session.{AreToldApart, Session, Rules, all_items, concerns, is_among}
use Rattle.cs_ledger.specs.Table.{Vote, Commit, Abort, Table, Entry, Prepare, Decide, Effect, Voted, Accepted, Aborted, Skipped, Void, Outcome, session_of, exec, table_of}
use Rattle.cs_ledger.specs.ShardWorld.{Step, is_vote, log, is_prepare_of, votes_in, shard_votes, all_commit, all_vote, one_aborts, IsAllowed, AllAllowed, sessions, decides, decided_in, is_decide_of, is_effect}
use Rattle.cs_ledger.proofs.Basics.{same_bytes}
use Rattle.cs_ledger.proofs.Changes.{IsIdle, Nothing, Locks, Notes, Accepts, Aborts, change}
use Rattle.cs_ledger.proofs.Votes.{log_at, all_more, one_more, prepares_is}

-- the vote that a decision of this effect is on
abbrev pub vote_of : Effect → Option Vote
vote_of Accepted = Some Commit
vote_of Aborted = Some Abort
vote_of (Voted vote) = None
vote_of Skipped = None
vote_of Void = None

idle_vote : (effect : Effect) (vote : Vote) → IsIdle effect → vote_of effect ≡ Some vote → ⊥
idle_vote Accepted vote idle e = idle
idle_vote Aborted vote idle e = idle
idle_vote (Voted other) vote idle e = cc
idle_vote Skipped vote idle e = cc
idle_vote Void vote idle e = cc

effect_is : (effect other : Effect) (vote : Vote) → vote_of effect ≡ Some vote → is_effect effect other ≡ true → vote_of other ≡ Some vote
effect_is Accepted Accepted vote v e = v
effect_is Aborted Aborted vote v e = v
effect_is Accepted Aborted vote v e = cc
effect_is Accepted (Voted w) vote v e = cc
effect_is Accepted Skipped vote v e = cc
effect_is Accepted Void vote v e = cc
effect_is Aborted Accepted vote v e = cc
effect_is Aborted (Voted w) vote v e = cc
effect_is Aborted Skipped vote v e = cc
effect_is Aborted Void vote v e = cc
effect_is (Voted w) other vote v e = cc
effect_is Skipped other vote v e = cc
effect_is Void other vote v e = cc

out_vote : (out to : Outcome) (vote other : Vote) → out ≡ to → vote_of to.effect ≡ Some other → vote_of out.effect ≡ Some vote → other ≡ vote
out_vote out to vote other e f g = let q : Some other ≡ Some vote = sym f ∙ ap (λ (o : Outcome). vote_of o.effect) (sym e) ∙ g in cc

-- an entry of that effect is a Decide of that vote
decision : (rules : Rules) (shard : ℕ) (t : Table) (entry : Entry) (vote : Vote) → vote_of (exec rules shard t entry).effect ≡ Some vote → (x : Session) × (entry ≡ Decide x vote)
decision rules shard t entry vote e =
    elim (change rules shard t entry) [
      | Nothing same idle repeats ↦ absurd (idle_vote _ vote idle e)
      | Locks y key what is free ready to ↦ absurd (let q : None ≡ Some vote = ap (λ (o : Outcome). vote_of o.effect) (sym to) ∙ e in cc)
      | Notes y key what is free to ↦ absurd (let q : None ≡ Some vote = ap (λ (o : Outcome). vote_of o.effect) (sym to) ∙ e in cc)
      | Accepts y key what is held to ↦ (y, what ∙ ap (Decide y) (out_vote _ _ vote Commit to refl e))
      | Aborts y key what is held to ↦ (y, what ∙ ap (Decide y) (out_vote _ _ vote Abort to refl e))
    ]

-- what allows a decision
abbrev pub IsBehind : Rules → List Step → ℕ → Session → Vote → Type 0
IsBehind rules past shard x Commit = (concerns rules x shard ≡ true) × (all_commit rules past x ≡ true)
IsBehind rules past shard x Abort = (concerns rules x shard ≡ true) × (one_aborts rules past x ≡ true)

allowed_behind : (rules : Rules) (past : List Step) (shard : ℕ) (x : Session) (vote : Vote) → IsAllowed rules past shard (Decide x vote) → IsBehind rules past shard x vote
allowed_behind rules past shard x Commit h = h
allowed_behind rules past shard x Abort h = h

behind_more : (rules : Rules) (step : Step) (past : List Step) (shard : ℕ) (x : Session) (vote : Vote) → IsBehind rules past shard x vote → IsBehind rules (step ∷ past) shard x vote
behind_more rules step past shard x Commit h = (h.0, all_more rules step past x Commit (all_items x.transaction) h.1)
behind_more rules step past shard x Abort h = (h.0, one_more rules step past x Abort (all_items x.transaction) h.1)

decide_digest : (d : Bytes) (x : Session) (vote : Vote) (entry : Entry) → entry ≡ Decide x vote → is_decide_of d entry ≡ true → d ≡ x.digest
decide_digest d x vote entry e h = same_bytes d x.digest (ap (is_decide_of d) (sym e) ∙ h)

module _ (rules : Rules) (known : List Session) (unique : AreToldApart known) (x : Session) (knows : IsIn x known) (shard : ℕ) where
  pub decided_behind : (effect : Effect) (vote : Vote) → vote_of effect ≡ Some vote → (past : List Step) → AllAllowed rules past → ((z : Session) → IsIn z (sessions past) → IsIn z known) → decides rules past shard x effect ≡ true → IsBehind rules past shard x vote
  decided_behind effect vote is [] allowed within h = absurd (both_ways false refl h)
  decided_behind effect vote is (step ∷ past) allowed within h =
      log_at (λ l. decided_in rules shard x.digest effect l ≡ true → IsBehind rules (step ∷ past) shard x vote) shard step past
      (λ at e. elim (or_cases _ _ e) [
        | inl now ↦
            let p = and_parts _ _ now in
            let d = decision rules shard (table_of rules shard (log shard past)) step.entry vote (effect_is effect _ vote is p.1) in
            let same : x ≡ d.0 = unique x d.0 knows (subst (λ e. IsIn (session_of e) known) d.1 (within _ (inl refl))) (decide_digest x.digest d.0 vote step.entry d.1 p.0) in
            let ok : IsAllowed rules past shard (Decide x vote) = subst (λ z. IsAllowed rules past shard (Decide z vote)) (sym same) (subst (λ e. IsAllowed rules past shard e) d.1 (subst (λ s. IsAllowed rules past s step.entry) at allowed.0)) in
            behind_more rules step past shard x vote (allowed_behind rules past shard x vote ok)
        | inr before ↦ behind_more rules step past shard x vote (decided_behind effect vote is past allowed.1 (λ z i. within z (inr i)) before)
      ])
      (λ e. behind_more rules step past shard x vote (decided_behind effect vote is past allowed.1 (λ z i. within z (inr i)) e))
      h

  -- a shard that votes on a session is one that it concerns
  pub votes_concern : (vote : Vote) (past : List Step) → AllAllowed rules past → ((z : Session) → IsIn z (sessions past) → IsIn z known) → shard_votes rules past shard x vote ≡ true → concerns rules x shard ≡ true
  votes_concern vote [] allowed within h = absurd (both_ways false refl h)
  votes_concern vote (step ∷ past) allowed within h =
      log_at (λ l. votes_in rules shard x.digest vote l ≡ true → concerns rules x shard ≡ true) shard step past
      (λ at e. elim (or_cases (is_prepare_of x.digest step.entry && is_vote vote (exec rules shard (table_of rules shard (log shard past)) step.entry).effect) _ e) [
        | inl now ↦
            let y = prepares_is x.digest step.entry (and_parts (is_prepare_of x.digest step.entry) _ now).0 in
            let same : x ≡ y.x = unique x y.x knows (subst (λ e. IsIn (session_of e) known) y.entry_is (within _ (inl refl))) y.digest in
            let ok : IsAllowed rules past shard (Prepare y.x) = subst (λ e. IsAllowed rules past shard e) y.entry_is (subst (λ s. IsAllowed rules past s step.entry) at allowed.0) in
            ap (λ (z : Session). concerns rules z shard) same ∙ ok.1
        | inr before ↦ votes_concern vote past allowed.1 (λ z i. within z (inr i)) before
      ])
      (λ e. votes_concern vote past allowed.1 (λ z i. within z (inr i)) e)
      h

-- every concerned shard votes so
pub all_concerned : (rules : Rules) (past : List Step) (x : Session) (vote : Vote) (shard : ℕ) (items : List Item) → all_vote rules past x vote items ≡ true → is_among rules shard items ≡ true → shard_votes rules past shard x vote ≡ true
all_concerned rules past x vote shard [] all among = absurd (both_ways false refl among)
all_concerned rules past x vote shard (item ∷ items) all among =
    let p = and_parts (shard_votes rules past (rules.shard_of item.name) x vote) (all_vote rules past x vote items) all in
    elim (or_cases (rules.shard_of item.name == shard) (is_among rules shard items) among) [
      | inl here ↦ ap (λ s. shard_votes rules past s x vote) (sym (eqb-true (rules.shard_of item.name) shard here)) ∙ p.0
      | inr later ↦ all_concerned rules past x vote shard items p.1 later
    ]
