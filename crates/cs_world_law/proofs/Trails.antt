-- The marks of a node in a story.
use Rattle.std.proofs.Common.{◌≡◌, ℕ, ◌==◌, true, false, ◌&&◌, if◌then◌else◌, List, [], ◌∷◌, refl, ap, subst}
use Rattle.std.proofs.lemmas.Bool.{cond_both, and_from, eq-eqb}
use Rattle.cs_base.specs.declared.node_id.NodeId.{NodeId}
use Rattle.cs_wire.proofs.Parts.{are_same}
use Rattle.cs_order.specs.Runs.{Act, deeds_of}
use Rattle.cs_base.specs.NodeId.{same_name}
use Rattle.cs_node_rules.specs.Site.{Mark, In, Ordered, Plain, Site}
use Rattle.cs_node_law.specs.Made.{IsMade, AllMade}
use Rattle.cs_world_law.specs.Chain.{Moment, trail_at, Known, IsWithinKnown, Story, acts_at, shard_acts}
use Rattle.cs_world_law.proofs.Deeds.{deeds_in}

abbrev pub at : ℕ → ℕ → NodeId
at shard index = record { shard = shard; index = index }

pub same-name : (a b : NodeId) → same_name a b ≡ true → a ≡ b
same-name a b e = are_same a b e

pub own-name : (a : NodeId) → same_name a a ≡ true
own-name a = and_from _ _ (eq-eqb a.shard a.shard refl) (eq-eqb a.index a.index refl)

-- what holds of the marks of a node after one more moment
pub trail-both : {M : Type 0} (P : List (Mark M) → Type 0) (i : NodeId) (m : Moment M) (past : List (Moment M)) → (m.node ≡ i → P (m.mark ∷ trail_at i past)) → P (trail_at i past) → P (trail_at i (m ∷ past))
trail-both {M} P i m past own other = cond_both (same_name m.node i) (m.mark ∷ trail_at i past) (trail_at i past) P (λ e. own (same-name m.node i e)) (λ e. other)

pub trail-own : {M : Type 0} (i : NodeId) (mark : Mark M) (past : List (Moment M)) → trail_at i (record { node = i; mark = mark } ∷ past) ≡ mark ∷ trail_at i past
trail-own {M} i mark past = ap (λ b. if b then mark ∷ trail_at i past else trail_at i past) (own-name i)

-- all marks are within
abbrev pub AllWithin : {M : Type 0} → Site M → Known → NodeId → List (Mark M) → Type 0
AllWithin {M} site known me [] = Unit {0}
AllWithin {M} site known me (mark ∷ past) = IsWithinKnown site known me mark × AllWithin site known me past

module _ {M : Type 0} (site : Site M) (known : Known) where
  pub made-all : (i : NodeId) (story : List (Moment M)) → Story site known story → AllMade site i (trail_at i story)
  made-all i [] s = tt
  made-all i (m ∷ past) s =
      trail-both (λ t. AllMade site i t) i m past
      (λ e. (subst (λ n. IsMade site n (trail_at n past) m.mark) e s.0.made, made-all i past s.1))
      (made-all i past s.1)

  pub within-all : (i : NodeId) (story : List (Moment M)) → Story site known story → AllWithin site known i (trail_at i story)
  within-all i [] s = tt
  within-all i (m ∷ past) s =
      trail-both (λ t. AllWithin site known i t) i m past
      (λ e. (subst (λ n. IsWithinKnown site known n m.mark) e s.0.within, within-all i past s.1))
      (within-all i past s.1)

-- a member's deeds in the run are those of its marks
deeds-step : {M : Type 0} (shard index : ℕ) (node : NodeId) (mark : Mark M) (acts : List (Act M)) (t : List (Mark M)) → deeds_of index acts ≡ deeds_in t
    → deeds_of index (acts_at shard node mark acts) ≡ deeds_in (if same_name node (at shard index) then mark ∷ t else t)
deeds-step {M} shard index node (In input) acts t same = cond_both (same_name node (at shard index)) (In input ∷ t) t (λ u. deeds_of index acts ≡ deeds_in u) (λ e. same) (λ e. same)
deeds-step {M} shard index node (Plain sign) acts t same = cond_both (same_name node (at shard index)) (Plain sign ∷ t) t (λ u. deeds_of index acts ≡ deeds_in u) (λ e. same) (λ e. same)
deeds-step {M} shard index node (Ordered deed) acts t same =
    elim (node.shard == shard) as (λ p. deeds_of index (if p then record { member = node.index; deed = deed } ∷ acts else acts) ≡ deeds_in (if p && (node.index == index) then Ordered deed ∷ t else t)) [
      | true ↦ elim (node.index == index) as (λ q. (if q then deed ∷ deeds_of index acts else deeds_of index acts) ≡ deeds_in (if q then Ordered deed ∷ t else t)) [ true ↦ ap (λ x. deed ∷ x) same | false ↦ same ]
      | false ↦ same
    ]

pub deeds-same : {M : Type 0} (shard index : ℕ) (story : List (Moment M)) → deeds_of index (shard_acts shard story) ≡ deeds_in (trail_at (at shard index) story)
deeds-same {M} shard index [] = refl
deeds-same {M} shard index (m ∷ past) = deeds-step shard index m.node m.mark (shard_acts shard past) (trail_at (at shard index) past) (deeds-same shard index past)
