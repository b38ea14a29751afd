-- The one node of a shard has executed all of it.
use Rattle.std.proofs.Common.{◌≡◌, ℕ, suc, ◌+◌, ◌*◌, ◌<◌, ◌==◌, Bool, true, false, if◌then◌else◌, List, [], ◌∷◌, length, refl, sym, ap, ◌∙◌, subst, arith}
use Rattle.std.proofs.lemmas.Bool.{cond_both, both_ways, eqb-true, eq-eqb}
use Rattle.cs_base.specs.declared.node_id.NodeId.{NodeId}
use Rattle.cs_tx_types.specs.declared.action.Action.{Action}
use Rattle.cs_ledger.specs.Table.{Effect}
use Rattle.cs_node_rules.specs.Signs.{Dropped, Took, Entered, Viewed, Did, Headed, Kept, Sent}
use Rattle.cs_node_rules.specs.Site.{Mark, In, Ordered, Plain, Site, signs_of}
use Rattle.cs_node_rules.specs.World.{Execution, count_executed, newest_of, is_after}
use Rattle.cs_node_law.specs.Made.{log_in}
use Rattle.cs_world_law.specs.Worlds.{is_honest}
use Rattle.cs_world_law.specs.Chain.{Moment, trail_at, Known, Story, IsSoundSite, firsts_at, story_firsts}
use Rattle.cs_world_law.proofs.Trails.{trail-both, trail-own}
use Rattle.cs_world_law.proofs.Lawful.{lawful-alone}
use Rattle.cs_world_law.proofs.Agree.{runs-count}
use Rattle.cs_world_law.proofs.Firsts.{own_log, own_runs, counted-runs, are-runs, new-after}

same-fields : (a b : NodeId) → a.shard ≡ b.shard → a.index ≡ b.index → a ≡ b
same-fields a b p q = of_fields a.shard a.index b.shard b.index p q
  where
    of_fields : (s i t j : ℕ) → s ≡ t → i ≡ j → ◌≡◌ {A = NodeId} (record { shard = s; index = i }) (record { shard = t; index = j })
    of_fields s i t j p q = rw (p, q) refl

module _ {M : Type 0} (site : Site M) (sound : IsSoundSite site) (known : Known) (trusted : site.setup.f ≡ 0) (i : NodeId) (honest : is_honest site i ≡ true) where
  -- another honest node is of another shard
  one-node : (j : NodeId) → is_honest site j ≡ true → j.shard ≡ i.shard → j ≡ i
  one-node j there same =
      let a = sound.index j there in
      let b = sound.index i honest in
      let index : j.index ≡ i.index = least j.index i.index site.setup.f trusted a b in
      same-fields j i same index
    where
      least : (a b f : ℕ) → f ≡ 0 → a < 3 * f + 1 → b < 3 * f + 1 → a ≡ b
      least a b f none p q = omega arith

  abbrev IsWhole : List (Moment M) → Type 0
  IsWhole story = length (own_log i story) ≡ count_executed i.shard (story_firsts story)

  module _ (node : NodeId) (n p : ℕ) (entry : Action) (effect : Effect) (past : List (Moment M)) (story : Story site known (record { node = node; mark = Plain (Did n p entry effect) } ∷ past)) where
    abbrev Now : Moment M
    Now = record { node = node; mark = Plain (Did n p entry effect) }

    abbrev New : Execution
    New = record { shard = node.shard; slot = n; place = p; entry = entry; effect = effect }

    other-shard : (node.shard == i.shard) ≡ false → IsWhole past → IsWhole (Now ∷ past)
    other-shard other w =
        let trail = trail-both (λ t. length (log_in (signs_of t)) ≡ length (own_log i past)) i Now past
        (λ own. absurd (both_ways (node.shard == i.shard) other (eq-eqb node.shard i.shard (ap (λ (z : NodeId). z.shard) own)))) refl in
        let slots : count_executed i.shard (story_firsts (Now ∷ past)) ≡ count_executed i.shard (story_firsts past) =
        cond_both (is_after n p (newest_of node.shard (story_firsts past))) (New ∷ story_firsts past) (story_firsts past) (λ f. count_executed i.shard f ≡ count_executed i.shard (story_firsts past))
        (λ e. ap (λ b. if b then suc (count_executed i.shard (story_firsts past)) else count_executed i.shard (story_firsts past)) other) (λ e. refl) in
        trail ∙ w ∙ sym slots

    same-node : node ≡ i → IsWhole past → IsWhole (Now ∷ past)
    same-node is w =
        let own : length (own_runs node past) ≡ length (own_log i past) = runs-count (signs_of (trail_at node past)) ∙ ap (λ z. length (own_log z past)) is in
        let all : count_executed node.shard (story_firsts past) ≡ count_executed i.shard (story_firsts past) = ap (λ (z : NodeId). count_executed z.shard (story_firsts past)) is in
        let runs = counted-runs node.shard (story_firsts past) in
        let lawful = lawful-alone site sound known trusted in
        let more = new-after site sound known lawful node n p entry effect past story (are-runs site sound known lawful node.shard past story.1) (omega (arith, own, all, runs, w)) in
        let slots : count_executed i.shard (story_firsts (Now ∷ past)) ≡ suc (count_executed i.shard (story_firsts past)) =
        ap (λ b. count_executed i.shard (if b then New ∷ story_firsts past else story_firsts past)) more
        ∙ ap (λ b. if b then suc (count_executed i.shard (story_firsts past)) else count_executed i.shard (story_firsts past)) (eq-eqb node.shard i.shard (ap (λ (z : NodeId). z.shard) is)) in
        let trail : length (own_log i (Now ∷ past)) ≡ suc (length (own_log i past)) =
        subst (λ z. length (own_log z (record { node = node; mark = Plain (Did n p entry effect) } ∷ past)) ≡ suc (length (own_log z past))) is
        (ap (λ (t : List (Mark M)). length (log_in (signs_of t))) (trail-own node (Plain (Did n p entry effect)) past)) in
        trail ∙ ap suc w ∙ sym slots

    did-whole : IsWhole past → IsWhole (Now ∷ past)
    did-whole w = go (node.shard == i.shard) refl
      where
        go : (b : Bool) → (node.shard == i.shard) ≡ b → IsWhole (Now ∷ past)
        go false other = other-shard other w
        go true same = same-node (one-node node story.0.honest (eqb-true node.shard i.shard same)) w

  silent-whole : (node : NodeId) (mark : Mark M) (past : List (Moment M)) → ((t : List (Mark M)) → log_in (signs_of (mark ∷ t)) ≡ log_in (signs_of t)) → firsts_at node mark (story_firsts past) ≡ story_firsts past → IsWhole past
      → IsWhole (record { node = node; mark = mark } ∷ past)
  silent-whole node mark past log firsts w =
      let m : Moment M = record { node = node; mark = mark } in
      trail-both (λ t. length (log_in (signs_of t)) ≡ length (own_log i past)) i m past (λ own. ap length (log (trail_at i past))) refl
      ∙ w ∙ ap (λ f. count_executed i.shard f) (sym firsts)

  whole-step : (node : NodeId) (mark : Mark M) (past : List (Moment M)) → Story site known (record { node = node; mark = mark } ∷ past) → IsWhole past → IsWhole (record { node = node; mark = mark } ∷ past)
  whole-step node (Plain (Did n p entry effect)) past story w = did-whole node n p entry effect past story w
  whole-step node (In input) past story w = silent-whole node (In input) past (λ t. refl) refl w
  whole-step node (Ordered deed) past story w = silent-whole node (Ordered deed) past (λ t. refl) refl w
  whole-step node (Plain (Dropped cause)) past story w = silent-whole node (Plain (Dropped cause)) past (λ t. refl) refl w
  whole-step node (Plain (Took sender vote x)) past story w = silent-whole node (Plain (Took sender vote x)) past (λ t. refl) refl w
  whole-step node (Plain (Entered x)) past story w = silent-whole node (Plain (Entered x)) past (λ t. refl) refl w
  whole-step node (Plain (Viewed slot view)) past story w = silent-whole node (Plain (Viewed slot view)) past (λ t. refl) refl w
  whole-step node (Plain (Headed number head)) past story w = silent-whole node (Plain (Headed number head)) past (λ t. refl) refl w
  whole-step node (Plain (Kept index checkpoint)) past story w = silent-whole node (Plain (Kept index checkpoint)) past (λ t. refl) refl w
  whole-step node (Plain (Sent to said)) past story w = silent-whole node (Plain (Sent to said)) past (λ t. refl) refl w

  pub leads-alone : (story : List (Moment M)) → Story site known story → IsWhole story
  leads-alone [] story = refl
  leads-alone (m ∷ past) story = whole-step m.node m.mark past story (leads-alone past story.1)
