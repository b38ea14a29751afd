-- In the world that nodes make of what they are given, each does what it does where it is served with its inputs alone.
use Rattle.std.proofs.Common.{◌≡◌, ℕ, Bool, true, false, cond, List, [], ◌∷◌, ◌++◌, refl, sym, ap, ◌∙◌}
use Rattle.std.proofs.lemmas.Bool.{and_parts, eqb-true}
use Rattle.std.specs.Prelude.{◌==◌}
use Rattle.cs_base.specs.declared.node_id.NodeId.{NodeId}
use Rattle.cs_base.specs.NodeId.{same_name}
use Rattle.cs_order_rules.specs.declared.message.OrderMessage.{OrderMessage}
use Rattle.cs_node_rules.specs.Site.{Input, Mark, Site, View, start_view, view_after}
use Rattle.cs_node_rules.specs.Trail.{event_marks}
use Rattle.cs_node_rules.specs.World.{Happening, happens, trail_of, view_of, IsLife}
use Rattle.cs_serve.specs.Serving.{trail}
use Rattle.cs_run_law.specs.Running.{Given, inputs_at, world_given}

are-same : (a b : NodeId) → same_name a b ≡ true → a ≡ b
are-same a b is =
    let parts = and_parts (a.shard == b.shard) (a.index == b.index) is in
    let shards = eqb-true a.shard b.shard parts.0 in
    let indexes = eqb-true a.index b.index parts.1 in
    λ i. record { shard = shards i; index = indexes i }

module _ (site : Site OrderMessage) where
  -- it is a life, as it was made
  pub given_lives : (given : List Given) → IsLife site (world_given site given)
  given_lives [] = tt
  given_lives (g ∷ past) = (refl, given_lives past)

  one_more : (g : Given) (past : List Given) (i : NodeId) → trail_of i (world_given site past) ≡ trail site (start_view site i) (inputs_at i past) → (same : Bool) → same_name g.0 i ≡ same
      → cond same (event_marks site (view_of site (world_given site past) g.0) g.1 ++ trail_of i (world_given site past)) (trail_of i (world_given site past))
      ≡ trail site (start_view site i) (cond same (g.1 ∷ inputs_at i past) (inputs_at i past))
  one_more g past i earlier true is =
      let World = world_given site past in
      let at : view_of site World g.0 ≡ view_of site World i = ap (view_of site World) (are-same g.0 i is) in
      let served : view_of site World i ≡ view_after site (trail site (start_view site i) (inputs_at i past)) (start_view site i) = ap (λ (marks : List (Mark OrderMessage)). view_after site marks (start_view site i)) earlier in
      ap (λ (v : View OrderMessage). event_marks site v g.1 ++ trail_of i World) (at ∙ served)
      ∙ ap (λ (marks : List (Mark OrderMessage)). event_marks site (view_after site (trail site (start_view site i) (inputs_at i past)) (start_view site i)) g.1 ++ marks) earlier
  one_more g past i earlier false is = earlier

  served_so : (given : List Given) (i : NodeId) → trail_of i (world_given site given) ≡ trail site (start_view site i) (inputs_at i given)
  served_so [] i = refl
  served_so (g ∷ past) i = one_more g past i (served_so past i) (same_name g.0 i) refl

pub trail_served : (site : Site OrderMessage) (given : List Given) (i : NodeId) → trail_of i (world_given site given) ≡ trail site (start_view site i) (inputs_at i given)
trail_served site given i = served_so site given i
