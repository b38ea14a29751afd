use Rattle.std.proofs.Common.{◌≡◌, true, rules}
use Rattle.cs_node_pool.proofs.pool.Pool.remove.Goals as goal

pub invariant_of-self-2 : goal.invariant_of-self-2
invariant_of-self-2 c =
    let whole : c.self.inside.whole ≡ true = search rules in
    λ again. record {
      placed = c.in_ok-remove.ensures.placed;
      right = c.in_ok-remove.ensures.right c.self.inside.config (c.self.invariant whole).right;
    }
