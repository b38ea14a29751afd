use Rattle.std.proofs.Common.{◌≡◌, true, rules}
use Rattle.cs_node_pool.proofs.Right.{right-fits}
use Rattle.cs_node_pool.proofs.pool.Pool.locked.Goals as goal

pub locked-requires : goal.locked-requires
locked-requires c =
    let whole : c.self.inside.whole ≡ true = search rules in
    right-fits c.self.inside.config c.self.inside.kept.seats.entries (c.self.invariant whole).right
