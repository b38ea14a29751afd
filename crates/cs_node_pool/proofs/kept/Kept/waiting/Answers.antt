use Rattle.std.proofs.Common.{◌∙◌}
use Rattle.cs_node_pool.proofs.Picking.{waiting-count}
use Rattle.cs_node_pool.proofs.kept.Kept.waiting.Goals as goal

pub returns : goal.returns
returns c = c.len.ensures.len ∙ waiting-count c.args.self.now.waiting c.args.self.now.seats.entries c.requires.waiting
