use Rattle.std.proofs.Common.{◌∙◌, ap, sym, subst}
use Rattle.cs_node_pool.specs.Seats.{seated, AllRight}
use Rattle.cs_node_pool.proofs.Closing.{seated-closed}
use Rattle.cs_node_pool.proofs.Right.{right-closed}
use Rattle.cs_node_pool.proofs.kept.Kept.remove.Goals as goal

pub returns-clause-pool : goal.returns-clause-pool
returns-clause-pool c = ap seated c.in_ok-close.ensures.seats ∙ seated-closed c.leave.new.self.seats.entries ∙ c.leave.ensures.pool

pub returns-clause-right : goal.returns-clause-right
returns-clause-right c config right =
    subst (AllRight config) (sym c.in_ok-close.ensures.seats) (right-closed config c.leave.new.self.seats.entries (c.leave.ensures.right config right))
