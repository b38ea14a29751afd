use Rattle.std.proofs.Common.{◌∙◌, ap, sym, subst, bytes_eq}
use Rattle.std.specs.Map.{lookup}
use Rattle.cs_node_pool.specs.Seats.{seated, AllRight}
use Rattle.cs_node_pool.proofs.Closing.{seated-closed, closed-way}
use Rattle.cs_node_pool.proofs.Right.{right-closed}
use Rattle.cs_node_pool.proofs.kept.Kept.make_way.Goals as goal

pub returns-clause-way : goal.returns-clause-way
returns-clause-way c =
    ap (lookup (bytes_eq c.args.digest.now)) c.in_ok-close.ensures.seats ∙ closed-way c.args.digest.now c.args.self.now.seats.entries c.requires.new

pub returns-clause-pool : goal.returns-clause-pool
returns-clause-pool c = ap seated c.in_ok-close.ensures.seats ∙ seated-closed c.args.self.now.seats.entries

pub returns-clause-right : goal.returns-clause-right
returns-clause-right c config right = subst (AllRight config) (sym c.in_ok-close.ensures.seats) (right-closed config c.args.self.now.seats.entries right)
