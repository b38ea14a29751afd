use Rattle.std.proofs.Common.{◌∙◌, sym}
use Rattle.cs_node_pool.proofs.Picking.{Leads, first-picked, none-passes}
use Rattle.cs_node_pool.proofs.Dues.{no-keys}
use Rattle.cs_node_pool.proofs.kept.Kept.first_at.Goals as goal

pub returns-in-Some : goal.returns-in-Some
returns-in-Some c test picked =
    let seats = c.args.self.now.seats.entries in
    let leads : Leads test c.in-Some.index.now seats = first-picked test c.args.places.now seats picked c.in-Some.index.now c.in-Some.ensures.first in
    c.seat_at.ensures ∙ sym leads

pub returns-in-None : goal.returns-in-None
returns-in-None c test picked =
    sym (none-passes test c.args.places.now c.args.self.now.seats.entries picked (no-keys c.args.places.now.keys c.in-None.ensures.variant))
