-- An order comes to rest, and so does a node that keeps its rules.
use Rattle.std.proofs.Common.{sym, subst}
use Rattle.cs_order.specs.Deeds.{Machine}
use Rattle.cs_order.specs.Law.{ComesToRest, Holds}
use Rattle.cs_node_law.proofs.Resting.{lives-quiet}
use Rattle.cs_node_law.proofs.rules.events_end_quiet.Goals as goal

pub returns : goal.returns
returns g c = λ site is.
    let left = g.O.Order.left in
    let P : Machine g.row.O-Message.Denot → Type 0 = λ m. ComesToRest m left in
    let R : Machine g.row.O-Message.Denot → Type 0 = λ m. Holds m in
    lives-quiet site left (subst P (sym is) g.met.O.Order.comes_to_rest) (subst R (sym is) g.met.O.Order.holds)
