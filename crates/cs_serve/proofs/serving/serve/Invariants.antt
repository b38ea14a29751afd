use Rattle.std.proofs.Common.{◌-◌, ◌^◌, ◌≤◌}
use Rattle.cs_io.specs.Told.{Stays}
use Rattle.cs_io.specs.Outside.{beside}
use Rattle.cs_node_state.specs.Setup.{Setup}
use Rattle.cs_node_rules.specs.Net.{Net}
use Rattle.cs_node_rules.specs.Site.{View}
use Rattle.cs_node_rules.specs.Deployment.{site_of}
use Rattle.cs_node.specs.Cores.{CoreStandsFor}
use Rattle.cs_serve.proofs.Turns.{SoFar}
use Rattle.cs_serve.proofs.serving.serve.Given as goal

abbrev pub invariant-loop-buf : goal.invariant-loop-buf
invariant-loop-buf g l = record {
  so_far : (setup : Setup) (net : Net) (v : View g.row.O-Message.Denot)
      → CoreStandsFor g.O.Order.stands g.J.Judge.is_approved (site_of setup net g.O.Order.rules g.O.Carried.carrier) l.fn.core v
      → SoFar (CoreStandsFor g.O.Order.stands g.J.Judge.is_approved (site_of setup net g.O.Order.rules g.O.Carried.carrier)) (site_of setup net g.O.Order.rules g.O.Carried.carrier) v l.until l.turns l.ticks
      (beside (g.L.Link.told l.initial.link) (g.K.Sink.written l.initial.out))
      (beside (g.L.Link.told l.link) (g.K.Sink.written l.out))
      l.core;
  few : l.ticks ≤ l.turns;
  bound : Stays (g.L.Link.told l.initial.link).bound (g.L.Link.told l.link).bound;
  placed : Stays (g.L.Link.told l.initial.link).placed (g.L.Link.told l.link).placed;
  link : g.L.Link.faults l.initial.link ≤ g.L.Link.faults l.link;
  sink : g.K.Sink.faults l.initial.out ≤ g.K.Sink.faults l.out;
}

abbrev pub decreases-loop-buf : goal.decreases-loop-buf
decreases-loop-buf g l = 2 ^ 64 - 1 - l.turns
