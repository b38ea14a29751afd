use Rattle.std.proofs.Common.{◌≡◌, ◌≤◌}
use Rattle.cs_replay_rules.specs.Play.{Played, drained}
use Rattle.cs_replay_play.specs.Standing.{Setting, site_in, StandsPrinted}
use Rattle.cs_replay_play.proofs.play.Replay.drain.Given as goal

abbrev pub invariant-loop-left : goal.invariant-loop-left
invariant-loop-left g l =
    (g.K.Sink.faults l.initial.output ≤ g.K.Sink.faults l.output)
    × ((s : Setting) (p : Played g.row.O-Message.Denot)
    → StandsPrinted g.O.Order.stands g.J.Judge.is_approved g.O.Order.rules g.O.Carried.carrier s l.initial.self (g.K.Sink.written l.initial.output) p
    → (q : Played g.row.O-Message.Denot)
    × (drained (site_in g.O.Order.rules g.O.Carried.carrier s) s.traced l.line l.times p ≡ drained (site_in g.O.Order.rules g.O.Carried.carrier s) s.traced l.line l.left q)
    × StandsPrinted g.O.Order.stands g.J.Judge.is_approved g.O.Order.rules g.O.Carried.carrier s l.self (g.K.Sink.written l.output) q)

abbrev pub decreases-loop-left : goal.decreases-loop-left
decreases-loop-left g l = l.left
