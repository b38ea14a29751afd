use Rattle.std.proofs.Common.{◌≡◌, ◌≤◌, drop}
use Rattle.std.specs.List.{All}
use Rattle.cs_replay_rules.specs.Play.{Played, play_all}
use Rattle.cs_replay_play.specs.Standing.{Setting, site_in, StandsPrinted, IsToAnother}
use Rattle.cs_replay_play.proofs.play.Replay.play_all.Given as goal

abbrev pub invariant-loop-line : goal.invariant-loop-line
invariant-loop-line g l =
    (g.K.Sink.faults l.initial.output ≤ g.K.Sink.faults l.output)
    × ((s : Setting) (p : Played g.row.O-Message.Denot)
    → StandsPrinted g.O.Order.stands g.J.Judge.is_approved g.O.Order.rules g.O.Carried.carrier s l.initial.self (g.K.Sink.written l.initial.output) p → All (λ numbered. IsToAnother s numbered.1) l.events
    → (q : Played g.row.O-Message.Denot)
    × (play_all (site_in g.O.Order.rules g.O.Carried.carrier s) s.traced l.events p ≡ play_all (site_in g.O.Order.rules g.O.Carried.carrier s) s.traced (drop l.line-index l.events) q)
    × StandsPrinted g.O.Order.stands g.J.Judge.is_approved g.O.Order.rules g.O.Carried.carrier s l.self (g.K.Sink.written l.output) q)
