use Rattle.std.proofs.Common.{◌≡◌}
use Rattle.cs_replay_play.specs.Logged.{notes_logged}
use Rattle.cs_replay_play.proofs.node_log.NodeLog.take.Given as goal

abbrev pub invariant-loop-note : goal.invariant-loop-note
invariant-loop-note l = l.self ≡ notes_logged l.yielded l.initial.self
