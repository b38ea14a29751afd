use Rattle.std.proofs.Common.{◌≡◌}
use Rattle.std.specs.Prelude.{replicate}
use Rattle.cs_replay_play.specs.Logged.{none_logged}
use Rattle.cs_replay_play.proofs.node_log.start_logs.Given as goal

abbrev pub invariant-loop-node : goal.invariant-loop-node
invariant-loop-node l = l.logs.items ≡ replicate l._node none_logged
