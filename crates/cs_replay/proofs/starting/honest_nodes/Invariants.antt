use Rattle.std.proofs.Common.{◌≡◌}
use Rattle.cs_replay.specs.Settings.{honest_below}
use Rattle.cs_replay.proofs.starting.honest_nodes.Given as goal

abbrev pub invariant-loop-number : goal.invariant-loop-number
invariant-loop-number l = l.names.items ≡ honest_below l.members l.schedule.liars l.number
