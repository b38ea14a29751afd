use Rattle.std.proofs.Common.{◌≡◌, ◌++◌, take}
use Rattle.cs_gen.specs.Rounds.{submitted_to}
use Rattle.cs_gen.proofs.rounds.submit.Given as goal

abbrev pub invariant-loop-shard : goal.invariant-loop-shard
invariant-loop-shard l = l.events.items ≡ l.initial.events.items ++ submitted_to l.session (take l.shard-index l.shards)
