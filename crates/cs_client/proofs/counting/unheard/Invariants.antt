use Rattle.std.proofs.Common.{take}
use Rattle.cs_client.specs.Voices.{AreUnheard}
use Rattle.cs_client.proofs.counting.unheard.Given as goal

abbrev pub invariant-loop-shard : goal.invariant-loop-shard
invariant-loop-shard l = AreUnheard l.config.f (take l.shard-index l.shards) l.voices.items
