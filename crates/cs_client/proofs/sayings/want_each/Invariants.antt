use Rattle.std.proofs.Common.{◌≡◌, ◌++◌, take}
use Rattle.std.specs.List.{flat_map}
use Rattle.cs_client.specs.Sayings.{outs_of_sayings, wants_from}
use Rattle.cs_client.proofs.sayings.want_each.Given as goal

abbrev pub invariant-loop-shard : goal.invariant-loop-shard
invariant-loop-shard l =
    l.outs ≡ l.initial.outs ++ outs_of_sayings l.keys (flat_map (wants_from l.config l.first) (take l.shard-index l.shards))
