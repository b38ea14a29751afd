use Rattle.std.proofs.Common.{◌≡◌, ◌++◌}
use Rattle.std.specs.List.{flat_map}
use Rattle.cs_client.specs.Nodes.{numbers_below}
use Rattle.cs_client.specs.Sayings.{outs_of_sayings, wants_one}
use Rattle.cs_client.proofs.sayings.want_from.Given as goal

abbrev pub invariant-loop-number : goal.invariant-loop-number
invariant-loop-number l =
    l.outs ≡ l.initial.outs ++ outs_of_sayings l.keys (flat_map (wants_one l.config l.first l.shard) (numbers_below l.number))
