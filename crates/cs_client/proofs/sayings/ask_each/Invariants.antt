use Rattle.std.proofs.Common.{◌≡◌, ◌++◌, take}
use Rattle.std.specs.List.{flat_map}
use Rattle.cs_client.specs.Sayings.{outs_of_sayings, asks_on}
use Rattle.cs_client.proofs.sayings.ask_each.Given as goal

abbrev pub invariant-loop-name : goal.invariant-loop-name
invariant-loop-name l =
    l.outs ≡ l.initial.outs ++ outs_of_sayings l.keys (flat_map (asks_on l.config) (take l.name-index l.names))
