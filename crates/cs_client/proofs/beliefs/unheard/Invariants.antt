use Rattle.std.proofs.Common.{◌≡◌, map, take}
use Rattle.cs_client.specs.Kept.{unheard_on}
use Rattle.cs_client.proofs.beliefs.unheard.Given as goal

abbrev pub invariant-loop-name : goal.invariant-loop-name
invariant-loop-name l = l.asked.items ≡ map (unheard_on l.members) (take l.name-index l.names)
