use Rattle.std.proofs.Common.{◌≡◌, drop}
use Rattle.cs_types.specs.Accepted.{first_dear}
use Rattle.cs_types.proofs.checked.first_dear.Given as goal

abbrev pub invariant-loop-one : goal.invariant-loop-one
invariant-loop-one l = first_dear (drop l.one-index l.costs) ≡ first_dear l.costs
