use Rattle.std.proofs.Common.{◌≡◌, drop}
use Rattle.cs_types.specs.Declaring.{slots_told}
use Rattle.cs_types.specs.Steps.{SightStays}
use Rattle.cs_types.proofs.declarations.add_slots.Given as goal

abbrev pub invariant-loop-i : goal.invariant-loop-i
invariant-loop-i l = record {
  told : slots_told l.fn.scope.contract.types l.usage (drop l.i l.slots) l.scope.names ≡ slots_told l.fn.scope.contract.types l.usage l.slots l.fn.scope.names;
  stays : SightStays l.fn.scope l.scope;
}
