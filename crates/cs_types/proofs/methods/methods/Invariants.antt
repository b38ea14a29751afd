use Rattle.std.proofs.Common.{◌≡◌, drop, length}
use Rattle.cs_types_kinds.specs.Told.{told_through}
use Rattle.cs_types.specs.Accepted.{method_told, methods_told}
use Rattle.cs_types.proofs.methods.methods.Given as goal

abbrev pub invariant-loop-i : goal.invariant-loop-i
invariant-loop-i l = record {
  contract : l.scope.contract ≡ l.contract;
  count : length l.scope.costs ≡ l.i;
  told : told_through (method_told l.contract) l.scope.costs (drop l.i l.methods) ≡ methods_told l.contract;
}
