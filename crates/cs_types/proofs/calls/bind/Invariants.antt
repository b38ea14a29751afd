use Rattle.std.proofs.Common.{◌≡◌, drop}
use Rattle.cs_types.specs.Stating.{bound}
use Rattle.cs_types.specs.Steps.{SightStays}
use Rattle.cs_types.proofs.calls.bind.Given as goal

abbrev pub invariant-loop-i : goal.invariant-loop-i
invariant-loop-i l = record {
  told : bound (drop l.i l.names) (drop l.i l.fields) l.scope.names ≡ bound l.names l.fields l.fn.scope.names;
  stays : SightStays l.fn.scope l.scope;
}
