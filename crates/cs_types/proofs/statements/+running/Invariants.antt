use Rattle.std.proofs.Common.{◌≡◌, drop, map}
use Rattle.cs_types_kinds.specs.Told.{told_through}
use Rattle.cs_types.specs.Stating.{statement_added}
use Rattle.cs_types.specs.Blocks.{statement_told}
use Rattle.cs_types.specs.Steps.{SightStays}
use Rattle.cs_types.proofs.statements.+running.Given as goal

abbrev pub invariant-statements-loop-one : goal.invariant-statements-loop-one
invariant-statements-loop-one l = record {
  told : told_through statement_added (l.sum, l.scope) (map statement_told (drop l.one-index l.all)) ≡ told_through statement_added (0, l.fn.scope) (map statement_told l.all);
  stays : SightStays l.fn.scope l.scope;
}
