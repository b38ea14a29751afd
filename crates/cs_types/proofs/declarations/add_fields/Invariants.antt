use Rattle.std.proofs.Common.{◌≡◌, drop}
use Rattle.cs_types_kinds.specs.Told.{told_through}
use Rattle.cs_types.specs.Declaring.{name_told, names_told}
use Rattle.cs_types.specs.Steps.{SightStays}
use Rattle.cs_types.proofs.declarations.add_fields.Given as goal

abbrev pub invariant-loop-field : goal.invariant-loop-field
invariant-loop-field l = record {
  told : told_through (name_told l.usage) l.scope.names (drop l.field-index l.fields) ≡ names_told l.usage l.fields l.fn.scope.names;
  stays : SightStays l.fn.scope l.scope;
}
