use Rattle.std.proofs.Common.{◌≡◌, take, drop}
use Rattle.cs_types_kinds.specs.Told.{told_through}
use Rattle.cs_types.specs.Declaring.{field_told, fields_told}
use Rattle.cs_types.proofs.declarations.check_fields.Given as goal

abbrev pub invariant-loop-i : goal.invariant-loop-i
invariant-loop-i l = told_through field_told (take l.i l.fields) (drop l.i l.fields) ≡ fields_told l.fields
