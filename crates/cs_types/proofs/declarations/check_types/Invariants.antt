use Rattle.std.proofs.Common.{◌≡◌, take, drop}
use Rattle.cs_types_kinds.specs.Told.{told_through}
use Rattle.cs_types.specs.Declaring.{type_told, types_told}
use Rattle.cs_types.proofs.declarations.check_types.Given as goal

abbrev pub invariant-loop-i : goal.invariant-loop-i
invariant-loop-i l = told_through type_told (take l.i l.types) (drop l.i l.types) ≡ types_told l.types
