use Rattle.std.proofs.Common.{◌≡◌, drop}
use Rattle.cs_eval_values.specs.Views.{type_named}
use Rattle.cs_cases.proofs.judging.type_named.Given as goal

abbrev pub invariant-loop-typedef : goal.invariant-loop-typedef
invariant-loop-typedef l = type_named l.name (drop l.typedef-index l.types) ≡ type_named l.name l.types
