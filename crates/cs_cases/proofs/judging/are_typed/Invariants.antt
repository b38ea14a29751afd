use Rattle.std.proofs.Common.{◌≡◌, drop}
use Rattle.std.specs.List.{list_all}
use Rattle.cs_cases.specs.Judging.{is_typed}
use Rattle.cs_cases.proofs.judging.are_typed.Given as goal

abbrev pub invariant-loop-object : goal.invariant-loop-object
invariant-loop-object l = list_all (is_typed l.types) (drop l.object-index l.objects) ≡ list_all (is_typed l.types) l.objects
