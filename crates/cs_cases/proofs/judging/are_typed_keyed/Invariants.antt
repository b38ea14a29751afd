use Rattle.std.proofs.Common.{◌≡◌, drop}
use Rattle.std.specs.List.{list_all}
use Rattle.cs_cases.specs.Judging.{is_typed_keyed}
use Rattle.cs_cases.proofs.judging.are_typed_keyed.Given as goal

abbrev pub invariant-loop-keyed : goal.invariant-loop-keyed
invariant-loop-keyed l = list_all (is_typed_keyed l.types) (drop l.keyed-index l.objects) ≡ list_all (is_typed_keyed l.types) l.objects
