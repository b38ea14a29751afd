use Rattle.std.proofs.Common.{◌≡◌, ◌++◌, drop}
use Rattle.cs_cases.specs.Printed.{comma_row_from, comma_row, each_object}
use Rattle.cs_cases.proofs.printing.put_object_row.Given as goal

abbrev pub invariant-loop-place : goal.invariant-loop-place
invariant-loop-place l = l.out.items ++ comma_row_from l.place (each_object (drop l.place l.objects)) ≡ l.initial.out.items ++ comma_row (each_object l.objects)
