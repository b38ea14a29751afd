use Rattle.std.proofs.Common.{◌≡◌, ◌++◌, drop}
use Rattle.cs_cases.specs.Printed.{comma_row_from, comma_row, each_value}
use Rattle.cs_cases.proofs.printing.+print.Given as goal

abbrev pub invariant-put_row-loop-place : goal.invariant-put_row-loop-place
invariant-put_row-loop-place l = l.out.items ++ comma_row_from l.place (each_value (drop l.place l.values)) ≡ l.initial.out.items ++ comma_row (each_value l.values)
