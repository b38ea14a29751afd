use Rattle.std.proofs.Common.{◌≡◌, ◌++◌}
use Rattle.cs_cli.specs.Reports.{method_lines}
use Rattle.cs_cli.proofs.report.put_methods.Given as goal

-- the lines so far, and those of what is left, are those of all
abbrev pub invariant-loop-method : goal.invariant-loop-method
invariant-loop-method l = l.out.items ++ method_lines l.method-iterator.a.rest.now l.method-iterator.b.rest.now ≡ l.fn.out.items ++ method_lines l.methods l.costs
