use Rattle.std.proofs.Common.{◌≡◌, ◌++◌, drop}
use Rattle.cs_order_rules.specs.Rules.{insert_line, with_line}
use Rattle.cs_order_open.proofs.lines.with_line.Given as goal

abbrev pub invariant-loop-other : goal.invariant-loop-other
invariant-loop-other l = l.out.items ++ with_line l.waiting (drop l.other-index l.lines) ≡ insert_line l.fn.line l.lines
