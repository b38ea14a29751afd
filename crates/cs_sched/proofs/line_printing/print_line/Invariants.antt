use Rattle.std.proofs.Common.{◌≡◌, ◌++◌, take}
use Rattle.cs_base.specs.Fields.{each}
use Rattle.cs_sched.proofs.Texts.{field_text}
use Rattle.cs_sched.proofs.line_printing.print_line.Given as goal

abbrev pub invariant-loop-field : goal.invariant-loop-field
invariant-loop-field l = l.out ≡ (l.fn.out ++ l.word) ++ each field_text (take l.field-index l.fields)
