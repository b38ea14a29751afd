use Rattle.std.proofs.Common.{◌≡◌, ◌++◌, take}
use Rattle.cs_base.specs.Fields.{each}
use Rattle.cs_text.specs.Printed.{line_text}
use Rattle.cs_sched.specs.Printed.{object_words}
use Rattle.cs_sched.proofs.printing.print_genesis.Given as goal

abbrev pub invariant-loop-object : goal.invariant-loop-object
invariant-loop-object l = l.out ≡ l.fn.out ++ each (λ object. line_text (object_words object)) (take l.object-index l.objects)
