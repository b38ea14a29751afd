use Rattle.std.proofs.Common.{◌≡◌, ◌++◌, take}
use Rattle.cs_base.specs.Fields.{each}
use Rattle.cs_text.specs.Printed.{line_text}
use Rattle.cs_sched.specs.Printed.{liar_words}
use Rattle.cs_sched.proofs.printing.print_liars.Given as goal

abbrev pub invariant-loop-liar : goal.invariant-loop-liar
invariant-loop-liar l = l.out ≡ l.fn.out ++ each (λ liar. line_text (liar_words liar)) (take l.liar-index l.liars)
