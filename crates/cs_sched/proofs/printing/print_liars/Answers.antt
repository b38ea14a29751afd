use Rattle.cs_sched.specs.Printed.{liar_words}
use Rattle.cs_sched.proofs.Texts.{line_more, lines_done}
use Rattle.cs_sched.proofs.printing.print_liars.Goals as goal

pub loop-liar-preserved : goal.loop-liar-preserved
loop-liar-preserved c =
    line_more liar_words c.args.liars.now c.loop-liar.liar-index _ c.args.out.now c.loop-liar.out c.print_liar.new.out c.loop-liar-test.true c.loop-liar.invariant c.in_ok-print_liar.ensures.ok

pub returns-clause-ok : goal.returns-clause-ok
returns-clause-ok c = lines_done liar_words c.args.liars.now c.loop-liar.liar-index c.args.out.now c.loop-liar.out c.loop-liar-test.false c.loop-liar.invariant
