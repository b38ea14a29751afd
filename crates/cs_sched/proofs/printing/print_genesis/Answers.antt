use Rattle.cs_base.proofs.Written.{each_more}
use Rattle.cs_text.specs.Printed.{line_text}
use Rattle.cs_sched.specs.Printed.{object_words}
use Rattle.cs_sched.proofs.Texts.{lines_done}
use Rattle.cs_sched.proofs.printing.print_genesis.Goals as goal

pub loop-object-preserved : goal.loop-object-preserved
loop-object-preserved c =
    each_more (λ object. line_text (object_words object)) c.args.objects.now c.loop-object.object-index c.object-item.result c.args.out.now c.loop-object.out c.print_object.new.out c.loop-object-test.true c.object-item.is c.loop-object.invariant
    c.in_ok-print_object.ensures.ok

pub returns-clause-ok : goal.returns-clause-ok
returns-clause-ok c = lines_done object_words c.args.objects.now c.loop-object.object-index c.args.out.now c.loop-object.out c.loop-object-test.false c.loop-object.invariant
