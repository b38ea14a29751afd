use Rattle.cs_base.proofs.Written.{each_more}
use Rattle.cs_text.specs.Printed.{line_text}
use Rattle.cs_sched.specs.Printed.{event_words}
use Rattle.cs_sched.proofs.Texts.{lines_done}
use Rattle.cs_sched.proofs.printing.print_events.Goals as goal

pub loop-event-preserved : goal.loop-event-preserved
loop-event-preserved c =
    each_more (λ event. line_text (event_words event.1)) c.args.events.now c.loop-event.event-index c.loop-event-item.result c.args.out.now c.loop-event.out c.print_event.new.out c.loop-event-test.true c.loop-event-item.is c.loop-event.invariant
    c.in_ok-print_event.ensures.ok

pub returns-clause-ok : goal.returns-clause-ok
returns-clause-ok c = lines_done (λ event. event_words event.1) c.args.events.now c.loop-event.event-index c.args.out.now c.loop-event.out c.loop-event-test.false c.loop-event.invariant
