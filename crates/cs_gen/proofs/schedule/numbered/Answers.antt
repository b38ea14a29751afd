use Rattle.cs_gen.proofs.Lines.{pushed, counted}
use Rattle.cs_gen.proofs.schedule.numbered.Goals as goal

pub loop-event-preserved : goal.loop-event-preserved
loop-event-preserved c = (
  counted c.args.first c.loop-event.line c.loop-event.yielded c.in-Some.event c.loop-event.invariant.0,
  pushed c.args.first c.loop-event.line c.loop-event.yielded c.in-Some.event c.loop-event.lines.items c.push.new.self.items c.in_ok-push.ensures.items c.loop-event.invariant.1 c.loop-event.invariant.0,
)
