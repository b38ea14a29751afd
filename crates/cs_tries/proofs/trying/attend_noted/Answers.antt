use Rattle.std.proofs.Common.{◌≡◌, Err, refl, ap, arith}
use Rattle.std.proofs.lemmas.Bool.{iff_false}
use Rattle.cs_io.specs.Outside.{beside}
use Rattle.cs_io.specs.laws.Told.{stays-same, stays-both}
use Rattle.cs_tries.specs.Tries.{try_begun}
use Rattle.cs_serve.specs.declared.client_ending.Ending.TheVariants.{LinkFault}
use Rattle.cs_tries.specs.declared.ending.TryEnding.{TryEnding}
use Rattle.cs_tries.specs.declared.ending.TryEnding.TheVariants.{Ended, WriteFault}
use Rattle.cs_serve.specs.laws.Taken.{few-more}
use Rattle.cs_serve.proofs.Runs.{le_same, le_more, cause-later}
use Rattle.cs_tries.proofs.TryRuns.{tries-begin, tries-go-on, tries-nothing, tries-over, tries-end}
use Rattle.cs_tries.proofs.trying.attend_noted.Goals as goal

pub loop-buf-init : goal.loop-buf-init
loop-buf-init g c = record {
  goes = λ e stands open_yet.
      tries-begin c.args.details e c.args.tries c.args.until (beside (g.L.Link.told c.args.link.now) (g.K.Sink.written c.args.out.now)) c.args.noted stands open_yet;
  few = omega arith;
  bound = stays-same (g.L.Link.told c.args.link.now).bound;
  placed = stays-same (g.L.Link.told c.args.link.now).placed;
  link = le_same (g.L.Link.faults c.args.link.now);
  sink = le_same (g.K.Sink.faults c.args.out.now);
}

pub loop-buf-preserved : goal.loop-buf-preserved
loop-buf-preserved g c =
    let so_far = c.loop-buf.invariant in
    let turn = c.in-Ok-take_turn.ensures in
    record {
      goes = λ e stands open_yet.
          tries-go-on (try_begun c.args.details e c.args.tries) c.args.details refl c.args.until c.loop-buf.turns c.loop-buf.ticks
          (beside (g.L.Link.told c.args.link.now) (g.K.Sink.written c.args.out.now))
          (beside (g.L.Link.told c.loop-buf.link) (g.K.Sink.written c.loop-buf.out))
          (beside (g.L.Link.told c.take_turn.new.link) (g.K.Sink.written c.take_turn.new.out))
          c.loop-buf.noted c.in-Ok-take_turn.next c.loop-buf.tries c.in-Ok-take_turn.left c.in-Ok-take_turn.ticked c.from-ticks.result c.from-ticks.ensures (iff_false c.is_over.ensures.over c.loop-buf-test.true) (so_far.goes e stands open_yet) turn.goes;
      few = few-more c.loop-buf.turns c.loop-buf.ticks c.from-ticks.result c.in-Ok-take_turn.ticked c.from-ticks.ensures so_far.few;
      bound = stays-both (g.L.Link.told c.args.link.now).bound (g.L.Link.told c.loop-buf.link).bound (g.L.Link.told c.take_turn.new.link).bound so_far.bound turn.bound;
      placed = stays-both (g.L.Link.told c.args.link.now).placed (g.L.Link.told c.loop-buf.link).placed (g.L.Link.told c.take_turn.new.link).placed so_far.placed turn.placed;
      link = le_more (g.L.Link.faults c.args.link.now) (g.L.Link.faults c.loop-buf.link) (g.L.Link.faults c.take_turn.new.link) so_far.link turn.link.later;
      sink = le_more (g.K.Sink.faults c.args.out.now) (g.K.Sink.faults c.loop-buf.out) (g.K.Sink.faults c.take_turn.new.out) so_far.sink turn.sink.later;
    }

pub overflow_add-ticks : goal.overflow_add-ticks
overflow_add-ticks g c =
    let below = c.is_over.ensures.last c.loop-buf-test.true in
    let few = few-more c.loop-buf.turns c.loop-buf.ticks c.from-ticks.result c.in-Ok-take_turn.ticked c.from-ticks.ensures c.loop-buf.invariant.few in
    omega arith

pub returns-in_default-clause-attends : goal.returns-in_default-clause-attends
returns-in_default-clause-attends g c = λ e stands open_yet.
    tries-nothing (try_begun c.args.details e c.args.tries) c.args.until (beside (g.L.Link.told c.args.link.now) (g.K.Sink.written c.args.out.now))

pub returns-in-Err-clause-attends : goal.returns-in-Err-clause-attends
returns-in-Err-clause-attends g c = λ e stands open_yet.
    tries-end (try_begun c.args.details e c.args.tries) c.args.details refl c.args.until c.loop-buf.turns c.loop-buf.ticks
    (beside (g.L.Link.told c.args.link.now) (g.K.Sink.written c.args.out.now))
    (beside (g.L.Link.told c.loop-buf.link) (g.K.Sink.written c.loop-buf.out))
    (beside (g.L.Link.told c.take_turn.new.link) (g.K.Sink.written c.take_turn.new.out))
    c.loop-buf.noted c.loop-buf.tries (iff_false c.is_over.ensures.over c.loop-buf-test.true) (c.loop-buf.invariant.goes e stands open_yet) c.in-Err.ending c.in-Err.ensures.goes

pub returns-in-Err-clause-bound : goal.returns-in-Err-clause-bound
returns-in-Err-clause-bound g c =
    stays-both (g.L.Link.told c.args.link.now).bound (g.L.Link.told c.loop-buf.link).bound (g.L.Link.told c.take_turn.new.link).bound c.loop-buf.invariant.bound c.in-Err.ensures.bound

pub returns-in-Err-clause-placed : goal.returns-in-Err-clause-placed
returns-in-Err-clause-placed g c =
    stays-both (g.L.Link.told c.args.link.now).placed (g.L.Link.told c.loop-buf.link).placed (g.L.Link.told c.take_turn.new.link).placed c.loop-buf.invariant.placed c.in-Err.ensures.placed

pub returns-in-Err-clause-link : goal.returns-in-Err-clause-link
returns-in-Err-clause-link g c =
    cause-later (g.L.Link.faults c.args.link.now) (g.L.Link.faults c.loop-buf.link) (g.L.Link.faults c.take_turn.new.link)
    c.loop-buf.invariant.link c.in-Err.ensures.link (λ (failed : c.in-Err.ending ≡ Ended LinkFault). ap (λ (ending : TryEnding). Err ending) failed)

pub returns-in-Err-clause-sink : goal.returns-in-Err-clause-sink
returns-in-Err-clause-sink g c =
    cause-later (g.K.Sink.faults c.args.out.now) (g.K.Sink.faults c.loop-buf.out) (g.K.Sink.faults c.take_turn.new.out)
    c.loop-buf.invariant.sink c.in-Err.ensures.sink (λ (failed : c.in-Err.ending ≡ WriteFault). ap (λ (ending : TryEnding). Err ending) failed)

pub returns-clause-attends : goal.returns-clause-attends
returns-clause-attends g c = λ e stands open_yet.
    tries-over (try_begun c.args.details e c.args.tries) c.args.until c.loop-buf.turns c.loop-buf.ticks
    (beside (g.L.Link.told c.args.link.now) (g.K.Sink.written c.args.out.now))
    (beside (g.L.Link.told c.loop-buf.link) (g.K.Sink.written c.loop-buf.out))
    c.loop-buf.noted c.loop-buf.tries c.ending_of.result (c.is_over.ensures.over.0 c.loop-buf-test.false)
    (c.loop-buf.invariant.goes e stands open_yet) c.ending_of.ensures.ends

pub returns-clause-bound : goal.returns-clause-bound
returns-clause-bound g c = c.loop-buf.invariant.bound

pub returns-clause-placed : goal.returns-clause-placed
returns-clause-placed g c = c.loop-buf.invariant.placed

pub returns-clause-link : goal.returns-clause-link
returns-clause-link g c = record { later = c.loop-buf.invariant.link; cause = λ failed. absurd (c.ending_of.ensures.link failed) }

pub returns-clause-sink : goal.returns-clause-sink
returns-clause-sink g c = record { later = c.loop-buf.invariant.sink; cause = λ failed. absurd (c.ending_of.ensures.sink failed) }
