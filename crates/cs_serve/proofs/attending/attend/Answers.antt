use Rattle.std.proofs.Common.{◌≡◌, Err, sym, ap, subst, arith}
use Rattle.cs_client.specs.Seen.{Client}
use Rattle.cs_serve.specs.declared.client_ending.Ending.{Ending}
use Rattle.cs_serve.specs.declared.client_ending.Ending.TheVariants.{LinkFault}
use Rattle.cs_io.specs.laws.Told.{stays-same, stays-both}
use Rattle.std.proofs.lemmas.Bool.{iff_false}
use Rattle.cs_serve.specs.laws.Taken.{few-more}
use Rattle.cs_serve.proofs.Runs.{SoFar, begins, goes-on, nothing, over, ends-so, le_same, le_more, cause-later}
use Rattle.cs_serve.proofs.attending.attend.Goals as goal

pub loop-buf-init : goal.loop-buf-init
loop-buf-init g c = record {
  goes = λ e stands open_yet.
      let a = g.L.Link.told c.args.link.now in
      subst (λ (client : Client). SoFar e c.args.until 0 0 a a client) (sym c.client.view_is) (begins e c.args.until a c.args.client stands open_yet);
  few = omega arith;
  bound = stays-same (g.L.Link.told c.args.link.now).bound;
  placed = stays-same (g.L.Link.told c.args.link.now).placed;
  faults = le_same (g.L.Link.faults c.args.link.now);
}

pub loop-buf-preserved : goal.loop-buf-preserved
loop-buf-preserved g c =
    let so_far = c.loop-buf.invariant in
    let turn = c.in-Ok-take_turn.ensures in
    record {
      goes = λ e stands open_yet.
          goes-on e c.args.until c.loop-buf.turns c.loop-buf.ticks
          (g.L.Link.told c.args.link.now)
          (g.L.Link.told c.loop-buf.link)
          (g.L.Link.told c.take_turn.new.link)
          c.loop-buf.client c.in-Ok-take_turn.next c.in-Ok-take_turn.ticked c.from-ticks.result c.from-ticks.ensures (iff_false c.is_over.ensures.over c.loop-buf-test.true) (so_far.goes e stands open_yet) (turn.goes e);
      few = few-more c.loop-buf.turns c.loop-buf.ticks c.from-ticks.result c.in-Ok-take_turn.ticked c.from-ticks.ensures so_far.few;
      bound = stays-both (g.L.Link.told c.args.link.now).bound (g.L.Link.told c.loop-buf.link).bound (g.L.Link.told c.take_turn.new.link).bound so_far.bound turn.bound;
      placed = stays-both (g.L.Link.told c.args.link.now).placed (g.L.Link.told c.loop-buf.link).placed (g.L.Link.told c.take_turn.new.link).placed so_far.placed turn.placed;
      faults = le_more (g.L.Link.faults c.args.link.now) (g.L.Link.faults c.loop-buf.link) (g.L.Link.faults c.take_turn.new.link) so_far.faults turn.cause.later;
    }

pub overflow_add-ticks : goal.overflow_add-ticks
overflow_add-ticks g c =
    let below = c.is_over.ensures.last c.loop-buf-test.true in
    let few = few-more c.loop-buf.turns c.loop-buf.ticks c.from-ticks.result c.in-Ok-take_turn.ticked c.from-ticks.ensures c.loop-buf.invariant.few in
    omega arith

pub returns-in_default-clause-attends : goal.returns-in_default-clause-attends
returns-in_default-clause-attends g c = λ e stands open_yet.
    nothing e c.args.until (g.L.Link.told c.args.link.now)

pub returns-in-Err-clause-attends : goal.returns-in-Err-clause-attends
returns-in-Err-clause-attends g c = λ e stands open_yet.
    ends-so e c.args.until c.loop-buf.turns c.loop-buf.ticks
    (g.L.Link.told c.args.link.now)
    (g.L.Link.told c.loop-buf.link)
    (g.L.Link.told c.take_turn.new.link)
    c.loop-buf.client (iff_false c.is_over.ensures.over c.loop-buf-test.true) (c.loop-buf.invariant.goes e stands open_yet) c.in-Err.ending (c.in-Err.ensures.goes e)

pub returns-in-Err-clause-bound : goal.returns-in-Err-clause-bound
returns-in-Err-clause-bound g c =
    stays-both (g.L.Link.told c.args.link.now).bound (g.L.Link.told c.loop-buf.link).bound (g.L.Link.told c.take_turn.new.link).bound c.loop-buf.invariant.bound c.in-Err.ensures.bound

pub returns-in-Err-clause-placed : goal.returns-in-Err-clause-placed
returns-in-Err-clause-placed g c =
    stays-both (g.L.Link.told c.args.link.now).placed (g.L.Link.told c.loop-buf.link).placed (g.L.Link.told c.take_turn.new.link).placed c.loop-buf.invariant.placed c.in-Err.ensures.placed

pub returns-in-Err-clause-cause : goal.returns-in-Err-clause-cause
returns-in-Err-clause-cause g c =
    cause-later (g.L.Link.faults c.args.link.now) (g.L.Link.faults c.loop-buf.link) (g.L.Link.faults c.take_turn.new.link)
    c.loop-buf.invariant.faults c.in-Err.ensures.cause (λ (failed : c.in-Err.ending ≡ LinkFault). ap (λ (ending : Ending). Err ending) failed)

pub returns-clause-attends : goal.returns-clause-attends
returns-clause-attends g c = λ e stands open_yet.
    over e c.args.until c.loop-buf.turns c.loop-buf.ticks
    (g.L.Link.told c.args.link.now)
    (g.L.Link.told c.loop-buf.link)
    c.loop-buf.client (c.is_over.ensures.over.0 c.loop-buf-test.false)
    (c.loop-buf.invariant.goes e stands open_yet)

pub returns-clause-bound : goal.returns-clause-bound
returns-clause-bound g c = c.loop-buf.invariant.bound

pub returns-clause-placed : goal.returns-clause-placed
returns-clause-placed g c = c.loop-buf.invariant.placed

pub returns-clause-cause : goal.returns-clause-cause
returns-clause-cause g c = record { later = c.loop-buf.invariant.faults; cause = λ failed. absurd cc }
