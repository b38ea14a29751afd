use Rattle.std.proofs.Common.{◌≡◌, refl, arith}
use Rattle.cs_node_rules.specs.Deployment.{site_of}
use Rattle.cs_node.specs.Cores.{CoreStandsFor}
use Rattle.cs_serve.specs.declared.ending.End.TheVariants.{LinkFault, WriteFault}
use Rattle.cs_io.specs.laws.Told.{stays-same, stays-both}
use Rattle.cs_io.specs.Outside.{beside}
use Rattle.std.proofs.lemmas.Bool.{iff_false}
use Rattle.cs_serve.specs.laws.Taken.{few-more}
use Rattle.cs_serve.proofs.Turns.{serves-nothing, begins, goes-on, ends, done, le_same, le_more, cause_later}
use Rattle.cs_serve.proofs.serving.serve.Goals as goal

pub loop-buf-init : goal.loop-buf-init
loop-buf-init g c = record {
  so_far = λ setup net v is.
      let site = site_of setup net g.O.Order.rules g.O.Carried.carrier in
      begins (CoreStandsFor g.O.Order.stands g.J.Judge.is_approved site) site v c.args.until (beside (g.L.Link.told c.args.link.now) (g.K.Sink.written c.args.out.now)) c.args.core is;
  few = omega arith;
  bound = stays-same (g.L.Link.told c.args.link.now).bound;
  placed = stays-same (g.L.Link.told c.args.link.now).placed;
  link = le_same (g.L.Link.faults c.args.link.now);
  sink = le_same (g.K.Sink.faults c.args.out.now);
}

pub loop-buf-preserved : goal.loop-buf-preserved
loop-buf-preserved g c =
    let so_far = c.loop-buf.invariant in
    let turn = c.in-Ok-take_turn.ensures in
    record {
      so_far = λ setup net v is.
          let site = site_of setup net g.O.Order.rules g.O.Carried.carrier in
          goes-on (CoreStandsFor g.O.Order.stands g.J.Judge.is_approved site) site v c.args.until c.loop-buf.turns c.loop-buf.ticks (beside (g.L.Link.told c.args.link.now) (g.K.Sink.written c.args.out.now)) (beside (g.L.Link.told c.loop-buf.link) (g.K.Sink.written c.loop-buf.out)) (beside (g.L.Link.told c.take_turn.new.link) (g.K.Sink.written c.take_turn.new.out))
          c.loop-buf.core (iff_false c.is_over.ensures.over c.loop-buf-test.true) (so_far.so_far setup net v is) c.in-Ok-take_turn.next c.in-Ok-take_turn.ticked c.from-ticks.result c.from-ticks.ensures (λ w stood. turn.takes setup net w stood);
      few = few-more c.loop-buf.turns c.loop-buf.ticks c.from-ticks.result c.in-Ok-take_turn.ticked c.from-ticks.ensures so_far.few;
      bound = stays-both (g.L.Link.told c.args.link.now).bound (g.L.Link.told c.loop-buf.link).bound (g.L.Link.told c.take_turn.new.link).bound so_far.bound turn.bound;
      placed = stays-both (g.L.Link.told c.args.link.now).placed (g.L.Link.told c.loop-buf.link).placed (g.L.Link.told c.take_turn.new.link).placed so_far.placed turn.placed;
      link = le_more (g.L.Link.faults c.args.link.now) (g.L.Link.faults c.loop-buf.link) (g.L.Link.faults c.take_turn.new.link) so_far.link turn.link.later;
      sink = le_more (g.K.Sink.faults c.args.out.now) (g.K.Sink.faults c.loop-buf.out) (g.K.Sink.faults c.take_turn.new.out) so_far.sink turn.sink.later;
    }

pub overflow_add-turns : goal.overflow_add-turns
overflow_add-turns g c =
    let below = c.is_over.ensures.last c.loop-buf-test.true in
    omega arith

pub overflow_add-ticks : goal.overflow_add-ticks
overflow_add-ticks g c =
    let below = c.is_over.ensures.last c.loop-buf-test.true in
    let few = few-more c.loop-buf.turns c.loop-buf.ticks c.from-ticks.result c.in-Ok-take_turn.ticked c.from-ticks.ensures c.loop-buf.invariant.few in
    omega arith

pub returns-in_default-clause-serves : goal.returns-in_default-clause-serves
returns-in_default-clause-serves g c = λ setup net v is.
    let site = site_of setup net g.O.Order.rules g.O.Carried.carrier in
    serves-nothing (CoreStandsFor g.O.Order.stands g.J.Judge.is_approved site) site v c.args.until (beside (g.L.Link.told c.args.link.now) (g.K.Sink.written c.args.out.now)) c.args.core is

pub returns-in-Err-clause-serves : goal.returns-in-Err-clause-serves
returns-in-Err-clause-serves g c = λ setup net v is.
    let site = site_of setup net g.O.Order.rules g.O.Carried.carrier in
    let turn = c.in-Err.ensures in
    ends (CoreStandsFor g.O.Order.stands g.J.Judge.is_approved site) site v c.args.until c.loop-buf.turns c.loop-buf.ticks (beside (g.L.Link.told c.args.link.now) (g.K.Sink.written c.args.out.now)) (beside (g.L.Link.told c.loop-buf.link) (g.K.Sink.written c.loop-buf.out)) (beside (g.L.Link.told c.take_turn.new.link) (g.K.Sink.written c.take_turn.new.out))
    c.loop-buf.core (iff_false c.is_over.ensures.over c.loop-buf-test.true) (c.loop-buf.invariant.so_far setup net v is) c.in-Err.ended turn.ended (λ w stood. turn.takes setup net w stood)

pub returns-in-Err-clause-kept : goal.returns-in-Err-clause-kept
returns-in-Err-clause-kept g c = c.in-Err.ensures.kept

pub returns-in-Err-clause-bound : goal.returns-in-Err-clause-bound
returns-in-Err-clause-bound g c =
    stays-both (g.L.Link.told c.args.link.now).bound (g.L.Link.told c.loop-buf.link).bound (g.L.Link.told c.take_turn.new.link).bound c.loop-buf.invariant.bound c.in-Err.ensures.bound

pub returns-in-Err-clause-placed : goal.returns-in-Err-clause-placed
returns-in-Err-clause-placed g c =
    stays-both (g.L.Link.told c.args.link.now).placed (g.L.Link.told c.loop-buf.link).placed (g.L.Link.told c.take_turn.new.link).placed c.loop-buf.invariant.placed c.in-Err.ensures.placed

pub returns-in-Err-clause-link : goal.returns-in-Err-clause-link
returns-in-Err-clause-link g c =
    cause_later (g.L.Link.faults c.args.link.now) (g.L.Link.faults c.loop-buf.link) (g.L.Link.faults c.take_turn.new.link) c.loop-buf.invariant.link c.in-Err.ensures.link (λ (failed : c.in-Err.ended.0 ≡ LinkFault). failed)

pub returns-in-Err-clause-sink : goal.returns-in-Err-clause-sink
returns-in-Err-clause-sink g c =
    cause_later (g.K.Sink.faults c.args.out.now) (g.K.Sink.faults c.loop-buf.out) (g.K.Sink.faults c.take_turn.new.out) c.loop-buf.invariant.sink c.in-Err.ensures.sink (λ (failed : c.in-Err.ended.0 ≡ WriteFault). failed)

pub returns-clause-serves : goal.returns-clause-serves
returns-clause-serves g c = λ setup net v is.
    let site = site_of setup net g.O.Order.rules g.O.Carried.carrier in
    done (CoreStandsFor g.O.Order.stands g.J.Judge.is_approved site) site v c.args.until c.loop-buf.turns c.loop-buf.ticks (beside (g.L.Link.told c.args.link.now) (g.K.Sink.written c.args.out.now)) (beside (g.L.Link.told c.loop-buf.link) (g.K.Sink.written c.loop-buf.out))
    c.loop-buf.core (c.is_over.ensures.over.0 c.loop-buf-test.false) (c.loop-buf.invariant.so_far setup net v is)

pub returns-clause-kept : goal.returns-clause-kept
returns-clause-kept g c = λ other. refl

pub returns-clause-bound : goal.returns-clause-bound
returns-clause-bound g c = c.loop-buf.invariant.bound

pub returns-clause-placed : goal.returns-clause-placed
returns-clause-placed g c = c.loop-buf.invariant.placed

pub returns-clause-link : goal.returns-clause-link
returns-clause-link g c = record { later = c.loop-buf.invariant.link; cause = λ failed. absurd cc }

pub returns-clause-sink : goal.returns-clause-sink
returns-clause-sink g c = record { later = c.loop-buf.invariant.sink; cause = λ failed. absurd cc }
