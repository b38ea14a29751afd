use Rattle.std.proofs.Common.{◌≤◌, length, subst, arith}
use Rattle.std.proofs.lemmas.List.{take_all}
use Rattle.cs_node_pool.specs.Seats.{Seats, IsPicked, waits, is_due}
use Rattle.cs_node_pool.proofs.Picking.{picked-none, picked-more}
use Rattle.cs_node_pool.proofs.kept.pick.Goals as goal

pub loop-index-init : goal.loop-index-init
loop-index-init c = record {
  waiting = picked-none waits c.clear.new.self c.clear.ensures.empty c.clear.ensures.ordered;
  ready = picked-none is_due c.clear-2.new.self c.clear-2.ensures.empty c.clear-2.ensures.ordered;
}

pub loop-index-preserved : goal.loop-index-preserved
loop-index-preserved c =
    let seats : Seats = c.args.seats.now.entries in
    record {
      waiting = picked-more waits c.loop-index.waiting c.mark.new.chosen seats c.loop-index.index c.index-place.result.now c.index-place.ensures c.loop-index.invariant.waiting
          c.waits.result c.waits.ensures (c.in_ok-mark.ensures.has, c.in_ok-mark.ensures.rising);
      ready = picked-more is_due c.loop-index.ready c.mark-in-loop-index.new.chosen seats c.loop-index.index c.index-place.result.now c.index-place.ensures c.loop-index.invariant.ready
          c.is_due.result c.is_due.ensures (c.in_ok-mark-2.ensures.has, c.in_ok-mark-2.ensures.rising);
    }

pub returns-clause-waiting : goal.returns-clause-waiting
returns-clause-waiting c =
    let seats : Seats = c.args.seats.now.entries in
    let all : length seats ≤ c.loop-index.index = omega (arith, c.len-index-end.ensures.len, c.loop-index-test.false) in
    subst (IsPicked waits c.loop-index.waiting) (take_all c.loop-index.index seats all) c.loop-index.invariant.waiting

pub returns-clause-ready : goal.returns-clause-ready
returns-clause-ready c =
    let seats : Seats = c.args.seats.now.entries in
    let all : length seats ≤ c.loop-index.index = omega (arith, c.len-index-end.ensures.len, c.loop-index-test.false) in
    subst (IsPicked is_due c.loop-index.ready) (take_all c.loop-index.index seats all) c.loop-index.invariant.ready
