use Rattle.std.proofs.Common.{sym, arith}
use Rattle.cs_change.specs.Kept.{change_in, is_echoed}
use Rattle.cs_change.proofs.Splits.{splits}
use Rattle.cs_change.proofs.Safety.{echoed_upto, not_echoed_from}
use Rattle.cs_change.proofs.slot_changes.SlotChanges.last_echoed.Goals as goal

pub loop-low-preserved-then-is_echoed : goal.loop-low-preserved-then-is_echoed
loop-low-preserved-then-is_echoed c =
    let less = c.loop-low-test.true in (
      (omega arith),
      c.loop-low.invariant.1,
      echoed_upto c.args.self.now.f (change_in c.args.self.now.changes c.args.view) c.args.view c.args.digest.now _ (sym c.if-is_echoed.ensures),
      c.loop-low.invariant.3,
    )

pub loop-low-preserved : goal.loop-low-preserved
loop-low-preserved c =
    let less = c.loop-low-test.true in
    let few = c.loop-low.invariant.1 in (
      (omega arith),
      (omega arith),
      c.loop-low.invariant.2,
      λ v late small. not_echoed_from c.args.self.now.f (change_in c.args.self.now.changes c.args.view) c.args.view c.args.digest.now _ (sym c.if-is_echoed.ensures) v late,
    )

pub returns : goal.returns
returns c =
    let met = c.loop-low-test.false in
    let kept = c.loop-low.invariant.0 in
    let few = c.loop-low.invariant.1 in
    splits c.args.view c.loop-low.low (is_echoed c.args.self.now.f (change_in c.args.self.now.changes c.args.view) c.args.view c.args.digest.now) c.checked_sub.result (omega arith) c.loop-low.invariant.2 (λ v late small. c.loop-low.invariant.3 v (omega arith) small) c.checked_sub.ensures
