use Rattle.std.proofs.Common.{◌+◌, drop, refl}
use Rattle.cs_trial.specs.Trials.{none_counted}
use Rattle.cs_trial.proofs.Turns.{drop-next, goes-next}
use Rattle.cs_trial.proofs.trial.try_cases.Goals as goal

pub loop-i-preserved : goal.loop-i-preserved
loop-i-preserved c =
    goes-next c.args.checked.now c.args.id.now c.args.text.now c.args.cases.now (c.args.out.now.items, none_counted) (c.loop-i.i + 1) (c.loop-i.i + 1 + 1) c.index-cases-i.result
    (drop c.loop-i.i c.args.cases.now) (drop (c.loop-i.i + 1) c.args.cases.now) (c.loop-i.out.items, c.loop-i.counts) (c.try_case.new.out.items, c.in_ok-counts.counts)
    c.requires (drop-next c.loop-i.i c.args.cases.now c.index-cases-i.result c.loop-i-test.true c.index-cases-i.is) refl c.in_ok-counts.ensures c.loop-i.invariant
