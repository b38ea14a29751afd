use Rattle.std.proofs.Common.{List, take, subst}
use Rattle.std.specs.List.{flat_map}
use Rattle.cs_tx_types.specs.Transaction.{Keyed}
use Rattle.cs_tx.specs.Uses.{names}
use Rattle.cs_audit.specs.Ledgers.{ShowsLedger, without}
use Rattle.cs_audit.proofs.Shown.{trace-gone}
use Rattle.cs_audit.proofs.ledger.Ledger.use_inputs_up.Goals as goal

pub loop-trace-preserved : goal.loop-trace-preserved
loop-trace-preserved c ledger shows =
    let before = without (names (flat_map (λ trace. trace.inputs) (take c.loop-trace.trace-index c.args.traces.now))) ledger in
    trace-gone ledger c.use_up.new.self c.args.traces.now c.loop-trace.trace-index c.trace-item.result c.loop-trace-test.true c.trace-item.is
    (subst (λ (xs : List Keyed). ShowsLedger c.use_up.new.self (without (names xs) before)) c.as_slice.ensures (c.use_up.ensures before (c.loop-trace.invariant ledger shows)))
