use Rattle.std.proofs.Common.{◌+◌, List, [], ◌∷◌, length, length-append, drop, map, sym, ap, ◌∙◌, arith}
use Rattle.toml.specs.View.{view}
use Rattle.cs_tx_types.specs.declared.trace.Trace.{Trace}
use Rattle.cs_transact.specs.Reading.{traces_from}
use Rattle.cs_transact.proofs.TraceLists.{found_ahead, traces_more}
use Rattle.cs_transact.proofs.traces.read_traces.Goals as goal

pub loop-number-preserved : goal.loop-number-preserved
loop-number-preserved c =
    let items = c.args.items.now in
    let i = c.loop-number.number in
    let found = c.loop-number.traces in
    let trace = c.in_ok-trace.trace in
    record {
      read = c.loop-number.invariant.read
          ∙ (traces_more items i c.index-items-number.result found trace c.loop-number-test.true c.index-items-number.is c.in_ok-trace.ensures
          ∙ ap (λ (ts : List Trace). found_ahead ts (traces_from (i + 1) (map view (drop (i + 1) items)))) (sym c.in_ok-push.ensures.ok));
      count = omega (arith, ap length c.in_ok-push.ensures.ok, length-append found (trace ∷ []), c.loop-number.invariant.count);
    }
