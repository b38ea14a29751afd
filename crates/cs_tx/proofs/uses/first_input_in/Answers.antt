use Rattle.std.proofs.Common.{◌≡◌, Some, None, sym, ◌∙◌}
use Rattle.std.specs.List.{find, flat_map}
use Rattle.cs_tx.specs.Uses.{is_in, names}
use Rattle.cs_tx.proofs.Anchors.{found_here, found_later}
use Rattle.cs_tx.proofs.uses.first_input_in.Goals as goal

pub returns-in-Some : goal.returns-in-Some
returns-in-Some c =
    let p = is_in c.args.config.now c.args.shard in
    let found : find p (names c.trace-item.result.inputs) ≡ Some c.in-Some.name = rw (← c.as_slice.ensures) (sym c.first_in.ensures ∙ c.in-Some.is) in
    found_here p c.args.traces.now c.loop-trace.trace-index c.trace-item.result c.loop-trace-test.true c.trace-item.is c.in-Some.name (find p (names (flat_map (λ trace. trace.inputs) c.args.traces.now))) found c.loop-trace.invariant

pub loop-trace-preserved : goal.loop-trace-preserved
loop-trace-preserved c =
    let p = is_in c.args.config.now c.args.shard in
    let none : find p (names c.trace-item.result.inputs) ≡ None = rw (← c.as_slice.ensures) (sym c.first_in.ensures ∙ c.in_default.is) in
    found_later p c.args.traces.now c.loop-trace.trace-index c.trace-item.result c.loop-trace-test.true c.trace-item.is (find p (names (flat_map (λ trace. trace.inputs) c.args.traces.now))) none c.loop-trace.invariant
