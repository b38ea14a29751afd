use Rattle.std.proofs.Common.{◌++◌, ◌∙◌, ap}
use Rattle.cs_tx_types.specs.declared.trace.Trace.{Trace}
use Rattle.cs_table.specs.Pieces.{pieces_in}
use Rattle.cs_table.proofs.Adding.{trace_more}
use Rattle.cs_table.proofs.pieces.add_inputs.Goals as goal

pub loop-trace-preserved : goal.loop-trace-preserved
loop-trace-preserved c =
    let added = c.in_ok-add_pieces.ensures ∙ ap (λ items. c.loop-trace.pieces.items ++ pieces_in c.args.config.now.shards c.args.shard items) c.as_slice.ensures in
    trace_more c.args.config.now.shards c.args.shard (λ (trace : Trace). trace.inputs) c.args.traces.now c.loop-trace.trace-index c.trace-item.result c.loop-trace.pieces.items c.add_pieces.new.pieces.items _ c.loop-trace-test.true c.trace-item.is c.loop-trace.invariant added
