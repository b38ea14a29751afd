use Rattle.std.proofs.Common.{◌++◌, ◌∙◌, ap, sym}
use Rattle.cs_tx_types.specs.declared.trace.Trace.{Trace}
use Rattle.cs_tx.specs.Digest.{outputs_at}
use Rattle.cs_table.specs.Pieces.{pieces_in}
use Rattle.cs_table.proofs.Adding.{outputs_more}
use Rattle.cs_table.proofs.pieces.add_outputs.Goals as goal

pub loop-number-preserved : goal.loop-number-preserved
loop-number-preserved c =
    let added = c.in_ok-add_outputs_at.ensures ∙ ap (λ outputs. c.loop-number.pieces.items ++ pieces_in c.args.config.now.shards c.args.shard (outputs_at c.args.digest.now c.loop-number.number 0 outputs)) (c.as_slice-outputs.ensures ∙ ap (λ (t : Trace). t.outputs) (sym c.index-traces-number.is)) in
    outputs_more c.args.config.now.shards c.args.shard c.args.digest.now c.args.traces.now c.loop-number.number c.index-traces-number.result c.loop-number.pieces.items c.add_outputs_at.new.pieces.items _ c.loop-number-test.true c.index-traces-number.is c.loop-number.invariant added
