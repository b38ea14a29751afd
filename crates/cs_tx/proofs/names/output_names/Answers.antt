use Rattle.std.specs.List.{flat_map}
use Rattle.cs_tx.specs.Digest.{outputs_from}
use Rattle.cs_tx.specs.Uses.{names}
use Rattle.cs_tx.proofs.Outputs.{traces_more}
use Rattle.cs_tx.proofs.names.output_names.Goals as goal

pub loop-number-preserved : goal.loop-number-preserved
loop-number-preserved c =
    let whole = names (flat_map (λ outputs. outputs) (outputs_from c.args.digest.now 0 c.args.traces.now)) in
    rw (c.in_ok-add_output_names.ensures, c.as_slice.ensures) (traces_more c.args.digest.now c.args.traces.now c.loop-number.number c.index-traces-number.result c.loop-number.found whole c.loop-number-test.true c.loop-number.invariant)
