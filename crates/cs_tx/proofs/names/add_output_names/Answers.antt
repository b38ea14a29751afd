use Rattle.std.proofs.Common.{◌++◌}
use Rattle.cs_tx.specs.Digest.{outputs_at}
use Rattle.cs_tx.specs.Uses.{names}
use Rattle.cs_tx.proofs.Outputs.{output_more}
use Rattle.cs_tx.proofs.names.add_output_names.Goals as goal

pub loop-place-preserved : goal.loop-place-preserved
loop-place-preserved c =
    let whole = c.args.found.now ++ names (outputs_at c.args.digest.now c.args.trace 0 c.args.outputs.now) in
    rw (c.in_ok-push.ensures.ok, c.output_name.ensures) (output_more c.args.digest.now c.args.trace c.args.outputs.now c.loop-place.place c.loop-place.found whole c.loop-place-test.true c.loop-place.invariant)
