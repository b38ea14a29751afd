use Rattle.cs_tx.specs.Digest.{outputs_at, keys}
use Rattle.cs_tx.proofs.Outputs.{keys_more}
use Rattle.cs_tx.proofs.digests.trace_keys.Goals as goal

pub loop-place-preserved : goal.loop-place-preserved
loop-place-preserved c =
    rw (c.in_ok-push.ensures.ok, c.output_name.ensures) (keys_more c.args.digest.now c.args.trace c.args.outputs.now c.loop-place.place c.loop-place.found (keys (outputs_at c.args.digest.now c.args.trace 0 c.args.outputs.now)) c.loop-place-test.true c.loop-place.invariant)
