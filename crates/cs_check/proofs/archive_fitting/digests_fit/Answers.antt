use Rattle.cs_tx_value.specs.Object.{DigestFits}
use Rattle.cs_check.proofs.Every.{all_more}
use Rattle.cs_check.proofs.archive_fitting.digests_fit.Goals as goal

pub loop-digest-preserved : goal.loop-digest-preserved
loop-digest-preserved c =
    all_more DigestFits c.args.digests.now c.loop-digest.digest-index _ c.loop-digest-test.true
    c.loop-digest.invariant c.digest_fits.ensures
