use Rattle.cs_tx_types.specs.Record.{PlaceFits}
use Rattle.cs_check.proofs.Every.{all_more}
use Rattle.cs_check.proofs.fitting.places_fit.Goals as goal

pub loop-place-preserved : goal.loop-place-preserved
loop-place-preserved c =
    all_more PlaceFits c.args.book.now c.loop-place.place-index _ c.loop-place-test.true
    c.loop-place.invariant c.place_fits.ensures
