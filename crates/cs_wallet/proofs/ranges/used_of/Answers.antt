use Rattle.cs_wallet.proofs.Fits.{used_fits}
use Rattle.cs_wallet.proofs.ranges.used_of.Goals as goal

pub returns-clause-fits : goal.returns-clause-fits
returns-clause-fits c = used_fits c.args.entries.now c.numbered.result c.requires c.if-entries-gt-MOST_USED.false c.numbered.ensures.given c.numbered.ensures.fits
