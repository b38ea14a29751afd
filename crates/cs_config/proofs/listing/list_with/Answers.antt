use Rattle.cs_config.proofs.Listed.{listed_next}
use Rattle.cs_config.proofs.listing.list_with.Goals as goal

pub loop-name-preserved : goal.loop-name-preserved
loop-name-preserved c = record {
  is = listed_next c.args.master.now c.args.me c.args.names.now c.loop-name.name-index _ c.loop-name.list c.add_listed.new.list c.loop-name-test.true c.loop-name.invariant.is c.in_ok-add_listed.ensures.is;
  fits = c.in_ok-add_listed.ensures.fits c.loop-name.invariant.fits;
}
