use Rattle.std.proofs.Common.{◌≤◌, length, arith}
use Rattle.cs_native.proofs.messages.take_back.Goals as goal

pub take_objects-requires : goal.take_objects-requires
take_objects-requires c = rw c.outputs.ensures.lent c.fits.ensures.outputs

pub take_counted-requires : goal.take_counted-requires
take_counted-requires c = rw c.returns.ensures c.fits.ensures.returns

pub take_deps-requires : goal.take_deps-requires
take_deps-requires c =
    let few : length c.args.view.now.deps ≤ 15 = c.fits.ensures.deps.0 in
    rw c.deps.ensures (omega (arith, few))
