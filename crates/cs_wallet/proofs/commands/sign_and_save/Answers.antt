use Rattle.std.proofs.Common.{rules}
use Rattle.cs_config.specs.Printed.{IsDigest}
use Rattle.cs_wallet.proofs.Fits.{signed-fits}
use Rattle.cs_wallet.proofs.commands.sign_and_save.Goals as goal

pub save_first-requires : goal.save_first-requires
save_first-requires g c =
    let digest : IsDigest c.args.message.now = search rules in
    signed-fits c.args.number c.args.message.now c.requires.small digest c.args.wallet c.sign.new.self c.in-Ok.ensures.used c.requires.fits
