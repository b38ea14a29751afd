use Rattle.std.proofs.Common.{sym}
use Rattle.cs_config.proofs.Addresses.{address_of-written, address_of-none}
use Rattle.cs_config.proofs.host.address_of.Goals as goal

pub returns-in-Ok : goal.returns-in-Ok
returns-in-Ok c = sym (address_of-written c.args.text.now c.in-Ok.address c.in-Ok.ensures.value)

pub returns-in-Err : goal.returns-in-Err
returns-in-Err c = sym (address_of-none c.args.text.now c.in-Err.ensures.value)
