use Rattle.cs_config.proofs.Addresses.{address_of-written, written-address_of}
use Rattle.cs_config.proofs.host.addresses_are_read.Goals as goal

pub returns : goal.returns
returns c = λ text address. (written-address_of text address, address_of-written text address)
