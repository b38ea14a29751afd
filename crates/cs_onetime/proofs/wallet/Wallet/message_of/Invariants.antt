use Rattle.std.proofs.Common.{◌≡◌, drop}
use Rattle.cs_onetime.specs.Wallet.{message_of}
use Rattle.cs_onetime.proofs.wallet.Wallet.message_of.Given as goal

abbrev pub invariant-loop-signed : goal.invariant-loop-signed
invariant-loop-signed l = message_of l.number (drop l.signed-index l.self.used) ≡ message_of l.number l.self.used
