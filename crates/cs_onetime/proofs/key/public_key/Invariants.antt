use Rattle.sha2.specs.Hashers.{Holds256}
use Rattle.cs_onetime.specs.Lists.{joined}
use Rattle.cs_onetime.specs.Halves.{both_images}
use Rattle.cs_onetime.proofs.key.public_key.Given as goal

abbrev pub invariant-loop-place : goal.invariant-loop-place
invariant-loop-place l = Holds256 l.hasher (joined (both_images l.seed l.number) l.place)
