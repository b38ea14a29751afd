use Rattle.sha2.specs.Hashers.{Holds256}
use Rattle.cs_onetime.specs.Lists.{joined}
use Rattle.cs_onetime.specs.Signature.{shown_images}
use Rattle.cs_onetime.proofs.verifying.shown_key.Given as goal

abbrev pub invariant-loop-place : goal.invariant-loop-place
invariant-loop-place g l = Holds256 l.hasher (joined (shown_images l.message (g.T.Texts.texts l.texts)) l.place)
