use Rattle.std.proofs.Common.{◌≡◌}
use Rattle.cs_onetime.specs.Lists.{listed}
use Rattle.cs_onetime.specs.Signature.{signed_text, texts_in}
use Rattle.cs_onetime.proofs.signing.signature.Given as goal

abbrev pub invariant-loop-text : goal.invariant-loop-text
invariant-loop-text l = texts_in l.texts.items ≡ listed (signed_text l.seed l.number l.message) l.text
