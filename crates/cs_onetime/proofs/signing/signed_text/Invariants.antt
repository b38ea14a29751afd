use Rattle.std.proofs.Common.{◌≡◌}
use Rattle.cs_onetime.specs.Lists.{joined}
use Rattle.cs_onetime.specs.Signature.{half_of_text}
use Rattle.cs_onetime.proofs.signing.signed_text.Given as goal

abbrev pub invariant-loop-column : goal.invariant-loop-column
invariant-loop-column l = l.bytes.items ≡ joined (half_of_text l.seed l.number l.message l.text) l.column
