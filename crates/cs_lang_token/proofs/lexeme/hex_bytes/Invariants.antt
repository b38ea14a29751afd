use Rattle.std.proofs.Common.{◌≡◌, ◌++◌, length}
use Rattle.cs_lang_token.specs.Tokens.{hex_bytes}
use Rattle.cs_lang_token.proofs.lexeme.hex_bytes.Given as goal

abbrev pub invariant-loop-left : goal.invariant-loop-left
invariant-loop-left l = hex_bytes l.digits ≡ l.all ++ hex_bytes l.left

abbrev pub decreases-loop-left : goal.decreases-loop-left
decreases-loop-left l = length l.left
