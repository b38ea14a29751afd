use Rattle.std.proofs.Common.{ℕ, length}
use Rattle.cs_lang_token.proofs.lexeme.+number_from.Given as goal

abbrev pub decreases-number_from : goal.decreases-number_from
decreases-number_from l = length l.digits.now
