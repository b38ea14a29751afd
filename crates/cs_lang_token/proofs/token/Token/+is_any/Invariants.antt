use Rattle.std.proofs.Common.{length, ℕ}
use Rattle.cs_lang_token.proofs.token.Token.+is_any.Given as goal

abbrev pub decreases-is_any : goal.decreases-is_any
decreases-is_any l = length l.kinds.now
