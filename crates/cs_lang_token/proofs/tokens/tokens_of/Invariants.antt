use Rattle.std.proofs.Common.{◌≡◌, ◌++◌, ◌+◌, ◌≤◌, ℕ, length}
use Rattle.std.specs.Prelude.{Ok}
use Rattle.cs_lang_token.specs.Grammar.{◌>>=◌}
use Rattle.cs_lang_token.specs.Tokens.{tokens_from}
use Rattle.cs_lang_token.proofs.tokens.tokens_of.Given as goal

-- what was read, and what is left to read, make all
abbrev pub invariant-loop-rest : goal.invariant-loop-rest
invariant-loop-rest l = (l.place + length l.rest ≡ length l.text)
    × ((n : ℕ) × (length l.rest ≤ n) × (tokens_from (length l.text) 0 l.text ≡ (tokens_from n l.place l.rest >>= λ ts. Ok (l.tokens.items ++ ts))))

abbrev pub decreases-loop-rest : goal.decreases-loop-rest
decreases-loop-rest l = length l.rest
