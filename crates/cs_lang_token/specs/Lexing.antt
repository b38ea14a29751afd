-- What holds of the place of a refusal.
use Rattle.std.specs.Prelude.{ℕ}
use Rattle.cs_lang_token.specs.declared.tokens.LexError.{LexError}
use Rattle.cs_lang_token.specs.declared.tokens.LexError.TheVariants as error

abbrev pub IfBad : LexError → (ℕ → Type 0) → Type 0
IfBad error.Memory P = Unit {0}
IfBad (error.Bad place) P = P place
