-- Which lists of tokens are texts of a grammar, and which begin one.
use Rattle.std.specs.Prelude.{◌≡◌, ℕ, Bool, List, [], ◌∷◌, ◌++◌, Result, Ok, Err}
use Rattle.cs_lang_token.specs.declared.token.Token.{Token}
use Rattle.cs_lang_token.specs.Grammar.{TokenMark, without_marks, Within, Rule, Reader, ◌>>=◌}

-- Spells says what a grammar spells, for each depth of nesting.

-- The tokens spell the thing, all within the limits.
pub record IsText {X : Type 0} (Spells : ℕ → Rule X) (x : X) (ts : List Token) : Type 0 where
  pub depth : ℕ
  pub marks : List TokenMark
  pub spells : Spells depth x marks
  pub tokens : without_marks marks ≡ ts
  pub within : Within marks

-- With something behind them the tokens spell something, and they are within the limits.
pub record CanBegin {X : Type 0} (Spells : ℕ → Rule X) (ts : List Token) : Type 0 where
  pub depth : ℕ
  pub thing : X
  pub marks : List TokenMark
  pub more : List TokenMark
  pub spells : Spells depth thing (marks ++ more)
  pub tokens : without_marks marks ≡ ts
  pub within : Within marks

-- The tokens are no text, and bad begins with the first token with which none can go on;
-- it is empty where one could go on.
pub record IsNoText {X : Type 0} (Spells : ℕ → Rule X) (ts bad : List Token) : Type 0 where
  pub before : List Token
  pub parts : ts ≡ before ++ bad
  pub can : CanBegin Spells before
  pub cannot : (t : Token) (us : List Token) → bad ≡ t ∷ us → CanBegin Spells (before ++ t ∷ []) → ⊥
  pub none : (x : X) → IsText Spells x ts → ⊥

-- all of the tokens
abbrev pub all_or_bad : {X : Type 0} → X × List Token → Result X (List Token)
all_or_bad (x, []) = Ok x
all_or_bad (x, t ∷ ts) = Err (t ∷ ts)

abbrev pub all_at : {X : Type 0} → Reader X → List Token → Result X (List Token)
all_at r ts = r ts >>= all_or_bad
