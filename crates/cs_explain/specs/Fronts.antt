-- Which texts are the front of a contract text.
use Rattle.std.specs.Prelude.{◌≡◌, ℕ, nat_le, Bool, true, false, List, [], ◌∷◌, length, Result, Ok, Err, if◌then◌else◌}
use Rattle.cs_lang_token.specs.declared.limits.TheConstants.{MOST_TEXT}
use Rattle.cs_lang_token.specs.declared.token.Token.{Token}
use Rattle.cs_lang_token.specs.Tokens.{tokens_of}
use Rattle.cs_lang_token.specs.Texts.{CanBegin, all_at}
use Rattle.cs_lang.specs.declared.tree.ContractTree.{ContractTree}
use Rattle.cs_lang.specs.Texts.{IsShortText}
use Rattle.cs_lang.specs.Rules.{contract}
use Rattle.cs_lang.specs.Readers.{contract_level}

-- with something behind them the tokens spell a contract, and none of them is past the limits of the grammar
pub record IsFront (text : List ℕ) : Type 0 where
  pub short : IsShortText text
  pub tokens : List Token
  pub read : tokens_of text ≡ Ok tokens
  pub begins : CanBegin contract tokens

-- reading from the left came to the end, or stopped there for want of more
abbrev pub came_to_end : Result ContractTree (List Token) → Bool
came_to_end (Ok c) = true
came_to_end (Err []) = true
came_to_end (Err (t ∷ ts)) = false

abbrev pub tokens_go_on : Result (List Token) ℕ → Bool
tokens_go_on (Ok tokens) = came_to_end (all_at contract_level tokens)
tokens_go_on (Err place) = false

-- whether the text is the front of a contract text (`IsFront`)
unfoldable pub goes_on : List ℕ → Bool
goes_on text = if nat_le (length text) MOST_TEXT then tokens_go_on (tokens_of text) else false
