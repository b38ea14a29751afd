-- Which texts are contracts, and why one is none.
use Rattle.std.specs.Prelude.{◌≡◌, ℕ, ◌<◌, ◌≤◌, List, length, Result, Ok, Err}
use Rattle.cs_lang_token.specs.declared.limits.TheConstants.{MOST_TEXT}
use Rattle.cs_lang_token.specs.declared.token.Token.{Token}
use Rattle.cs_lang_token.specs.Tokens.{tokens_of}
use Rattle.cs_lang_token.specs.Texts.{IsText, IsNoText}
use Rattle.cs_lang_token.specs.Answers.{place_of}
use Rattle.cs_lang.specs.declared.tree.ContractTree.{ContractTree}
use Rattle.cs_lang.specs.declared.text.LangError.{LangError}
use Rattle.cs_lang.specs.declared.text.LangError.TheVariants as error
use Rattle.cs_lang.specs.Rules.{contract}

-- with its blanks and comments
abbrev pub IsShortText : List ℕ → Type 0
IsShortText text = length text ≤ MOST_TEXT

-- The text is short, and its tokens spell the contract within the limits of the grammar.
pub record IsContract (text : List ℕ) (c : ContractTree) : Type 0 where
  pub short : IsShortText text
  pub tokens : List Token
  pub read : tokens_of text ≡ Ok tokens
  pub spells : IsText contract c tokens

-- some text is this contract
pub record HasText (c : ContractTree) : Type 0 where
  pub text : List ℕ
  pub is : IsContract text c

-- The text is short and has tokens, and place is that of the first with which no contract text can go on,
-- or the text's length.
pub record IsSyntax (text : List ℕ) (place : ℕ) : Type 0 where
  pub short : IsShortText text
  pub tokens : List Token
  pub read : tokens_of text ≡ Ok tokens
  pub bad : List Token
  pub refused : IsNoText contract tokens bad
  pub at : place ≡ place_of (length text) bad

-- No contract goes on at this place, or behind the tokens where one could.
abbrev pub StopsAt : List Token → ℕ → ℕ → Type 0
StopsAt tokens end place = (bad : List Token) × IsNoText contract tokens bad × (place ≡ place_of end bad)

-- what holds of a refusal
abbrev pub IsRefusal : List ℕ → LangError → Type 0
IsRefusal text error.Memory = Unit {0}
IsRefusal text error.TooLong = MOST_TEXT < length text
IsRefusal text (error.Lex place) = IsShortText text × (tokens_of text ≡ Err place)
IsRefusal text (error.Syntax place) = IsSyntax text place

-- it is the answer, unless memory ran out
abbrev pub AnswersTree : Result ContractTree LangError → ContractTree → Type 0
AnswersTree (Ok x) c = x ≡ c
AnswersTree (Err why) c = why ≡ error.Memory

-- no other refusal than one of the grammar, or want of memory, and what holds of its place
abbrev pub IfSyntax : LangError → (ℕ → Type 0) → Type 0
IfSyntax error.Memory P = Unit {0}
IfSyntax error.TooLong P = ⊥
IfSyntax (error.Lex place) P = ⊥
IfSyntax (error.Syntax place) P = P place
