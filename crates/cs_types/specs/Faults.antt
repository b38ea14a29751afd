-- Why a text is refused as a contract, and what is told of it.
use Rattle.std.specs.Prelude.{◌≡◌, ℕ, ◌<◌, List, [], ◌∷◌, ◌++◌, length, codes, Err}
use Rattle.std.specs.Fmt.{decimal}
use Rattle.cs_lang_token.specs.declared.limits.TheConstants.{MOST_TEXT}
use Rattle.cs_lang_token.specs.Tokens.{tokens_of}
use Rattle.cs_lang.specs.declared.tree.ContractTree.{ContractTree}
use Rattle.cs_lang.specs.Texts.{IsShortText, IsContract, IsSyntax}
use Rattle.cs_types_kinds.specs.declared.fault.TypeError.{TypeError}
use Rattle.cs_types_kinds.specs.declared.fault.TypeError.TheVariants as error
use Rattle.cs_types.specs.Accepted.{accepted_costs}
use Rattle.cs_types.specs.declared.position.Position.{Position}
use Rattle.cs_types.specs.declared.fault.Fault.{Fault}
use Rattle.cs_types.specs.declared.fault.Fault.TheVariants.{TooLong, Lex, Syntax, Mistyped, Unbound, Cost}
use Rattle.cs_types.specs.Positions.{position_at}

-- the text is a contract that isn't accepted for this reason
pub record IsUnacceptedContract (text : List ℕ) (reason : TypeError) : Type 0 where
  pub contract : ContractTree
  pub spelled : IsContract text contract
  pub told : accepted_costs contract ≡ Err reason

-- the text has this fault
abbrev pub IsFault : List ℕ → Fault → Type 0
IsFault text TooLong = MOST_TEXT < length text
IsFault text (Lex place) = IsShortText text × (tokens_of text ≡ Err place)
IsFault text (Syntax place) = IsSyntax text place
IsFault text (Mistyped place) = IsUnacceptedContract text (error.Mistyped place)
IsFault text (Unbound place) = IsUnacceptedContract text (error.Unbound place)
IsFault text (Cost cost) = IsUnacceptedContract text (error.Cost cost)

abbrev pub fault_status : Fault → ℕ
fault_status TooLong = 13
fault_status fault = 3

abbrev pub place_text : Position → List ℕ → List ℕ
place_text position cause =
    codes "refused " ++ decimal position.line ++ codes " " ++ decimal position.column ++ codes " " ++ cause ++ 10 ∷ []

abbrev pub cost_text : ℕ → List ℕ
cost_text cost = codes "refused cost " ++ decimal cost ++ 10 ∷ []

abbrev pub limit_fault_text : Position → List ℕ
limit_fault_text position = codes "limit " ++ decimal position.line ++ 10 ∷ []

-- the line that tells of a fault of this text
abbrev pub fault_text : List ℕ → Fault → List ℕ
fault_text text TooLong = limit_fault_text (position_at text MOST_TEXT)
fault_text text (Lex place) = place_text (position_at text place) (codes "lex")
fault_text text (Syntax place) = place_text (position_at text place) (codes "syntax")
fault_text text (Mistyped place) = place_text (position_at text place) (codes "mistyped")
fault_text text (Unbound place) = place_text (position_at text place) (codes "unbound")
fault_text text (Cost cost) = cost_text cost
