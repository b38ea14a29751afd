-- Lists before `==` or `!=`, which compare no lists.
use Rattle.std.specs.Prelude.{ℕ, ◌-◌, Bool, not, ◌&&◌, List, [], ◌∷◌, ◌++◌, take, drop, codes, Option, None, Some, if◌then◌else◌}
use Rattle.cs_lang_token.specs.declared.token.Token.{Token}
use Rattle.cs_lang_token.specs.declared.kind.Kind.TheVariants as kind
use Rattle.cs_lang_token.specs.Kinds.{is}
use Rattle.cs_explain.specs.declared.comparing.TheConstants.{LISTS}
use Rattle.cs_explain.specs.declared.comparing.Compared.{Compared}
use Rattle.cs_explain.specs.declared.standing.Literal.{Literal}
use Rattle.cs_explain.specs.declared.standing.Literal.TheVariants as literal
use Rattle.cs_explain.specs.Words.{label}
use Rattle.cs_explain.specs.Standing.{literal_text, literal_label, passes, with_literal}

-- the first of them
abbrev pub comparison : List Token → Option Token
comparison [] = None
comparison (token ∷ tokens) =
    if is (kind.Equal ∷ kind.NotEqual ∷ []) token then Some token else comparison tokens

-- a list of a value and of a literal
abbrev pub list_text : List ℕ → Literal → List ℕ
list_text value one = codes "[" ++ (value ++ (codes ", " ++ (literal_text one ++ codes "] ")))

-- such a list of what stands between two places, in its place
abbrev pub with_list : List ℕ → ℕ → ℕ → Literal → List ℕ
with_list text place end one =
    take place text ++ (list_text (drop place (take end text)) one ++ drop end text)

-- what stands there is of the literal's kind: the first rule that is broken is broken by the list of both
abbrev pub is_listed : List ℕ → ℕ → ℕ → Literal → Bool
is_listed text place end one =
    not (passes (with_list text place end one) place) && passes (with_list text place end one) (place - 1)

abbrev pub listed_among : List ℕ → ℕ → ℕ → List Literal → Option Literal
listed_among text place end [] = None
listed_among text place end (one ∷ more) =
    if is_listed text place end one then Some one else listed_among text place end more

-- the kind of the list that ends there, where a truth could be compared
abbrev pub list_before : List ℕ → ℕ → ℕ → Option Literal
list_before text place end =
    if passes (with_literal text place end literal.Bool) place then listed_among text place end LISTS else None

abbrev pub compared_by : Token → Option Literal → Option Compared
compared_by token None = None
compared_by token (Some list) = Some (record { operator = token.kind; list = list })

-- the list from the place to this token
abbrev pub compared_in : List ℕ → ℕ → Option Token → Option Compared
compared_in text place None = None
compared_in text place (Some token) = compared_by token (list_before text place token.place)

abbrev pub compared_text : Compared → List ℕ
compared_text compared = label compared.operator ++ (codes " of " ++ literal_label compared.list)
