-- The kinds of values that can stand at a place: those of which a literal, in place of what stands there, breaks no rule.
use Rattle.std.specs.Prelude.{ℕ, ◌+◌, min, length, nat_lt, Bool, true, false, List, [], ◌∷◌, ◌++◌, take, drop, codes, Option, None, Some, Ok, Err, if◌then◌else◌}
use Rattle.cs_lang_token.specs.declared.token.Token.{Token}
use Rattle.cs_lang.specs.declared.tree.ContractTree.{ContractTree}
use Rattle.cs_types_kinds.specs.declared.fault.TypeError.{TypeError}
use Rattle.cs_types_kinds.specs.declared.fault.TypeError.TheVariants as error
use Rattle.cs_types_kinds.specs.declared.scope.Costs.{Costs}
use Rattle.cs_types_kinds.specs.Told.{Told}
use Rattle.cs_types.specs.declared.fault.Fault.{Fault}
use Rattle.cs_types.specs.declared.fault.Fault.TheVariants as fault
use Rattle.cs_types.specs.Accepted.{accepted_costs}
use Rattle.cs_types.specs.Accepting.{contract_of}
use Rattle.cs_explain.specs.declared.standing.TheConstants.{LITERALS}
use Rattle.cs_explain.specs.declared.standing.Literal.{Literal}
use Rattle.cs_explain.specs.declared.standing.Literal.TheVariants as literal

-- a literal of each kind that is told
abbrev pub literal_text : Literal → List ℕ
literal_text literal.Int = codes "0"
literal_text literal.Bool = codes "true"
literal_text literal.Bytes = codes "x\"\""
literal_text literal.Ints = codes "empty [int]"
literal_text literal.Bools = codes "empty [bool]"
literal_text literal.ByteLists = codes "empty [bytes]"

abbrev pub literal_label : Literal → List ℕ
literal_label literal.Int = codes "int"
literal_label literal.Bool = codes "bool"
literal_label literal.Bytes = codes "bytes"
literal_label literal.Ints = codes "[int]"
literal_label literal.Bools = codes "[bool]"
literal_label literal.ByteLists = codes "[bytes]"

-- ---- whether a text breaks no rule up to a place

abbrev pub is_beyond : ℕ → TypeError → Bool
is_beyond place error.Memory = false
is_beyond place (error.Mistyped at) = nat_lt place at
is_beyond place (error.Unbound at) = nat_lt place at
is_beyond place (error.Cost cost) = true

abbrev pub passes_told : ℕ → Told (List Costs) → Bool
passes_told place (Ok costs) = true
passes_told place (Err error) = is_beyond place error

abbrev pub passes_contract : ℕ → Option ContractTree → Bool
passes_contract place None = false
passes_contract place (Some contract) = passes_told place (accepted_costs contract)

-- it is a contract that breaks no rule, or the first further behind
unfoldable pub passes : List ℕ → ℕ → Bool
passes text place = passes_contract place (contract_of text)

-- the same of a fault of a text
abbrev pub fault_behind : ℕ → Fault → Bool
fault_behind place (fault.Mistyped at) = nat_lt place at
fault_behind place (fault.Unbound at) = nat_lt place at
fault_behind place (fault.Cost cost) = true
fault_behind place other = false

-- ---- literals in place of what stands there

abbrev pub with_literal : List ℕ → ℕ → ℕ → Literal → List ℕ
with_literal text place end one = take place text ++ (literal_text one ++ 32 ∷ drop end text)

-- those of the literals that can stand in place of what ends there
unfoldable pub standing_among : List ℕ → ℕ → ℕ → List Literal → List Literal
standing_among text place end [] = []
standing_among text place end (one ∷ more) =
    if passes (with_literal text place end one) place then one ∷ standing_among text place end more
    else standing_among text place end more

abbrev pub or_further : List Literal → List Literal → List Literal
or_further [] further = further
or_further (one ∷ more) further = one ∷ more

-- what ends at the first of these tokens where one can
abbrev pub standing_before : List ℕ → ℕ → List Token → List Literal
standing_before text place [] = []
standing_before text place (token ∷ tokens) =
    or_further (standing_among text place token.place LITERALS) (standing_before text place tokens)

-- for so many tokens a literal is tried
abbrev pub tried_tokens : List Token → List Token
tried_tokens tokens = take (min (length tokens) 64) tokens

-- in place of what begins with the token of this number
abbrev pub standing_at : List ℕ → ℕ → List Token → ℕ → List Literal
standing_at text place tokens index = standing_before text place (tried_tokens (drop (index + 1) tokens))

-- the first three of them; nothing is told where none can
abbrev pub literals_text : List Literal → List ℕ
literals_text [] = []
literals_text (a ∷ []) = codes ", wanted " ++ literal_label a
literals_text (a ∷ b ∷ []) = codes ", wanted " ++ (literal_label a ++ (codes " " ++ literal_label b))
literals_text (a ∷ b ∷ c ∷ []) =
    codes ", wanted " ++ (literal_label a ++ (codes " " ++ (literal_label b ++ (codes " " ++ literal_label c))))
literals_text (a ∷ b ∷ c ∷ d ∷ more) =
    codes ", wanted " ++ (literal_label a ++ (codes " " ++ (literal_label b ++ (codes " " ++ (literal_label c
    ++ codes " ..")))))
