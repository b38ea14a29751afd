-- Why a token breaks a rule on kinds, by the tokens around it.
use Rattle.std.specs.Prelude.{ℕ, ◌-◌, Bool, false, not, ◌&&◌, ◌||◌, List, [], ◌∷◌, take, Option, None, Some, if◌then◌else◌}
use Rattle.cs_lang_token.specs.declared.token.Token.{Token}
use Rattle.cs_lang_token.specs.declared.kind.Kind.TheVariants as kind
use Rattle.cs_explain.specs.declared.reasons.Reason.{Reason}
use Rattle.cs_explain.specs.declared.reasons.Reason.TheVariants as reason
use Rattle.cs_explain.specs.NameTokens.{is_at, is_behind, is_ahead, is_declared_at, last_declared, check_behind_all}

-- a name is declared above, or a limit is passed; a slot with a star has to be the last
abbrev pub declared_reason : List Token → ℕ → Option ℕ → Reason
declared_reason tokens index (Some other) = reason.Declared other
declared_reason tokens index None = if is_ahead (kind.Star ∷ []) tokens index 3 then reason.Star else reason.Limit

-- what doesn't go with a slot's star, or with its having none
abbrev pub used_reason : List Token → ℕ → ℕ → Reason
used_reason tokens index slot =
    if is_ahead (kind.Star ∷ []) tokens slot 3 then
    (if is_ahead (kind.OpenList ∷ []) tokens index 1 then reason.Kind else reason.Starred)
    else if is_ahead (kind.OpenList ∷ []) tokens index 1 then reason.Unstarred
    else if is_ahead (kind.Dot ∷ []) tokens index 1 then reason.Kind
    else reason.Object

-- a slot has a type of objects behind a colon
abbrev pub is_slot : List Token → ℕ → Bool
is_slot tokens other = is_ahead (kind.Colon ∷ []) tokens other 1 && is_ahead (kind.Name ∷ []) tokens other 2

-- why a name can't stand for a value, by its last declaration
abbrev pub name_reason : List Token → ℕ → Option ℕ → Reason
name_reason tokens index None = reason.Kind
name_reason tokens index (Some other) =
    if is_at (kind.Name ∷ []) tokens index && is_slot tokens other then used_reason tokens index other else reason.Kind

-- a word that has no place there, or too many things behind it
abbrev pub word_reason : List Token → ℕ → Bool → Reason
word_reason tokens index inside =
    if inside && is_at (kind.Make ∷ kind.Call ∷ []) tokens index then reason.InProcedures
    else if not inside && is_at (kind.Answer ∷ kind.Called ∷ kind.DepInt ∷ []) tokens index then reason.InChecks
    else if is_at (kind.Make ∷ []) tokens index then reason.Fields
    else if is_at (kind.Call ∷ []) tokens index || is_behind (kind.Call ∷ []) tokens index then reason.Values
    else if is_at (kind.For ∷ []) tokens index then reason.Turns
    else if is_behind (kind.Set ∷ []) tokens index then reason.Unset
    else if is_behind (kind.Make ∷ []) tokens index then reason.Uncreated
    else if is_behind (kind.Becomes ∷ []) tokens index && is_at (kind.Make ∷ []) tokens (index - 3) then reason.OtherType
    else name_reason tokens index (last_declared tokens index index)

-- why the token of this number breaks a rule on kinds
abbrev pub reason_of : List Token → ℕ → Reason
reason_of tokens index =
    if is_declared_at tokens index then declared_reason tokens index (last_declared tokens index index)
    else word_reason tokens index (check_behind_all false (take index tokens))
