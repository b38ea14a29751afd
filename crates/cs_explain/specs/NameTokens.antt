-- Where tokens declare names.
use Rattle.std.specs.Prelude.{ℕ, zero, suc, ◌-◌, nat_lt, Bool, true, false, not, ◌&&◌, ◌||◌, List, [], ◌∷◌, drop, slice_get, Option, None, Some, if◌then◌else◌}
use Rattle.std.specs.Str.{bytes_eq}
use Rattle.cs_lang_token.specs.declared.token.Token.{Token}
use Rattle.cs_lang_token.specs.declared.kind.Kind.{Kind}
use Rattle.cs_lang_token.specs.declared.kind.Kind.TheVariants as kind
use Rattle.cs_lang_token.specs.Kinds.{is}

-- ---- tokens by their number

abbrev pub is_among : List Kind → Option Token → Bool
is_among kinds None = false
is_among kinds (Some token) = is kinds token

-- one of these kinds stands there
abbrev pub is_at : List Kind → List Token → ℕ → Bool
is_at kinds tokens index = is_among kinds (slice_get tokens index)

-- or right before
abbrev pub is_behind : List Kind → List Token → ℕ → Bool
is_behind kinds tokens index = nat_lt 0 index && is_at kinds tokens (index - 1)

-- or so many tokens further
abbrev pub is_ahead : List Kind → List Token → ℕ → ℕ → Bool
is_ahead kinds tokens index steps = is_at kinds (drop index tokens) steps

abbrev pub bytes_of : Option Token → List ℕ
bytes_of None = []
bytes_of (Some token) = token.bytes

abbrev pub name_at : List Token → ℕ → List ℕ
name_at tokens index = bytes_of (slice_get tokens index)

-- ---- names that are declared

-- by `type`, `method`, `let` or `for`, as a field or a slot, or by a `call`
abbrev pub is_declared_at : List Token → ℕ → Bool
is_declared_at tokens index =
    is_at (kind.Name ∷ []) tokens index
    && (is_behind (kind.Type ∷ kind.Method ∷ kind.Let ∷ kind.For ∷ []) tokens index
    || is_ahead (kind.Colon ∷ []) tokens index 1
    || is_behind (kind.Call ∷ []) tokens index && is_ahead (kind.Comma ∷ kind.Becomes ∷ []) tokens index 1
    || is_behind (kind.Comma ∷ []) tokens index && is_ahead (kind.Becomes ∷ []) tokens index 1)

abbrev pub same_truth : Bool → Bool → Bool
same_truth a b = if a then b else not b

-- both declare a type, or both a method, or both another name
abbrev pub is_of_one_sort : List Token → ℕ → ℕ → Bool
is_of_one_sort tokens a b =
    same_truth (is_behind (kind.Type ∷ []) tokens a) (is_behind (kind.Type ∷ []) tokens b)
    && same_truth (is_behind (kind.Method ∷ []) tokens a) (is_behind (kind.Method ∷ []) tokens b)

-- the name that the one declares is declared by the other
unfoldable pub declares_same : List Token → ℕ → ℕ → Bool
declares_same tokens index other =
    is_declared_at tokens other && bytes_eq (name_at tokens other) (name_at tokens index)
    && is_of_one_sort tokens index other

-- names of a type or a method are its own
unfoldable pub begins_others : List Token → ℕ → ℕ → Bool
begins_others tokens index other =
    not (is_behind (kind.Type ∷ kind.Method ∷ []) tokens index) && is_at (kind.Type ∷ kind.Method ∷ []) tokens other

-- the last of the first so many tokens that declares the name
abbrev pub last_declared : List Token → ℕ → ℕ → Option ℕ
last_declared tokens index zero = None
last_declared tokens index (suc left) =
    if declares_same tokens index left then Some left
    else if begins_others tokens index left then None
    else last_declared tokens index left

-- ---- in a check or not

-- what a token more says of whether the next stands in a check
abbrev pub check_behind : Bool → Token → Bool
check_behind inside token =
    if is (kind.Check ∷ []) token then true
    else if is (kind.Procedure ∷ kind.Method ∷ []) token then false
    else inside

abbrev pub check_behind_all : Bool → List Token → Bool
check_behind_all inside [] = inside
check_behind_all inside (token ∷ tokens) = check_behind_all (check_behind inside token) tokens
