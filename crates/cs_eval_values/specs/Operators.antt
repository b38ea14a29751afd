-- What operators make of what is held.
use Rattle.std.specs.Prelude.{ℕ, ◌+◌, ℤ, pos, negsuc, Bool, true, false, not, ◌==◌, nat_le, List, [], ◌∷◌, ◌++◌, length, slice_get, Option, None, Some, if◌then◌else◌, option_and_then}
use Rattle.std.specs.Str.{bytes_eq}
use Rattle.cs_base.specs.Options.{or_else}
use Rattle.cs_lang_token.specs.declared.limits.TheConstants.{MOST_BYTES, MOST_ITEMS}
use Rattle.sha2.specs.Sha256.{sha256}
use Rattle.cs_lang.specs.declared.tree.Operator.{Operator}
use Rattle.cs_lang.specs.declared.tree.Operator.TheVariants as operator
use Rattle.cs_lang.specs.declared.tree.Comparison.{Comparison}
use Rattle.cs_lang.specs.declared.tree.Comparison.TheVariants as comparison
use Rattle.cs_tx_value.specs.declared.value.Value.{Value, out-Value}
use Rattle.cs_tx_value.specs.declared.value.Value.TheOpen.{Value-F}
use Rattle.cs_tx_value.specs.declared.value.Value.TheVariants as value
use Rattle.cs_tx_value.specs.Encoding.{value_encoding}
use Rattle.cs_eval_values.specs.declared.limits.TheConstants.{MOST_VALUE}
use Rattle.cs_eval_values.specs.declared.stop.Cause.TheVariants as cause
use Rattle.cs_eval_values.specs.declared.operators.Unary.{Unary}
use Rattle.cs_eval_values.specs.declared.operators.Unary.TheVariants as unary_op
use Rattle.cs_eval_values.specs.declared.operators.Binary.{Binary}
use Rattle.cs_eval_values.specs.declared.operators.Binary.TheVariants as binary_op
use Rattle.cs_eval_values.specs.Runs.{Run, gives, traps, or_trap, ◌>>=◌}
use Rattle.cs_eval_values.specs.Ints.{ranged, computed, negated, compared_ints}
use Rattle.cs_eval_values.specs.Datums.{Datum, Plain, int_of, bool_of, bytes_of_datum, length_of, plain_of, items_of}

abbrev pub int : ℤ → Datum
int n = Plain (value.Int n)

abbrev pub truth : Bool → Datum
truth b = Plain (value.Bool b)

abbrev pub text : List ℕ → Datum
text bytes = Plain (value.Bytes bytes)

-- ---- what has to be of a kind

abbrev pub given_int : ℕ → Datum → Run ℤ
given_int place d = or_trap cause.Misfit place (int_of d)

abbrev pub given_bool : ℕ → Datum → Run Bool
given_bool place d = or_trap cause.Misfit place (bool_of d)

abbrev pub given_bytes : ℕ → Datum → Run (List ℕ)
given_bytes place d = or_trap cause.Misfit place (bytes_of_datum d)

abbrev pub given_value : ℕ → Datum → Run Value
given_value place d = or_trap cause.Misfit place (plain_of d)

abbrev pub given_items : ℕ → Datum → Run (List Datum)
given_items place d = or_trap cause.Misfit place (items_of d)

-- ---- lists

-- a list whose encoding isn't too long
abbrev pub list_of : List Value → ℕ → Run Datum
list_of items place =
    if nat_le (length (value_encoding (value.List items))) MOST_VALUE
    then gives (Plain (value.List items)) else traps cause.Size place

-- one item more
abbrev pub with_item : ℕ → List Value → Datum → Run (List Value)
with_item place items d = given_value place d >>= λ v. gives (items ++ v ∷ [])

-- ---- of one part

-- a number, where it is an int
abbrev pub int_number : ℕ → ℕ → Run Datum
int_number n place = ranged (pos n) place >>= λ m. gives (int m)

abbrev pub unary : Unary → ℕ → Datum → Run Datum
unary unary_op.Len place d = or_trap cause.Misfit place (length_of d) >>= λ n. int_number n place
unary unary_op.Sha256 place d = given_bytes place d >>= λ bytes. gives (text (sha256 bytes))
unary unary_op.Not place d = given_bool place d >>= λ b. gives (truth (not b))
unary unary_op.Negative place d = given_int place d >>= λ n. negated n place >>= λ m. gives (int m)

-- ---- of two parts

abbrev pub joined_bytes : List ℕ → List ℕ → ℕ → Run Datum
joined_bytes a b place =
    if nat_le (length a + length b) MOST_BYTES then gives (text (a ++ b)) else traps cause.Length place

abbrev pub joined_lists : List Value → List Value → ℕ → Run Datum
joined_lists a b place =
    if nat_le (length a + length b) MOST_ITEMS then list_of (a ++ b) place else traps cause.Length place

abbrev pub joined_layers : Value-F Value → Value-F Value → ℕ → Run Datum
joined_layers (Value-F.Bytes a) (Value-F.Bytes b) place = joined_bytes a b place
joined_layers (Value-F.List a) (Value-F.List b) place = joined_lists a b place
joined_layers a b place = traps cause.Misfit place

-- bytes with bytes, or a list with a list
abbrev pub joined : ℕ → Datum → Datum → Run Datum
joined place a b =
    given_value place a >>= λ v. given_value place b >>= λ w. joined_layers (out-Value v) (out-Value w) place

abbrev pub same_bool : Bool → Bool → Bool
same_bool true b = b
same_bool false b = not b

abbrev pub equality : Comparison → Bool → Option Bool
equality comparison.Equal same = Some same
equality comparison.NotEqual same = Some (not same)
equality c same = None

-- what a test says of two things, where both are there
abbrev pub both : {A : Type 0} → (A → A → Bool) → Option A → Option A → Option Bool
both test (Some x) (Some y) = Some (test x y)
both test x y = None

-- whether two bools or two bytes are one
abbrev pub same_in : Datum → Datum → Option Bool
same_in a b = or_else (both same_bool (bool_of a) (bool_of b)) (both bytes_eq (bytes_of_datum a) (bytes_of_datum b))

-- two ints are compared in any way, two bools or two bytes for equality
abbrev pub compared_in : Comparison → Datum → Datum → Option Bool
compared_in c a b = or_else (both (compared_ints c) (int_of a) (int_of b)) (option_and_then (equality c) (same_in a b))

abbrev pub compared : Comparison → ℕ → Datum → Datum → Run Datum
compared c place a b = or_trap cause.Misfit place (compared_in c a b) >>= λ holds. gives (truth holds)

abbrev pub is_bool : Bool → Option Bool → Bool
is_bool b None = false
is_bool b (Some c) = same_bool b c

-- whether the left side is all that counts: an `or` after a true one, an `and` after a false one
abbrev pub left_decides : Operator → Datum → Bool
left_decides operator.Or left = is_bool true (bool_of left)
left_decides operator.And left = is_bool false (bool_of left)
left_decides op left = false

-- the left side decided nothing, and both are bools
abbrev pub right_bool : ℕ → Datum → Datum → Run Datum
right_bool place left right =
    given_bool place left >>= λ a. given_bool place right >>= λ b. gives (truth b)

abbrev pub arithmetic : Operator → ℕ → Datum → Datum → Run Datum
arithmetic op place left right =
    given_int place left >>= λ x. given_int place right >>= λ y. computed op x y place >>= λ z. gives (int z)

-- both sides of an operator
abbrev pub linked : Operator → ℕ → Datum → Datum → Run Datum
linked operator.Or place left right = right_bool place left right
linked operator.And place left right = right_bool place left right
linked op place left right = arithmetic op place left right

-- a place isn't negative, and is below the length
abbrev pub item_at : List Datum → ℤ → Option Datum
item_at items (pos n) = slice_get items n
item_at items (negsuc n) = None

-- the item at a place of a list or objects
abbrev pub indexed : ℕ → Datum → Datum → Run Datum
indexed place d at =
    given_items place d >>= λ items. given_int place at >>= λ z. or_trap cause.Place place (item_at items z)

abbrev pub binary : Binary → ℕ → Datum → Datum → Run Datum
binary binary_op.Concat place a b = joined place a b
binary (binary_op.Compared c) place a b = compared c place a b
binary (binary_op.Linked op) place a b = linked op place a b
binary binary_op.Index place a b = indexed place a b
