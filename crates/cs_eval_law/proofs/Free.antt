-- Operators spend nothing.
use Rattle.std.proofs.Common.{◌≡◌, ℕ, ◌+◌, ℤ, pos, negsuc, Bool, true, false, List, [], ◌∷◌, ◌++◌, length, Option, None, Some, refl}
use Rattle.sha2.specs.Sha256.{sha256}
use Rattle.std.specs.Prelude.{not, slice_get, nat_le, ◌+ℤ◌, ◌-ℤ◌, ◌*ℤ◌, neg_ℤ, int_div, int_rem}
use Rattle.std.specs.Ordering.{int_eq}
use Rattle.cs_lang_token.specs.declared.limits.TheConstants.{MOST_BYTES, MOST_ITEMS}
use Rattle.cs_lang_token.specs.declared.token.Text.{Text}
use Rattle.cs_lang.specs.declared.tree.Operator.{Operator}
use Rattle.cs_lang.specs.declared.tree.Operator.TheVariants as operator
use Rattle.cs_lang.specs.declared.tree.TypeDef.{TypeDef}
use Rattle.cs_tx_value.specs.declared.value.Value.{Value, out-Value}
use Rattle.cs_tx_value.specs.declared.value.Value.TheOpen.{Value-F}
use Rattle.cs_tx_value.specs.declared.value.Value.TheVariants as value
use Rattle.cs_tx_value.specs.Encoding.{value_encoding}
use Rattle.cs_eval_values.specs.declared.limits.TheConstants.{MOST_VALUE}
use Rattle.cs_eval_values.specs.declared.stop.Cause.TheVariants as cause
use Rattle.cs_eval_values.specs.declared.operators.Unary.{Unary}
use Rattle.cs_eval_values.specs.declared.operators.Unary.TheVariants as one
use Rattle.cs_eval_values.specs.declared.operators.Binary.{Binary}
use Rattle.cs_eval_values.specs.declared.operators.Binary.TheVariants as two
use Rattle.cs_eval_values.specs.declared.view.View.{View}
use Rattle.cs_eval_values.specs.Runs.{Run, gives, traps, ◌>>=◌, or_trap, spent}
use Rattle.cs_eval_values.specs.Datums.{Datum, Plain, int_of, bool_of, bytes_of_datum, length_of, plain_of, items_of, object_of_datum}
use Rattle.cs_eval_values.specs.Ints.{in_range, ranged, divided, computed, negated}
use Rattle.cs_eval_values.specs.Operators.{int, truth, text, given_int, given_bool, given_bytes, given_value, given_items, list_of, with_item, int_number, unary, joined_bytes, joined_lists, joined_layers, joined, compared_in, compared, right_bool, arithmetic, linked, item_at, indexed, binary}
use Rattle.cs_eval_values.specs.Views.{field_in, field_of, int_of_value, returned, returned_int}
use Rattle.cs_eval_law.proofs.Within.{free_bind, free_or, free_cond}

free_ranged : (z : ℤ) (place : ℕ) → spent (ranged z place) ≡ 0
free_ranged z place = free_or cause.Range place (in_range z)

free_number : (n place : ℕ) → spent (int_number n place) ≡ 0
free_number n place = free_bind (ranged (pos n) place) (λ m. gives (int m)) (free_ranged (pos n) place) (λ m. refl)

pub free_unary : (op : Unary) (place : ℕ) (d : Datum) → spent (unary op place d) ≡ 0
free_unary one.Len place d = free_bind (or_trap cause.Misfit place (length_of d)) (λ n. int_number n place) (free_or cause.Misfit place (length_of d)) (λ n. free_number n place)
free_unary one.Sha256 place d = free_bind (given_bytes place d) (λ bytes. gives (text (sha256 bytes))) (free_or cause.Misfit place (bytes_of_datum d)) (λ bytes. refl)
free_unary one.Not place d = free_bind (given_bool place d) (λ b. gives (truth (not b))) (free_or cause.Misfit place (bool_of d)) (λ b. refl)
free_unary one.Negative place d =
    free_bind (given_int place d) (λ n. negated n place >>= λ m. gives (int m)) (free_or cause.Misfit place (int_of d))
    (λ n. free_bind (negated n place) (λ m. gives (int m)) (free_ranged (neg_ℤ n) place) (λ m. refl))

free_list_of : (items : List Value) (place : ℕ) → spent (list_of items place) ≡ 0
free_list_of items place =
    free_cond (nat_le (length (value_encoding (value.List items))) MOST_VALUE) (gives (Plain (value.List items))) (traps cause.Size place) refl refl

free_bytes : (a b : List ℕ) (place : ℕ) → spent (joined_bytes a b place) ≡ 0
free_bytes a b place = free_cond (nat_le (length a + length b) MOST_BYTES) (gives (text (a ++ b))) (traps cause.Length place) refl refl

free_lists : (a b : List Value) (place : ℕ) → spent (joined_lists a b place) ≡ 0
free_lists a b place = free_cond (nat_le (length a + length b) MOST_ITEMS) (list_of (a ++ b) place) (traps cause.Length place) (free_list_of (a ++ b) place) refl

free_layers : (v w : Value-F Value) (place : ℕ) → spent (joined_layers v w place) ≡ 0
free_layers (Value-F.Bytes a) (Value-F.Bytes b) place = free_bytes a b place
free_layers (Value-F.List a) (Value-F.List b) place = free_lists a b place
free_layers (Value-F.Int n) w place = refl
free_layers (Value-F.Bool c) w place = refl
free_layers (Value-F.Bytes a) (Value-F.Int n) place = refl
free_layers (Value-F.Bytes a) (Value-F.Bool c) place = refl
free_layers (Value-F.Bytes a) (Value-F.List b) place = refl
free_layers (Value-F.List a) (Value-F.Int n) place = refl
free_layers (Value-F.List a) (Value-F.Bool c) place = refl
free_layers (Value-F.List a) (Value-F.Bytes b) place = refl

free_divided : (x y : ℤ) (place : ℕ) → spent (divided x y place) ≡ 0
free_divided x y place = free_cond (int_eq y (pos 0)) (traps cause.Divisor place) (ranged (int_div x y) place) refl (free_ranged (int_div x y) place)

free_computed : (op : Operator) (x y : ℤ) (place : ℕ) → spent (computed op x y place) ≡ 0
free_computed operator.Or x y place = refl
free_computed operator.And x y place = refl
free_computed operator.Plus x y place = free_ranged (x +ℤ y) place
free_computed operator.Minus x y place = free_ranged (x -ℤ y) place
free_computed operator.Times x y place = free_ranged (x *ℤ y) place
free_computed operator.Divide x y place = free_divided x y place
free_computed operator.Remainder x y place = free_bind (divided x y place) (λ q. gives (int_rem x y)) (free_divided x y place) (λ q. refl)

free_bools : (place : ℕ) (a b : Datum) → spent (right_bool place a b) ≡ 0
free_bools place a b =
    free_bind (given_bool place a) (λ c. given_bool place b >>= λ d. gives (truth d)) (free_or cause.Misfit place (bool_of a))
    (λ c. free_bind (given_bool place b) (λ d. gives (truth d)) (free_or cause.Misfit place (bool_of b)) (λ d. refl))

free_ints : (op : Operator) (place : ℕ) (a b : Datum) → spent (arithmetic op place a b) ≡ 0
free_ints op place a b =
    free_bind (given_int place a) (λ x. given_int place b >>= λ y. computed op x y place >>= λ z. gives (int z)) (free_or cause.Misfit place (int_of a))
    (λ x. free_bind (given_int place b) (λ y. computed op x y place >>= λ z. gives (int z)) (free_or cause.Misfit place (int_of b))
    (λ y. free_bind (computed op x y place) (λ z. gives (int z)) (free_computed op x y place) (λ z. refl)))

free_linked : (op : Operator) (place : ℕ) (a b : Datum) → spent (linked op place a b) ≡ 0
free_linked operator.Or place a b = free_bools place a b
free_linked operator.And place a b = free_bools place a b
free_linked operator.Plus place a b = free_ints operator.Plus place a b
free_linked operator.Minus place a b = free_ints operator.Minus place a b
free_linked operator.Times place a b = free_ints operator.Times place a b
free_linked operator.Divide place a b = free_ints operator.Divide place a b
free_linked operator.Remainder place a b = free_ints operator.Remainder place a b

pub free_binary : (op : Binary) (place : ℕ) (a b : Datum) → spent (binary op place a b) ≡ 0
free_binary two.Concat place a b =
    free_bind (given_value place a) (λ v. given_value place b >>= λ w. joined_layers (out-Value v) (out-Value w) place) (free_or cause.Misfit place (plain_of a))
    (λ v. free_bind (given_value place b) (λ w. joined_layers (out-Value v) (out-Value w) place) (free_or cause.Misfit place (plain_of b))
    (λ w. free_layers (out-Value v) (out-Value w) place))
free_binary (two.Compared c) place a b = free_bind (or_trap cause.Misfit place (compared_in c a b)) (λ holds. gives (truth holds)) (free_or cause.Misfit place (compared_in c a b)) (λ holds. refl)
free_binary (two.Linked op) place a b = free_linked op place a b
free_binary two.Index place a b =
    free_bind (given_items place a) (λ items. given_int place b >>= λ z. or_trap cause.Place place (item_at items z)) (free_or cause.Misfit place (items_of a))
    (λ items. free_bind (given_int place b) (λ z. or_trap cause.Place place (item_at items z)) (free_or cause.Misfit place (int_of b)) (λ z. free_or cause.Place place (item_at items z)))

pub free_item : (place : ℕ) (items : List Value) (d : Datum) → spent (with_item place items d) ≡ 0
free_item place items d = free_bind (given_value place d) (λ v. gives (items ++ v ∷ [])) (free_or cause.Misfit place (plain_of d)) (λ v. refl)

pub free_list : (items : List Value) (place : ℕ) → spent (list_of items place) ≡ 0
free_list items place = free_list_of items place

pub free_field : (types : List TypeDef) (name : List ℕ) (place : ℕ) (d : Datum) → spent (field_of types name place d) ≡ 0
free_field types name place d =
    free_bind (or_trap cause.Misfit place (object_of_datum d)) (λ o. or_trap cause.Misfit place (field_in types name o) >>= λ v. gives (Plain v)) (free_or cause.Misfit place (object_of_datum d))
    (λ o. free_bind (or_trap cause.Misfit place (field_in types name o)) (λ v. gives (Plain v)) (free_or cause.Misfit place (field_in types name o)) (λ v. refl))

pub free_returned : (view : View) (dep value place : ℕ) → spent (returned_int view dep value place) ≡ 0
free_returned view dep value place = free_bind (or_trap cause.Dep place (int_of_value (returned (slice_get view.deps dep) value))) (λ n. gives (int n))
    (free_or cause.Dep place (int_of_value (returned (slice_get view.deps dep) value))) (λ n. refl)

pub free_leaf : (n place : ℕ) → spent (int_number n place) ≡ 0
free_leaf n place = free_number n place
