-- The item at a place is the one among the items.
use Rattle.std.proofs.Common.{◌≡◌, ℕ, zero, suc, List, [], ◌∷◌, map, Option, Some, None, refl, sym, ap, ◌∙◌}
use Rattle.std.specs.Prelude.{slice_get}
use Rattle.cs_tx_value.specs.declared.object.Object.{Object}
use Rattle.cs_tx_value.specs.declared.value.Value.{Value, out-Value}
use Rattle.cs_tx_value.specs.declared.value.Value.TheOpen.{Value-F}
use Rattle.cs_eval_shared.specs.Parts.{values_in}
use Rattle.cs_eval_values.specs.Datums.{Datum, Plain, One, Many, plain_item, object_item, item_in, plain_each, items_of, item_of_datum}

some_is : {A : Type 0} (x y : A) → Some x ≡ Some y → x ≡ y
some_is x y is = cc

pub plain_at : (vs : List Value) (at : ℕ) → slice_get (map (λ v. Plain v) vs) at ≡ plain_item (slice_get vs at)
plain_at [] at = refl
plain_at (v ∷ vs) zero = refl
plain_at (v ∷ vs) (suc at) = plain_at vs at

pub object_at : (os : List Object) (at : ℕ) → slice_get (map (λ o. One o) os) at ≡ object_item (slice_get os at)
object_at [] at = refl
object_at (o ∷ os) zero = refl
object_at (o ∷ os) (suc at) = object_at os at

layer_among : (v : Value-F Value) (items : List Datum) (at : ℕ) → plain_each (values_in v) ≡ Some items → item_in v at ≡ slice_get items at
layer_among (Value-F.Int n) items at is = absurd cc
layer_among (Value-F.Bool b) items at is = absurd cc
layer_among (Value-F.Bytes bytes) items at is = absurd cc
layer_among (Value-F.List vs) items at is =
    sym (plain_at vs at) ∙ ap (λ (ds : List Datum). slice_get ds at) (some_is (map (λ v. Plain v) vs) items is)

pub item_among : (d : Datum) (items : List Datum) (at : ℕ) → items_of d ≡ Some items → item_of_datum d at ≡ slice_get items at
item_among (Plain v) items at is = layer_among (out-Value v) items at is
item_among (One o) items at is = absurd cc
item_among (Many os) items at is =
    sym (object_at os at) ∙ ap (λ (ds : List Datum). slice_get ds at) (some_is (map (λ o. One o) os) items is)
