-- What has an encoding, and the one encoding that it has.
use Rattle.std.specs.Prelude.{ℕ, zero, suc, ◌≤◌, if◌then◌else◌, List, [], ◌∷◌, ◌++◌, length}
use Rattle.std.specs.List.{AllByRecursion}
use Rattle.std.specs.Int.{w16, w64, to_be_bytes, cast_unsigned}
use Rattle.std.specs.Int.RustNames.{FitsSigned}
use Rattle.cs_base.specs.Fields.{IsBytes, each}
use Rattle.cs_tx_value.specs.declared.value.Value.{Value, out-Value}
use Rattle.cs_tx_value.specs.declared.value.Value.TheOpen.{Value-F}
use Rattle.cs_tx_value.specs.declared.value.Value.TheFolds.{fold-Value}

-- one value, with its items' encodings in the items' places
abbrev pub layer_encoding : Value-F (List ℕ) → List ℕ
layer_encoding (Value-F.Int n) = 0 ∷ to_be_bytes w64 (cast_unsigned w64 n)
layer_encoding (Value-F.Bool b) = 1 ∷ (if b then 1 else 0) ∷ []
layer_encoding (Value-F.Bytes bytes) = 2 ∷ (to_be_bytes w16 (length bytes) ++ bytes)
layer_encoding (Value-F.List items) = 3 ∷ length items ∷ each (λ item. item) items

abbrev pub value_encoding : Value → List ℕ
value_encoding = fold-Value (List ℕ) layer_encoding

-- One value fits, where its items have to fit so.
abbrev pub LayerFits : (List Value → Type 0) → Value-F Value → Type 0
LayerFits ItemsFit (Value-F.Int n) = FitsSigned w64 n
LayerFits ItemsFit (Value-F.Bool b) = Unit {0}
LayerFits ItemsFit (Value-F.Bytes bytes) = (length bytes ≤ 256) × IsBytes bytes
LayerFits ItemsFit (Value-F.List items) = ItemsFit items

-- at most so many, each of which fits
abbrev pub AtMost : {X : Type 0} → ℕ → (X → Type 0) → List X → Type 0
AtMost most Fits xs = (length xs ≤ most) × AllByRecursion Fits xs

-- lists nest at most so deep
abbrev pub ValueFitsIn : ℕ → Value → Type 0
ValueFitsIn zero v = LayerFits (λ _. ⊥) (out-Value v)
ValueFitsIn (suc depth) v = LayerFits (AtMost 64 (ValueFitsIn depth)) (out-Value v)

abbrev pub ValueFits : Value → Type 0
ValueFits v = ValueFitsIn 4 v

-- fits where lists may nest so deep, for some depth
abbrev pub IsBounded : Value → Type 0
IsBounded v = (depth : ℕ) × ValueFitsIn depth v

abbrev pub AreBounded : List Value → Type 0
AreBounded vs = (depth : ℕ) × AllByRecursion (ValueFitsIn depth) vs
