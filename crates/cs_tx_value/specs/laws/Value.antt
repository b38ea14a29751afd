-- A value that is found was written so, and a value that fits is found again.
use Rattle.std.proofs.Common.{◌≡◌, ℕ, zero, suc, ◌^◌, ◌<◌, ◌≤◌, ◌++◌, Bool, true, false, List, [], ◌∷◌, length, Some, None, refl, ap, subst, ◌∙◌, arith}
use Rattle.std.proofs.lemmas.Int.{ints, to_z-of_z, of_z-to_z}
use Rattle.std.specs.Prelude.{if◌then◌else◌, nat_le}
use Rattle.std.specs.List.{AllByRecursion}
use Rattle.std.specs.Int.{w8, w16, w64, to_be_bytes, cast_unsigned, cast_signed}
use Rattle.std.specs.Int.RustNames.{FitsSigned}
use Rattle.cs_base.specs.Fields.{IsBytes, each, counted, Found, ◌>>=◌, ◌<$>◌, number_at, bytes_at, tested_at, many_at, counted_at, Splits, IsForm}
use Rattle.cs_base.proofs.Forms.{wide16, wide64, number_form, byte_form, bytes_form, tested_form, mapped_form, many_form, upto_form, bind_some, map_some}
use Rattle.cs_tx_value.specs.Encoding.{value_encoding, LayerFits, ValueFitsIn}
use Rattle.cs_tx_value.specs.Reading.{int_at, bool_at, text_at, kind_at, value_at}
use Rattle.cs_tx_value.specs.declared.value.Value.{Value, out-Value, roll-Value}
use Rattle.cs_tx_value.specs.declared.value.Value.TheVariants as value
use Rattle.cs_tx_value.specs.declared.value.Value.TheVariants.{rolls-Int, rolls-Bool, rolls-Bytes, rolls-List}
use Rattle.cs_tx_value.specs.declared.value.Value.TheOpen.{Value-F}
use Rattle.cs_tx_value.specs.laws.Layers.{out-Int, out-Bool, out-Bytes, out-List, roll-out, encoding_int, encoding_bool, encoding_bytes, encoding_list}

-- ---- what follows the byte of the kind

int_form : IsForm (λ z. to_be_bytes w64 (cast_unsigned w64 z)) (FitsSigned w64) int_at
unfolding int_at
int_form =
    mapped_form (to_be_bytes w64) (λ n. n < 2 ^ 64) (number_at w64) (number_form w64 (2 ^ 64) wide64) (cast_signed w64)
    (cast_unsigned w64) (FitsSigned w64)
    (λ n lt. (of_z-to_z w64 n lt, omega (arith, ints))) (λ z fits. (to_z-of_z w64 z fits, omega (arith, ints)))

abbrev bit : Bool → ℕ
bit b = if b then 1 else 0

is_bit : (n : ℕ) → nat_le n 1 ≡ true → bit (nat_le 1 n) ≡ n
is_bit n h = grind arith

bit-back : (b : Bool) → nat_le 1 (bit b) ≡ b
bit-back true = refl
bit-back false = refl

bit-small : (b : Bool) → (bit b < 256) × (nat_le (bit b) 1 ≡ true)
bit-small true = (omega arith, refl)
bit-small false = (omega arith, refl)

bool_form : IsForm (λ b. bit b ∷ []) (λ b. Unit {0}) bool_at
unfolding bool_at
bool_form =
    mapped_form (λ n. n ∷ []) (λ n. (n < 256) × (nat_le n 1 ≡ true)) (tested_at (λ n. nat_le n 1) (number_at w8))
    (tested_form (λ n. n ∷ []) (λ n. n < 256) (number_at w8) byte_form (λ n. nat_le n 1)) (nat_le 1) bit (λ b. Unit {0})
    (λ n h. (is_bit n h.1, tt)) (λ b h. (bit-back b, bit-small b))

text_form : IsForm (λ bytes. to_be_bytes w16 (length bytes) ++ bytes) (λ bytes. (length bytes ≤ 256) × IsBytes bytes) text_at
text_form =
    upto_form w16 (2 ^ 16) (to_be_bytes w16) (number_form w16 (2 ^ 16) wide16) 256 (omega arith) length (λ bytes. bytes)
    IsBytes bytes_at bytes_form

pub counted_form : {X : Type 0} (write : X → List ℕ) (Fits : X → Type 0) (read : List ℕ → Found X)
    → IsForm write Fits read → (most : ℕ) → most < 256
    → IsForm (counted write) (λ xs. (length xs ≤ most) × AllByRecursion Fits xs) (counted_at most read)
counted_form write Fits read form most lt =
    upto_form w8 256 (λ n. n ∷ []) byte_form most lt length (each write) (AllByRecursion Fits) (many_at read)
    (many_form write Fits read form)

-- ---- values

module _ (ItemsFit : List Value → Type 0) (list_at : List ℕ → Found (List Value))
    (list_form : IsForm (counted value_encoding) ItemsFit list_at) where
  abbrev one_at : List ℕ → Found Value
  one_at bytes = number_at w8 bytes >>= λ kind. kind_at list_at kind.0 kind.1

  abbrev Fits : Value → Type 0
  Fits v = LayerFits ItemsFit (out-Value v)

  -- the payload of one kind, as a value of that kind
  made : {X : Type 0} (write : X → List ℕ) (FitsX : X → Type 0) (read : List ℕ → Found X) (form : IsForm write FitsX read) (make : X → Value) (kind : ℕ)
      → ((x : X) → value_encoding (make x) ≡ kind ∷ write x) → ((x : X) → FitsX x → Fits (make x))
      → (bytes : List ℕ) (v : Value) (rest : List ℕ) → IsBytes bytes → (make <$> read bytes) ≡ Some (v, rest)
      → Splits (kind ∷ bytes) (value_encoding v) rest × Fits v
  made write FitsX read form make kind encoding fit bytes v rest fits e =
      let a = map_some make (read bytes) (v, rest) e in
      let t = form.takes bytes a.0.0 a.0.1 fits a.1 in
      subst (λ (p : Value × List ℕ). Splits (kind ∷ bytes) (value_encoding p.0) p.1 × Fits p.0) a.2
      (rw (encoding a.0.0) (record { parts = ap (λ (r : List ℕ). kind ∷ r) t.0.parts; rest_fits = t.0.rest_fits }), fit a.0.0 t.1)

  kind-takes : (kind : ℕ) (bytes : List ℕ) (v : Value) (rest : List ℕ) → IsBytes bytes
      → kind_at list_at kind bytes ≡ Some (v, rest) → Splits (kind ∷ bytes) (value_encoding v) rest × Fits v
  kind-takes zero bytes v rest fits e =
      made _ (FitsSigned w64) int_at int_form value.Int 0 encoding_int (λ x f. rw (out-Int x) f) bytes v rest fits e
  kind-takes (suc zero) bytes v rest fits e =
      made _ (λ b. Unit {0}) bool_at bool_form value.Bool 1 encoding_bool (λ x f. rw (out-Bool x) f) bytes v rest fits e
  kind-takes (suc (suc zero)) bytes v rest fits e =
      made _ (λ text. (length text ≤ 256) × IsBytes text) text_at text_form value.Bytes 2 encoding_bytes
      (λ x f. rw (out-Bytes x) f) bytes v rest fits e
  kind-takes (suc (suc (suc zero))) bytes v rest fits e =
      made (counted value_encoding) ItemsFit list_at list_form value.List 3 encoding_list (λ x f. rw (out-List x) f)
      bytes v rest fits e
  kind-takes (suc (suc (suc (suc kind)))) bytes v rest fits e = absurd cc

  again_of : {X : Type 0} (write : X → List ℕ) (FitsX : X → Type 0) (read : List ℕ → Found X) (form : IsForm write FitsX read) (make : X → Value) (kind : ℕ)
      → kind < 256
      → ((x : X) → value_encoding (make x) ≡ kind ∷ write x)
      → ((bytes : List ℕ) → kind_at list_at kind bytes ≡ (make <$> read bytes))
      → (x : X) (rest : List ℕ) → FitsX x → one_at (value_encoding (make x) ++ rest) ≡ Some (make x, rest)
  again_of write FitsX read form make kind lt encoding opens x rest fits =
      let spelled : value_encoding (make x) ++ rest ≡ kind ∷ (write x ++ rest) =
      ap (λ (t : List ℕ). t ++ rest) (encoding x) in
      let first : one_at (kind ∷ (write x ++ rest)) ≡ kind_at list_at kind (write x ++ rest) =
      ap (λ (r : Found ℕ). r >>= λ k. kind_at list_at k.0 k.1) (byte_form.again kind (write x ++ rest) lt) in
      let payload : (make <$> read (write x ++ rest)) ≡ Some (make x, rest) =
      ap (λ (r : Found _). make <$> r) (form.again x rest fits) in
      ap one_at spelled ∙ first ∙ opens (write x ++ rest) ∙ payload

  layer-again : (layer : Value-F Value) (rest : List ℕ) → LayerFits ItemsFit layer
      → one_at (value_encoding (roll-Value layer) ++ rest) ≡ Some (roll-Value layer, rest)
  layer-again (Value-F.Int n) rest fits =
      rw (rolls-Int n)
      (again_of _ (FitsSigned w64) int_at int_form value.Int 0 (omega arith) encoding_int (λ bytes. refl) n rest fits)
  layer-again (Value-F.Bool b) rest fits =
      rw (rolls-Bool b)
      (again_of _ (λ x. Unit {0}) bool_at bool_form value.Bool 1 (omega arith) encoding_bool (λ bytes. refl) b rest tt)
  layer-again (Value-F.Bytes text) rest fits =
      rw (rolls-Bytes text)
      (again_of _ (λ x. (length x ≤ 256) × IsBytes x) text_at text_form value.Bytes 2 (omega arith) encoding_bytes (λ bytes. refl) text rest fits)
  layer-again (Value-F.List items) rest fits =
      rw (rolls-List items)
      (again_of (counted value_encoding) ItemsFit list_at list_form value.List 3 (omega arith) encoding_list (λ bytes. refl) items rest fits)

  pub one_form : IsForm value_encoding Fits one_at
  one_form = record {
    takes = λ bytes v rest fits e.
        let a = bind_some (number_at w8 bytes) (λ kind. kind_at list_at kind.0 kind.1) (v, rest) e in
        let first = byte_form.takes bytes a.0.0 a.0.1 fits a.1 in
        let t = kind-takes a.0.0 a.0.1 v rest first.0.rest_fits a.2 in
        (record { parts = first.0.parts ∙ t.0.parts; rest_fits = t.0.rest_fits }, t.1);
    again =
        λ v rest fits. subst (λ (u : Value). one_at (value_encoding u ++ rest) ≡ Some (u, rest)) (roll-out v)
        (layer-again (out-Value v) rest fits);
  }

nothing_form : IsForm (counted value_encoding) (λ items. ⊥) (λ rest. None)
nothing_form = record { takes = λ bytes x rest fits e. absurd cc; again = λ x rest fits. absurd fits }

pub value_form : (depth : ℕ) → IsForm value_encoding (ValueFitsIn depth) (value_at depth)
unfolding value_at
value_form zero = one_form (λ items. ⊥) (λ rest. None) nothing_form
value_form (suc depth) =
    one_form (λ items. (length items ≤ 64) × AllByRecursion (ValueFitsIn depth) items) (counted_at 64 (value_at depth))
    (counted_form value_encoding (ValueFitsIn depth) (value_at depth) (value_form depth) 64 (omega arith))
