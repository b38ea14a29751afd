-- The equations of values, one for each kind.
use Rattle.std.proofs.Common.{◌≡◌, ℕ, zero, suc, ◌-◌, ◌<◌, ◌≤◌, ◌↔◌, ◌++◌, List, [], ◌∷◌, length, map, refl, sym, ap, ◌∙◌, subst, ℤ, Bool, rules, arith, sub-one}
use Rattle.std.specs.Prelude.{if◌then◌else◌}
use Rattle.std.specs.Int.RustNames.{FitsSigned}
use Rattle.std.specs.List.{AllByRecursion}
use Rattle.std.specs.Int.{w16, w64, to_be_bytes, cast_unsigned}
use Rattle.cs_base.specs.Fields.{IsBytes, each}
use Rattle.cs_tx_value.specs.Encoding.{layer_encoding, value_encoding, LayerFits, ValueFitsIn, IsBounded, AreBounded}
use Rattle.cs_tx_value.specs.declared.value.Value.{Value, out-Value, roll-Value}
use Rattle.cs_tx_value.specs.declared.value.Value.TheVariants as value
use Rattle.cs_tx_value.specs.declared.value.Value.TheVariants.{rolls-Int, rolls-Bool, rolls-Bytes, rolls-List}
use Rattle.cs_tx_value.specs.declared.value.Value.TheViews.{the_lemmas}
use Rattle.cs_tx_value.specs.declared.value.Value.TheOpen.{Value-F}
use Rattle.cs_tx_value.specs.declared.value.Value.TheFolds.{fold-roll-Value}

-- ---- what a variant opens to

pub out-Int : (n : ℤ) → out-Value (value.Int n) ≡ Value-F.Int n
out-Int n = search (rules, the_lemmas)

pub out-Bool : (b : Bool) → out-Value (value.Bool b) ≡ Value-F.Bool b
out-Bool b = search (rules, the_lemmas)

pub out-Bytes : (bytes : List ℕ) → out-Value (value.Bytes bytes) ≡ Value-F.Bytes bytes
out-Bytes bytes = search (rules, the_lemmas)

pub out-List : (items : List Value) → out-Value (value.List items) ≡ Value-F.List items
out-List items = search (rules, the_lemmas)

pub roll-out : (v : Value) → roll-Value (out-Value v) ≡ v
roll-out v = search (rules, the_lemmas)

-- ---- what a variant encodes to

each-map : (vs : List Value) → each (λ item. item) (map value_encoding vs) ≡ each value_encoding vs
each-map [] = refl
each-map (v ∷ vs) = ap (λ (t : List ℕ). value_encoding v ++ t) (each-map vs)

length-encodings : (vs : List Value) → length (map value_encoding vs) ≡ length vs
length-encodings [] = refl
length-encodings (v ∷ vs) = ap suc (length-encodings vs)

pub encoding_int : (n : ℤ) → value_encoding (value.Int n) ≡ 0 ∷ to_be_bytes w64 (cast_unsigned w64 n)
encoding_int n = ap value_encoding (sym (rolls-Int n)) ∙ fold-roll-Value (List ℕ) layer_encoding (Value-F.Int n)

pub encoding_bool : (b : Bool) → value_encoding (value.Bool b) ≡ 1 ∷ (if b then 1 else 0) ∷ []
encoding_bool b = ap value_encoding (sym (rolls-Bool b)) ∙ fold-roll-Value (List ℕ) layer_encoding (Value-F.Bool b)

pub encoding_bytes : (bytes : List ℕ)
    → value_encoding (value.Bytes bytes) ≡ 2 ∷ (to_be_bytes w16 (length bytes) ++ bytes)
encoding_bytes bytes =
    ap value_encoding (sym (rolls-Bytes bytes)) ∙ fold-roll-Value (List ℕ) layer_encoding (Value-F.Bytes bytes)

pub encoding_list : (items : List Value)
    → value_encoding (value.List items) ≡ 3 ∷ length items ∷ each value_encoding items
encoding_list items =
    ap value_encoding (sym (rolls-List items)) ∙ fold-roll-Value (List ℕ) layer_encoding (Value-F.List items)
    ∙ rw (length-encodings items, each-map items) refl

-- ---- what fits

-- what items of a list have to meet, where lists may nest so deep
abbrev ItemsFitIn : ℕ → List Value → Type 0
ItemsFitIn zero items = ⊥
ItemsFitIn (suc depth) items = (length items ≤ 64) × AllByRecursion (ValueFitsIn depth) items

pub list_fits : (depth : ℕ) (items : List Value) → ValueFitsIn depth (value.List items) → ItemsFitIn depth items
list_fits zero items fits = subst (λ (l : Value-F Value). LayerFits (λ _. ⊥) l) (out-List items) fits
list_fits (suc depth) items fits =
    subst (λ (l : Value-F Value). LayerFits (λ xs. (length xs ≤ 64) × AllByRecursion (ValueFitsIn depth) xs) l)
    (out-List items) fits

pub text_fits : (depth : ℕ) (text : List ℕ) → ValueFitsIn depth (value.Bytes text) → (length text ≤ 256) × IsBytes text
text_fits zero text fits = subst (λ (l : Value-F Value). LayerFits (λ _. ⊥) l) (out-Bytes text) fits
text_fits (suc depth) text fits =
    subst (λ (l : Value-F Value). LayerFits (λ xs. (length xs ≤ 64) × AllByRecursion (ValueFitsIn depth) xs) l)
    (out-Bytes text) fits

pub text_short : (v : Value) (text : List ℕ) → v ≡ value.Bytes text → IsBounded v → length text ≤ 256
text_short v text is (depth, fits) = (text_fits depth text (subst (ValueFitsIn depth) is fits)).0

few_in : (depth : ℕ) (items : List Value) → ItemsFitIn depth items → length items ≤ 64
few_in zero items fits = absurd fits
few_in (suc depth) items fits = fits.0

bounded_in : (depth : ℕ) (items : List Value) → ItemsFitIn depth items → AreBounded items
bounded_in zero items fits = absurd fits
bounded_in (suc depth) items fits = (depth, fits.1)

pub items_few : (v : Value) (items : List Value) → v ≡ value.List items → IsBounded v → length items ≤ 64
items_few v items is (depth, fits) = few_in depth items (list_fits depth items (subst (ValueFitsIn depth) is fits))

pub items_bounded : (v : Value) (items : List Value) → v ≡ value.List items → IsBounded v → AreBounded items
items_bounded v items is (depth, fits) =
    bounded_in depth items (list_fits depth items (subst (ValueFitsIn depth) is fits))

-- ---- each kind fits exactly where its payload does

pub int_fits : (depth : ℕ) (v : Value) (n : ℤ) → v ≡ value.Int n → FitsSigned w64 n → ValueFitsIn depth v
int_fits zero v n is fits = rw (is, out-Int n) fits
int_fits (suc depth) v n is fits = rw (is, out-Int n) fits

pub text_fits_iff : (depth : ℕ) (v : Value) (text : List ℕ) → v ≡ value.Bytes text
    → ((length text ≤ 256) × IsBytes text) ↔ ValueFitsIn depth v
text_fits_iff zero v text is =
    ((λ h. rw (is, out-Bytes text) h), λ h. text_fits zero text (subst (ValueFitsIn zero) is h))
text_fits_iff (suc depth) v text is =
    ((λ h. rw (is, out-Bytes text) h), λ h. text_fits (suc depth) text (subst (ValueFitsIn (suc depth)) is h))

pub list_fits_iff : (depth : ℕ) (v : Value) (items : List Value) → v ≡ value.List items → 0 < depth
    → ((length items ≤ 64) × AllByRecursion (ValueFitsIn (depth - 1)) items) ↔ ValueFitsIn depth v
list_fits_iff zero v items is lt = absurd (omega (arith, lt))
list_fits_iff (suc depth) v items is lt =
    rw sub-one
    ((λ h. rw (is, out-List items) h), λ h. list_fits (suc depth) items (subst (ValueFitsIn (suc depth)) is h))

pub ruleset writes = (encoding_int, encoding_bool, encoding_bytes, encoding_list)
