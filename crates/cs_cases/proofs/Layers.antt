-- The texts of values, one for each kind.
use Rattle.std.proofs.Common.{◌≡◌, ℕ, ◌++◌, List, [], ◌∷◌, map, refl, sym, ap, ◌∙◌, ℤ, Bool}
use Rattle.std.specs.Prelude.{codes}
use Rattle.std.specs.Fmt.{signed_decimal}
use Rattle.cs_tx_value.specs.declared.value.Value.{Value}
use Rattle.cs_tx_value.specs.declared.value.Value.TheVariants as value
use Rattle.cs_tx_value.specs.declared.value.Value.TheVariants.{rolls-Int, rolls-Bool, rolls-Bytes, rolls-List}
use Rattle.cs_tx_value.specs.declared.value.Value.TheOpen.{Value-F}
use Rattle.cs_tx_value.specs.declared.value.Value.TheFolds.{fold-roll-Value}
use Rattle.cs_cases.specs.Printed.{truth_text, quoted_text, comma_row, layer_text, value_text, each_value}

each_map : (vs : List Value) → map value_text vs ≡ each_value vs
each_map [] = refl
each_map (v ∷ vs) = ap (λ (ts : List (List ℕ)). value_text v ∷ ts) (each_map vs)

pub text_int : (v : Value) (n : ℤ) → v ≡ value.Int n → value_text v ≡ signed_decimal n
text_int v n is = ap value_text (is ∙ sym (rolls-Int n)) ∙ fold-roll-Value (List ℕ) layer_text (Value-F.Int n)

pub text_bool : (v : Value) (b : Bool) → v ≡ value.Bool b → value_text v ≡ truth_text b
text_bool v b is = ap value_text (is ∙ sym (rolls-Bool b)) ∙ fold-roll-Value (List ℕ) layer_text (Value-F.Bool b)

pub text_bytes : (v : Value) (bytes : List ℕ) → v ≡ value.Bytes bytes → value_text v ≡ quoted_text bytes
text_bytes v bytes is = ap value_text (is ∙ sym (rolls-Bytes bytes)) ∙ fold-roll-Value (List ℕ) layer_text (Value-F.Bytes bytes)

pub text_list : (v : Value) (items : List Value) → v ≡ value.List items → value_text v ≡ codes "[" ++ (comma_row (each_value items) ++ codes "]")
text_list v items is =
    ap value_text (is ∙ sym (rolls-List items)) ∙ fold-roll-Value (List ℕ) layer_text (Value-F.List items)
    ∙ ap (λ (ts : List (List ℕ)). codes "[" ++ (comma_row ts ++ codes "]")) (each_map items)

pub ruleset texts = (text_int, text_bool, text_bytes, text_list)
