-- A name is a text.
use Rattle.std.proofs.Common.{◌≡◌, ℕ, zero, suc, ◌<◌, true, List, [], ◌∷◌, arith}
use Rattle.std.specs.Prelude.{◌&&◌, slice_index}
use Rattle.std.specs.List.{list_all}
use Rattle.std.specs.Str.{IsUtf8}
use Rattle.std.proofs.lemmas.Bool.{and_parts}
use Rattle.std.proofs.lemmas.Bool.Decides.{nat_tests}
use Rattle.std.proofs.lemmas.Str.{IsUtf8-from_ascii}
use Rattle.cs_tx_value.specs.Name.{is_letter_code, is_name_code, is_spelled, NameFits}

letter_small : (c : ℕ) → is_letter_code c ≡ true → c < 128
letter_small c is = grind (arith, nat_tests)

code_small : (c : ℕ) → is_name_code c ≡ true → c < 128
code_small c is = grind (arith, nat_tests)

codes_small : (cs : List ℕ) → list_all is_name_code cs ≡ true → (i : ℕ) → slice_index cs i < 128
codes_small [] all i = omega arith
codes_small (c ∷ cs) all zero = code_small c (and_parts (is_name_code c) (list_all is_name_code cs) all).0
codes_small (c ∷ cs) all (suc i) = codes_small cs (and_parts (is_name_code c) (list_all is_name_code cs) all).1 i

spelled_small : (name : List ℕ) → is_spelled name ≡ true → (i : ℕ) → slice_index name i < 128
spelled_small [] is i = omega arith
spelled_small (c ∷ cs) is zero = letter_small c (and_parts (is_letter_code c) (list_all is_name_code cs) is).0
spelled_small (c ∷ cs) is (suc i) = codes_small cs (and_parts (is_letter_code c) (list_all is_name_code cs) is).1 i

pub name_text : (name : List ℕ) → NameFits name → IsUtf8 name
name_text name fits = IsUtf8-from_ascii name (spelled_small name fits.1)
