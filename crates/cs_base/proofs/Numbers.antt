-- The decimal text of a number, and what is no such text.
use Rattle.std.specs.Prelude.{◌≡◌, ◌≢◌, ℕ, ◌^◌, ◌<◌, ◌≤◌, List, length, true, false, nat_lt, Some, None}
use Rattle.std.specs.Str.{bytes_eq, IsUtf8}
use Rattle.std.specs.Str.Parse.{AllDigits, IsNumeral, digits_value, without_leading_plus}
use Rattle.std.specs.Fmt.{decimal}
use Rattle.std.proofs.Common.{sym, ◌∙◌, ap, refl, arith, inl, inr, get_or, suc, zero}
use Rattle.std.proofs.lemmas.Bool.{cases_Bool, lt-ltb, ltb-true, true≢false}
use Rattle.std.proofs.lemmas.Bool.Decides.{nat_tests}
use Rattle.std.proofs.lemmas.Str.{IsUtf8-from_ascii}
use Rattle.std.proofs.lemmas.Str.Parse.{IsNumeralModel, numerals_by_value, tells_digits, not_in_digits, without_leading_plus_none}
use Rattle.std.proofs.lemmas.Fmt.{decimal-digits_value, decimal_is_IsNumeral, IsAscii-decimal, first_decimal, decimal_digit, digits_value-decimal}
use Rattle.std.proofs.lemmas.Slice.Eq.{bytes_eq-Decides}
use Rattle.cs_base.specs.Codes.{number_of, spare_front}

pub own : IsNumeralModel (AllDigits 10) (digits_value 10)
own = numerals_by_value (AllDigits 10) tells_digits

-- the field is the decimal text of its value
pub record IsDecimal (field : List ℕ) : Type 0 where
  pub text : field ≡ decimal (digits_value 10 field)
  pub small : digits_value 10 field < 2 ^ 64

pub number_found : (field : List ℕ) → IsDecimal field → Some (digits_value 10 field) ≡ number_of field
number_found field is =
    rw (lt-ltb (digits_value 10 field) (2 ^ 64) is.small, (bytes_eq-Decides field (decimal (digits_value 10 field))).1 is.text) refl

pub number_none : (field : List ℕ) → (IsDecimal field → ⊥) → None ≡ number_of field
number_none field not_decimal =
    elim (cases_Bool (nat_lt (digits_value 10 field) (2 ^ 64))) [
      | inr large ↦ rw large refl
      | inl small ↦ elim (cases_Bool (bytes_eq field (decimal (digits_value 10 field)))) [
        | inr other ↦ rw (small, other) refl
        | inl same ↦ absurd (not_decimal (record {
          text = (bytes_eq-Decides field (decimal (digits_value 10 field))).0 same;
          small = ltb-true _ _ small;
        }))
      ]
    ]

pub decimal_numeral : (field : List ℕ) → IsDecimal field → IsNumeral 10 field
decimal_numeral field is = rw is.text (decimal_is_IsNumeral (digits_value 10 field) is.small).0

pub decimal_utf8 : (field : List ℕ) → IsDecimal field → IsUtf8 field
decimal_utf8 field is = rw is.text (IsUtf8-from_ascii _ (IsAscii-decimal (digits_value 10 field) is.small))

pub spare_front_false : (field : List ℕ) → get_or field 0 0 ≢ 43 → (get_or field 0 0 ≡ 48 → length field ≤ 1) → spare_front field ≡ false
spare_front_false field sign short = grind (arith, nat_tests)

pub spare_front_is : (field : List ℕ) → spare_front field ≡ false → (get_or field 0 0 ≢ 43) × (get_or field 0 0 ≡ 48 → length field ≤ 1)
spare_front_is field plain = (λ sign. grind (arith, nat_tests), λ first. grind (arith, nat_tests))

decimal_first : (n : ℕ) → n < 2 ^ 64 → get_or (decimal n) 0 0 ≡ 48 → length (decimal n) ≤ 1
decimal_first zero small first = omega (arith, ap length (decimal_digit 0 (omega arith)))
decimal_first (suc n) small first = absurd (omega (arith, first_decimal (suc n) (omega arith) small))

pub decimal_plain : (field : List ℕ) → IsDecimal field → spare_front field ≡ false
decimal_plain field is =
    let numeral = decimal_numeral field is in
    let short : get_or field 0 0 ≡ 48 → length field ≤ 1 = rw is.text (decimal_first (digits_value 10 field) is.small) in
    spare_front_false field (not_in_digits own field 43 numeral.1 (λ range. absurd (omega arith)) 0 numeral.0) short

-- digits without a spare front are the decimal text of their value
pub decimal_from_digits : (field : List ℕ) → spare_front field ≡ false → IsNumeral 10 field → digits_value 10 field < 2 ^ 64 → IsDecimal field
decimal_from_digits field plain numeral small = record {
  text = sym (decimal-digits_value own field numeral.1 numeral.0 (λ first. omega (arith, (spare_front_is field plain).1 first, numeral.0)) small);
  small = small;
}

-- what `parse` says of a text with no spare front
pub parsed_ok : (field text : List ℕ) (n : ℕ) → text ≡ field → spare_front field ≡ false
    → (IsNumeral 10 (without_leading_plus text) × (digits_value 10 (without_leading_plus text) < 2 ^ 64)) × (n ≡ digits_value 10 (without_leading_plus text))
    → Some n ≡ number_of field
parsed_ok field text n same plain says =
    let bare : without_leading_plus text ≡ field = ap without_leading_plus same ∙ without_leading_plus_none field (spare_front_is field plain).0 in
    let told = rw bare at says in
    ap Some told.1 ∙ number_found field (decimal_from_digits field plain told.0.0 told.0.1)

pub parsed_err : (field text : List ℕ) → text ≡ field → spare_front field ≡ false
    → (IsNumeral 10 (without_leading_plus text) × (digits_value 10 (without_leading_plus text) < 2 ^ 64) → ⊥) → None ≡ number_of field
parsed_err field text same plain says =
    let bare : without_leading_plus text ≡ field = ap without_leading_plus same ∙ without_leading_plus_none field (spare_front_is field plain).0 in
    let told = rw bare at says in
    number_none field (λ is. told (decimal_numeral field is, is.small))

pub spare_none : (field : List ℕ) → true ≡ spare_front field → None ≡ number_of field
spare_none field spare = number_none field (λ is. true≢false (spare ∙ decimal_plain field is))

-- what is printed is read again
pub number_printed : (n : ℕ) → n < 2 ^ 64 → number_of (decimal n) ≡ Some n
number_printed n small =
    let value : digits_value 10 (decimal n) ≡ n = digits_value-decimal own n small in
    sym (number_found (decimal n) (record { text = rw value refl; small = rw value small })) ∙ rw value refl
