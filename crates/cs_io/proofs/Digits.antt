-- Numbers of few digits.
use Rattle.std.proofs.Common.{◌≡◌, ℕ, ◌<◌, ◌≤◌, ◌^◌, true, List, length, Result, Ok, arith, rules}
use Rattle.std.specs.List.{list_all}
use Rattle.std.specs.Str.Parse.{digits_value, ParsesUnsigned}
use Rattle.std.proofs.lemmas.Str.Parse.{IsDigitsTest, IsNumeralModel, numerals_by_value, parse_gives, digits_value_short}
use Rattle.cs_base.specs.Characters.{is_digit}

digits : IsDigitsTest (λ ds. list_all is_digit ds ≡ true)
digits = search rules

own : IsNumeralModel (λ ds. list_all is_digit ds ≡ true) (digits_value 10)
own = numerals_by_value (λ ds. list_all is_digit ds ≡ true) digits

-- such a word is parsed
pub parsed : {E : Type 0} (word : List ℕ) (r : Result ℕ E) → ParsesUnsigned 64 10 word r → list_all is_digit word ≡ true → 0 < length word → length word ≤ 18 → r ≡ Ok (digits_value 10 word)
parsed {E} word r parses all some few =
    let low : digits_value 10 word < 10 ^ 18 = digits_value_short own word 18 all few in
    parse_gives own 64 word r parses all some (omega (arith, low))
