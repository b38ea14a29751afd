-- Words, numbers and byte texts are read as what they were.
use Rattle.std.proofs.Common.{◌≡◌, ℕ, zero, suc, ◌+◌, ◌-◌, ◌*◌, ◌<◌, ◌≤◌, ◌^◌, Bool, true, false, cond, not, List, [], ◌∷◌, ◌++◌, length, take, drop, get_or, refl, sym, ap, ◌∙◌, arith, rules, inl, inr}
use Rattle.std.specs.Prelude.{Option, None, Some, ◌==◌, ◌&&◌, ◌||◌, nat_le, nat_lt, if◌then◌else◌, unwrap_or, ◌⊎◌, ◌%◌, ◌/◌}
use Rattle.std.specs.List.{position_or_len}
use Rattle.std.specs.Fmt.{decimal}
use Rattle.std.proofs.lemmas.List.Recursion.{is_position_or_len}
use Rattle.std.proofs.Math.Seq.{take-append_seam, drop-append_seam}
use Rattle.std.proofs.lemmas.Bool.{eqb-true}
use Rattle.std.proofs.lemmas.Bool.Decides.{nat_tests}
use Rattle.std.proofs.lemmas.Str.Parse.{IsNumeralModel, numerals_by_fold}
use Rattle.std.proofs.lemmas.Fmt.{digits_decimal, digits_value-decimal, decimal_digit, decimal_nonempty, first_decimal}
use Rattle.cs_base.specs.Characters.{is_digit}
use Rattle.cs_lang_token.specs.declared.kind.Kind.{Kind}
use Rattle.cs_lang_token.specs.declared.kind.Kind.TheVariants as kind
use Rattle.cs_lang_token.specs.declared.lexeme.Lexeme.{Lexeme}
use Rattle.cs_lang_token.specs.Tokens.{is_blank, is_letter, is_name_character, is_hex, run_length, kind_of_word, name_lexeme, number_from, number_lexeme, hex_value, hex_bytes, is_first, starts, quoted_at, byte_text_at, lexeme_at, sign_at, blank_length}
use Rattle.cs_lang_token.proofs.Spans.{and_first, and_second, and_false, all_pass, run_is, IsWord, AllBytes}
use Rattle.cs_base.specs.Options.{or_else}
use Rattle.cs_lang_print.specs.Words.{hex_digit, hex_text}

-- what may stand behind a token
pub record Ends (b : ℕ) : Type 0 where
  pub no_name : is_name_character b ≡ false
  pub no_quote : (b == 34) ≡ false
  pub no_digit : is_digit b ≡ false

pub space_ends : Ends 32
space_ends = record { no_name = refl; no_quote = refl; no_digit = refl }

pub break_ends : Ends 10
break_ends = record { no_name = refl; no_quote = refl; no_digit = refl }

bool_cases : (b : Bool) → (b ≡ true) ⊎ (b ≡ false)
bool_cases true = inl refl
bool_cases false = inr refl

-- a character that passes isn't one that doesn't
other_than : (test : ℕ → Bool) (c d : ℕ) → test c ≡ true → test d ≡ false → (c == d) ≡ false
other_than test c d pass fail = elim (bool_cases (c == d)) [
  | inl e ↦ (let same : c ≡ d = eqb-true c d e in let t : test c ≡ false = ap test same ∙ fail in absurd cc)
  | inr e ↦ e
]

byte_none : (c : ℕ) (w : List ℕ) (b : ℕ) (rest : List ℕ) → all_pass is_name_character w ≡ true → Ends b → byte_text_at (c ∷ (w ++ b ∷ rest)) ≡ None
byte_none c [] b rest all ends = ap (λ (t : Bool). if t then quoted_at rest else None) (and_false (c == 120) (b == 34) ends.no_quote)
byte_none c (d ∷ w) b rest all ends =
    ap (λ (t : Bool). if t then quoted_at (w ++ b ∷ rest) else None) (and_false (c == 120) (d == 34) (other_than is_name_character d 34 (and_first (is_name_character d) (all_pass is_name_character w) all) refl))

made : ℕ → List ℕ → Lexeme
made n word = record { kind = kind_of_word word; number = 0; bytes = word; length = n }

word_is : (w : List ℕ) (k : Kind) (b : ℕ) (rest : List ℕ) → IsWord w k → Ends b → name_lexeme (w ++ b ∷ rest) ≡ record { kind = k; number = 0; bytes = w; length = length w }
unfolding made
word_is w k b rest is ends =
    let n : run_length is_name_character (take 32 (w ++ b ∷ rest)) ≡ length w = run_is is_name_character w 32 b rest is.all ends.no_name is.short in
    ap (λ (m : ℕ). made m (take m (w ++ b ∷ rest))) n ∙ ap (made (length w)) (take-append_seam w (b ∷ rest)) ∙ ap (λ (x : Kind). of x) is.kind
  where
    of : Kind → Lexeme
    of x = record { kind = x; number = 0; bytes = w; length = length w }

pub lexed_word : (w : List ℕ) (k : Kind) (b : ℕ) (rest : List ℕ) → IsWord w k → Ends b → lexeme_at (w ++ b ∷ rest) ≡ Some (record { kind = k; number = 0; bytes = w; length = length w })
lexed_word [] k b rest is ends = (let e = is.letter in absurd cc)
lexed_word (c ∷ w) k b rest is ends =
    ap (λ (t : Bool). if t then or_else (byte_text_at (c ∷ (w ++ b ∷ rest))) (Some (name_lexeme (c ∷ (w ++ b ∷ rest)))) else (if is_digit c then Some (number_lexeme c (w ++ b ∷ rest)) else sign_at c (w ++ b ∷ rest))) is.letter
    ∙ ap (λ (o : Option Lexeme). or_else o (Some (name_lexeme (c ∷ (w ++ b ∷ rest))))) (byte_none c w b rest (and_second (is_name_character c) (all_pass is_name_character w) is.all) ends)
    ∙ ap (λ (x : Lexeme). some x) (word_is (c ∷ w) k b rest is ends)
  where
    some : Lexeme → Option Lexeme
    some x = Some x

no_blank : (c : ℕ) (cs : List ℕ) → is_blank c ≡ false → (c == 47) ≡ false → blank_length (c ∷ cs) ≡ 0
no_blank c cs e f =
    ap (λ (t : Bool). if t then 1 else (if c == 47 && is_first 47 cs then run_length (λ b. not (b == 10)) (c ∷ cs) else 0)) e
    ∙ ap (λ (t : Bool). if t && is_first 47 cs then run_length (λ b. not (b == 10)) (c ∷ cs) else 0) f

or_false : (a b : Bool) → a ≡ false → b ≡ false → (a || b) ≡ false
or_false true b e f = e
or_false false b e f = f

-- a character that passes a test that neither blanks nor slashes pass
plain_by : (test : ℕ → Bool) (c : ℕ) (cs : List ℕ) → test c ≡ true → test 32 ≡ false → test 9 ≡ false → test 13 ≡ false → test 10 ≡ false → test 47 ≡ false → blank_length (c ∷ cs) ≡ 0
plain_by test c cs pass a b d e f =
    no_blank c cs (or_false (c == 32 || c == 9 || c == 13) (c == 10) (or_false (c == 32 || c == 9) (c == 13) (or_false (c == 32) (c == 9) (other_than test c 32 pass a) (other_than test c 9 pass b)) (other_than test c 13 pass d)) (other_than test c 10 pass e))
    (other_than test c 47 pass f)

pub plain_word : (w : List ℕ) (k : Kind) (b : ℕ) (rest : List ℕ) → IsWord w k → blank_length (w ++ b ∷ rest) ≡ 0
plain_word [] k b rest is = (let e = is.letter in absurd cc)
plain_word (c ∷ w) k b rest is = plain_by is_letter c (w ++ b ∷ rest) is.letter refl refl refl refl refl

pub some_word : (w : List ℕ) (k : Kind) → IsWord w k → 0 < length w
some_word [] k is = (let e = is.letter in absurd cc)
some_word (c ∷ w) k is = omega arith

-- ---- numbers

abbrev all_digits : List ℕ → Bool
all_digits [] = true
all_digits (c ∷ cs) = is_digit c && all_digits cs

abbrev value_on : ℕ → List ℕ → ℕ
value_on n [] = n
value_on n (c ∷ cs) = value_on (10 * n + (c - 48)) cs

own : IsNumeralModel (λ ds. all_digits ds ≡ true) (value_on 0)
own = numerals_by_fold _ (search rules) value_on (search rules)

value_grows : (cs : List ℕ) (n : ℕ) → n ≤ value_on n cs
value_grows [] n = omega arith
value_grows (c ∷ cs) n = (let h = value_grows cs (10 * n + (c - 48)) in omega arith)

counted : ℕ → ℕ → ℕ × ℕ
counted v n = (v, n)

at_most : (n : ℕ) → n ≤ 9223372036854775807 → nat_le n 9223372036854775807 ≡ true
at_most n le = grind (arith, nat_tests)

from_digits : (ds : List ℕ) (v b : ℕ) (rest : List ℕ) → all_digits ds ≡ true → value_on v ds ≤ 9223372036854775807 → is_digit b ≡ false → number_from v (ds ++ b ∷ rest) ≡ (value_on v ds, length ds)
unfolding counted
from_digits [] v b rest all small ends = ap (λ (t : Bool). if t && nat_le (v * 10 + (b - 48)) 9223372036854775807 then (let r = number_from (v * 10 + (b - 48)) rest in (r.0, r.1 + 1)) else (v, 0)) ends
from_digits (c ∷ cs) v b rest all small ends =
    let same : 10 * v + (c - 48) ≡ v * 10 + (c - 48) = omega arith in
    let le : v * 10 + (c - 48) ≤ 9223372036854775807 = (let h = value_grows cs (10 * v + (c - 48)) in omega arith) in
    let less : value_on (v * 10 + (c - 48)) cs ≤ 9223372036854775807 = (let e = ap (λ (k : ℕ). value_on k cs) same in omega arith) in
    ap (λ (t : Bool). if t && nat_le (v * 10 + (c - 48)) 9223372036854775807 then (let r = number_from (v * 10 + (c - 48)) (cs ++ b ∷ rest) in (r.0, r.1 + 1)) else (v, 0)) (and_first (is_digit c) (all_digits cs) all)
    ∙ ap (λ (t : Bool). if t then (let r = number_from (v * 10 + (c - 48)) (cs ++ b ∷ rest) in (r.0, r.1 + 1)) else (v, 0)) (at_most (v * 10 + (c - 48)) le)
    ∙ ap (λ (r : ℕ × ℕ). counted r.0 (r.1 + 1)) (from_digits cs (v * 10 + (c - 48)) b rest (and_second (is_digit c) (all_digits cs) all) less ends)
    ∙ ap (λ (k : ℕ). counted (value_on k cs) (length cs + 1)) (sym same)
    ∙ ap (counted (value_on v (c ∷ cs))) (one_more (length cs))
  where
    one_more : (n : ℕ) → n + 1 ≡ suc n
    one_more n = omega arith

number_made : ℕ → ℕ → Lexeme
number_made v n = record { kind = kind.Number; number = v; bytes = []; length = n }

digit_letter : (c : ℕ) → is_digit c ≡ true → is_letter c ≡ false
digit_letter c e = grind (arith, nat_tests)

lexed_digits : (c : ℕ) (cs : List ℕ) (n b : ℕ) (rest : List ℕ) → all_digits (c ∷ cs) ≡ true → value_on 0 (c ∷ cs) ≡ n → (c ≡ 48 → cs ≡ []) → n ≤ 9223372036854775807 → Ends b
    → number_lexeme c (cs ++ b ∷ rest) ≡ record { kind = kind.Number; number = n; bytes = []; length = suc (length cs) }
unfolding number_made
lexed_digits c cs n b rest all is alone small ends = elim (bool_cases (c == 48)) [
  | inl e ↦
      let zero_is : c ≡ 48 = eqb-true c 48 e in
      let none : cs ≡ [] = alone zero_is in
      let v : 0 ≡ n = sym (ap (λ (l : List ℕ). value_on (10 * 0 + (c - 48)) l) none ∙ ap (λ (k : ℕ). 10 * 0 + (k - 48)) zero_is) ∙ is in
      let one : 1 ≡ suc (length cs) = sym (ap (λ (l : List ℕ). suc (length l)) none) in
      ap (λ (t : Bool). if t then number_made 0 1 else (let r = number_from (c - 48) (cs ++ b ∷ rest) in number_made r.0 (r.1 + 1))) e
      ∙ ap (λ (k : ℕ). number_made k 1) v ∙ ap (number_made n) one
  | inr e ↦
      let same : 10 * 0 + (c - 48) ≡ c - 48 = omega arith in
      let total : value_on (c - 48) cs ≡ n = sym (ap (λ (k : ℕ). value_on k cs) same) ∙ is in
      let few : value_on (c - 48) cs ≤ 9223372036854775807 = omega arith in
      let last : length cs + 1 ≡ suc (length cs) = omega arith in
      ap (λ (t : Bool). if t then number_made 0 1 else (let r = number_from (c - 48) (cs ++ b ∷ rest) in number_made r.0 (r.1 + 1))) e
      ∙ ap (λ (r : ℕ × ℕ). number_made r.0 (r.1 + 1)) (from_digits cs (c - 48) b rest (and_second (is_digit c) (all_digits cs) all) few ends.no_digit)
      ∙ ap (λ (k : ℕ). number_made k (length cs + 1)) total ∙ ap (number_made n) last
]

pub record IsDecimal (ds : List ℕ) (n : ℕ) : Type 0 where
  pub digits : all_digits ds ≡ true
  pub value : value_on 0 ds ≡ n
  pub some : 0 < length ds
  pub alone : get_or ds 0 0 ≡ 48 → length ds ≤ 1

zero_alone : (n : ℕ) → n < 2 ^ 64 → get_or (decimal n) 0 0 ≡ 48 → length (decimal n) ≤ 1
zero_alone zero small first = omega (arith, ap length (decimal_digit 0 (omega arith)))
zero_alone (suc n) small first = absurd (omega (arith, first_decimal (suc n) (omega arith) small))

pub is_decimal : (n : ℕ) → n ≤ 9223372036854775807 → IsDecimal (decimal n) n
is_decimal n le =
    let small : n < 2 ^ 64 = omega arith in
    record {
      digits = digits_decimal own n small;
      value = digits_value-decimal own n small;
      some = decimal_nonempty n small;
      alone = zero_alone n small;
    }

none_left : (cs : List ℕ) → suc (length cs) ≤ 1 → cs ≡ []
none_left [] le = refl
none_left (c ∷ cs) le = absurd (omega (arith, le))

pub lexed_number : (ds : List ℕ) (n b : ℕ) (rest : List ℕ) → IsDecimal ds n → n ≤ 9223372036854775807 → Ends b → lexeme_at (ds ++ b ∷ rest) ≡ Some (record { kind = kind.Number; number = n; bytes = []; length = length ds })
lexed_number [] n b rest is small ends = (let h = is.some in absurd (omega arith))
lexed_number (c ∷ cs) n b rest is small ends =
    let digit : is_digit c ≡ true = and_first (is_digit c) (all_digits cs) is.digits in
    ap (λ (t : Bool). if t then or_else (byte_text_at (c ∷ (cs ++ b ∷ rest))) (Some (name_lexeme (c ∷ (cs ++ b ∷ rest)))) else (if is_digit c then Some (number_lexeme c (cs ++ b ∷ rest)) else sign_at c (cs ++ b ∷ rest))) (digit_letter c digit)
    ∙ ap (λ (t : Bool). if t then Some (number_lexeme c (cs ++ b ∷ rest)) else sign_at c (cs ++ b ∷ rest)) digit
    ∙ ap (λ (x : Lexeme). some x) (lexed_digits c cs n b rest is.digits is.value (λ e. none_left cs (is.alone e)) small ends)
  where
    some : Lexeme → Option Lexeme
    some x = Some x

pub plain_number : (ds : List ℕ) (n b : ℕ) (rest : List ℕ) → IsDecimal ds n → blank_length (ds ++ b ∷ rest) ≡ 0
plain_number [] n b rest is = (let h = is.some in absurd (omega arith))
plain_number (c ∷ cs) n b rest is = plain_by is_digit c (cs ++ b ∷ rest) (and_first (is_digit c) (all_digits cs) is.digits) refl refl refl refl refl

-- ---- byte texts

hex_is : (d : ℕ) → d < 16 → is_hex (hex_digit d) ≡ true
hex_is d lt = grind (arith, nat_tests)

hex_of : (d : ℕ) → d < 16 → hex_value (hex_digit d) ≡ d
hex_of d lt = grind (arith, nat_tests)

high_digit : (b : ℕ) → b < 256 → b / 16 < 16
high_digit b lt = omega arith

low_digit : (b : ℕ) → b % 16 < 16
low_digit b = omega arith

both_digits : (b : ℕ) → b / 16 * 16 + b % 16 ≡ b
both_digits b = omega arith

all_hex : (bs : List ℕ) → AllBytes bs → all_pass is_hex (hex_text bs) ≡ true
all_hex [] all = refl
all_hex (b ∷ bs) all =
    ap (λ (t : Bool). t && (is_hex (hex_digit (b % 16)) && all_pass is_hex (hex_text bs))) (hex_is (b / 16) (high_digit b all.0))
    ∙ ap (λ (t : Bool). t && all_pass is_hex (hex_text bs)) (hex_is (b % 16) (low_digit b)) ∙ all_hex bs all.1

read_hex : (bs : List ℕ) → AllBytes bs → hex_bytes (hex_text bs) ≡ bs
read_hex [] all = refl
read_hex (b ∷ bs) all =
    ap (λ (h : ℕ). (h * 16 + hex_value (hex_digit (b % 16))) ∷ hex_bytes (hex_text bs)) (hex_of (b / 16) (high_digit b all.0))
    ∙ ap (λ (l : ℕ). (b / 16 * 16 + l) ∷ hex_bytes (hex_text bs)) (hex_of (b % 16) (low_digit b))
    ∙ ap (λ (x : ℕ). x ∷ hex_bytes (hex_text bs)) (both_digits b) ∙ ap (λ (l : List ℕ). b ∷ l) (read_hex bs all.1)

length_hex : (bs : List ℕ) → length (hex_text bs) ≡ 2 * length bs
length_hex [] = refl
length_hex (b ∷ bs) = (let h = length_hex bs in omega arith)

even_is : (n : ℕ) → (2 * n) % 2 ≡ 0
even_is n = omega arith

bytes_made : ℕ → List ℕ → Lexeme
bytes_made n bytes = record { kind = kind.Bytes; number = 0; bytes = bytes; length = n }

pub lexed_quoted : (bs : List ℕ) (rest : List ℕ) → AllBytes bs → length bs ≤ 256 → quoted_at (hex_text bs ++ 34 ∷ rest) ≡ Some (record { kind = kind.Bytes; number = 0; bytes = bs; length = length (hex_text bs) + 3 })
unfolding bytes_made
lexed_quoted bs rest all few =
    let text = hex_text bs in
    let len : length (hex_text bs) ≡ 2 * length bs = length_hex bs in
    let short : length (hex_text bs) ≤ 512 = omega arith in
    let n : run_length is_hex (take 512 (hex_text bs ++ 34 ∷ rest)) ≡ length (hex_text bs) = run_is is_hex (hex_text bs) 512 34 rest (all_hex bs all) refl short in
    let even : (length (hex_text bs) % 2 == 0) ≡ true = ap (λ (k : ℕ). k % 2 == 0) len ∙ ap (λ (k : ℕ). k == 0) (even_is (length bs)) in
    ap (λ (k : ℕ). if k % 2 == 0 && is_first 34 (drop k (hex_text bs ++ 34 ∷ rest)) then some (bytes_made (k + 3) (hex_bytes (take k (hex_text bs ++ 34 ∷ rest)))) else None) n
    ∙ ap (λ (t : Bool). if t && is_first 34 (drop (length (hex_text bs)) (hex_text bs ++ 34 ∷ rest)) then some (bytes_made (length (hex_text bs) + 3) (hex_bytes (take (length (hex_text bs)) (hex_text bs ++ 34 ∷ rest)))) else None) even
    ∙ ap (λ (l : List ℕ). if is_first 34 l then some (bytes_made (length (hex_text bs) + 3) (hex_bytes (take (length (hex_text bs)) (hex_text bs ++ 34 ∷ rest)))) else None) (drop-append_seam (hex_text bs) (34 ∷ rest))
    ∙ ap (λ (l : List ℕ). some (bytes_made (length (hex_text bs) + 3) (hex_bytes l))) (take-append_seam (hex_text bs) (34 ∷ rest))
    ∙ ap (λ (l : List ℕ). some (bytes_made (length (hex_text bs) + 3) l)) (read_hex bs all)
  where
    some : Lexeme → Option Lexeme
    some x = Some x
