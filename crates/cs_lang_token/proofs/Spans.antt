-- How many characters at the front of a text pass a test; words and bytes.
use Rattle.std.proofs.Common.{◌≡◌, ℕ, zero, suc, ◌+◌, ◌<◌, ◌≤◌, Bool, true, false, cond, not, List, [], ◌∷◌, ◌++◌, length, take, refl, sym, ap, ◌∙◌, arith}
use Rattle.std.specs.Prelude.{Option, None, Some, ◌&&◌, nat_lt, if◌then◌else◌, unwrap_or}
use Rattle.std.specs.List.{position_or_len}
use Rattle.std.proofs.lemmas.List.Recursion.{is_position_or_len}
use Rattle.std.proofs.lemmas.Bool.Decides.{nat_tests}
use Rattle.cs_lang_token.specs.declared.kind.Kind.{Kind}
use Rattle.cs_lang_token.specs.Tokens.{is_letter, is_name_character, run_length, kind_of_word, starts}

pub and_first : (a b : Bool) → (a && b) ≡ true → a ≡ true
and_first true b e = refl
and_first false b e = e

pub and_second : (a b : Bool) → (a && b) ≡ true → b ≡ true
and_second true b e = e
and_second false b e = absurd cc

pub and_false : (a b : Bool) → b ≡ false → (a && b) ≡ false
and_false true b e = e
and_false false b e = refl

-- ---- how many at the front pass

abbrev pub all_pass : (ℕ → Bool) → List ℕ → Bool
all_pass test [] = true
all_pass test (c ∷ cs) = test c && all_pass test cs

front : (ℕ → Bool) → List ℕ → ℕ
front test [] = 0
front test (x ∷ xs) = if test x then suc (front test xs) else 0

one_front : (b : Bool) (n : ℕ) → (if b then suc n else 0) ≡ cond (not b) 0 (1 + n)
one_front true n = omega arith
one_front false n = refl

front_most : (test : ℕ → Bool) (xs : List ℕ) → front test xs ≤ length xs
unfolding front
front_most test [] = omega arith
front_most test (x ∷ xs) = most (test x) (front test xs) (length xs) (front_most test xs)
  where
    most : (b : Bool) (n l : ℕ) → n ≤ l → (if b then suc n else 0) ≤ suc l
    most true n l le = omega arith
    most false n l le = omega arith

unwrapped : (a n : ℕ) → a ≤ n → unwrap_or (cond (nat_lt a n) (Some a) None) n ≡ a
unwrapped a n le = grind (arith, nat_tests)

run_front : (test : ℕ → Bool) (xs : List ℕ) → run_length test xs ≡ front test xs
unfolding front
run_front test xs =
    let is : front test xs ≡ position_or_len (λ c. not (test c)) xs = is_position_or_len (front test) (λ c. not (test c)) refl (λ x ys. one_front (test x) (front test ys)) xs in
    ap (λ (k : ℕ). unwrap_or (cond (nat_lt k (length xs)) (Some k) None) (length xs)) (sym is) ∙ unwrapped (front test xs) (length xs) (front_most test xs)

front_is : (test : ℕ → Bool) (w : List ℕ) (m b : ℕ) (rest : List ℕ) → all_pass test w ≡ true → test b ≡ false → length w ≤ m → front test (take m (w ++ b ∷ rest)) ≡ length w
unfolding front
front_is test [] zero b rest all stops le = refl
front_is test [] (suc m) b rest all stops le = ap (λ (t : Bool). if t then suc (front test (take m rest)) else 0) stops
front_is test (c ∷ w) zero b rest all stops le = absurd (omega (arith, le))
front_is test (c ∷ w) (suc m) b rest all stops le =
    ap (λ (t : Bool). if t then suc (front test (take m (w ++ b ∷ rest))) else 0) (and_first (test c) (all_pass test w) all)
    ∙ ap suc (front_is test w m b rest (and_second (test c) (all_pass test w) all) stops (omega (arith, le)))

pub run_is : (test : ℕ → Bool) (w : List ℕ) (m b : ℕ) (rest : List ℕ) → all_pass test w ≡ true → test b ≡ false → length w ≤ m → run_length test (take m (w ++ b ∷ rest)) ≡ length w
run_is test w m b rest all stops le = run_front test (take m (w ++ b ∷ rest)) ∙ front_is test w m b rest all stops le

-- no more than there are
pub run_most : (test : ℕ → Bool) (xs : List ℕ) → run_length test xs ≤ length xs
run_most test xs = (let most = front_most test xs in let is = run_front test xs in omega (arith, is, most))

front_goes : (test : ℕ → Bool) (m x : ℕ) (xs : List ℕ) (b : Bool) → test x ≡ b → all_pass test (take (front test (take m xs)) xs) ≡ true → all_pass test (take (if b then suc (front test (take m xs)) else 0) (x ∷ xs)) ≡ true
front_goes test m x xs true is rest = ap (λ (t : Bool). t && all_pass test (take (front test (take m xs)) xs)) is ∙ rest
front_goes test m x xs false is rest = refl

all_front : (test : ℕ → Bool) (m : ℕ) (xs : List ℕ) → all_pass test (take (front test (take m xs)) xs) ≡ true
unfolding front
all_front test zero xs = refl
all_front test (suc m) [] = refl
all_front test (suc m) (x ∷ xs) = front_goes test m x xs (test x) refl (all_front test m xs)

-- what was taken passes
pub all_run : (test : ℕ → Bool) (m : ℕ) (xs : List ℕ) → all_pass test (take (run_length test (take m xs)) xs) ≡ true
all_run test m xs = ap (λ (k : ℕ). all_pass test (take k xs)) (run_front test (take m xs)) ∙ all_front test m xs

-- and begins with the first that passes
pub starts_run : (test begin : ℕ → Bool) (m x : ℕ) (xs : List ℕ) → test x ≡ true → begin x ≡ true → starts begin (take (run_length test (take (suc m) (x ∷ xs))) (x ∷ xs)) ≡ true
unfolding front
starts_run test begin m x xs pass is =
    ap (λ (k : ℕ). starts begin (take k (x ∷ xs))) (run_front test (take (suc m) (x ∷ xs)) ∙ ap (λ (t : Bool). if t then suc (front test (take m xs)) else 0) pass) ∙ is

-- ---- words

pub record IsWord (w : List ℕ) (k : Kind) : Type 0 where
  pub letter : starts is_letter w ≡ true
  pub all : all_pass is_name_character w ≡ true
  pub short : length w ≤ 32
  pub kind : kind_of_word w ≡ k

abbrev pub AllBytes : List ℕ → Type 0
AllBytes [] = Unit {0}
AllBytes (b ∷ bs) = (b < 256) × AllBytes bs
