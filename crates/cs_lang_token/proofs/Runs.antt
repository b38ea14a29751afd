-- How long a run at the front is.
use Rattle.std.proofs.Common.{◌≡◌, ℕ, zero, suc, ◌+◌, ◌<◌, ◌≤◌, Bool, true, false, cond, not, List, [], ◌∷◌, length, take, refl, sym, ap, ◌∙◌, subst, arith}
use Rattle.std.specs.Prelude.{position, unwrap_or, Option, None, Some, ◌||◌}
use Rattle.cs_base.specs.Characters.{is_digit}
use Rattle.cs_lang_token.specs.Tokens.{run_length, starts, is_letter, is_name_character}

some_positive : (b : Bool) (m n : ℕ) → 0 < unwrap_or (cond b (Some (1 + m)) None) (suc n)
some_positive true m n = omega arith
some_positive false m n = omega arith

run_of : (test : ℕ → Bool) (c : ℕ) (cs : List ℕ) (b : Bool) → test c ≡ b → b ≡ true → 0 < run_length test (c ∷ cs)
run_of test c cs true e h = rw e (some_positive _ _ _)
run_of test c cs false e h = absurd cc

letter_name : (c : ℕ) → is_letter c ≡ true → is_name_character c ≡ true
letter_name c e = ap (λ (b : Bool). b || is_digit c) e

-- a word has one character at least
pub word_positive : (bytes : List ℕ) → starts is_letter bytes ≡ true → 0 < run_length is_name_character (take 32 bytes)
word_positive [] e = absurd cc
word_positive (c ∷ cs) e = run_of is_name_character c (take 31 cs) true (letter_name c e) refl
