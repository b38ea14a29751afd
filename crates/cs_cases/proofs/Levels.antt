-- What values read as, by whether they are lists and how deep these may be.
use Rattle.std.proofs.Common.{◌≡◌, ℕ, zero, suc, ◌-◌, ◌<◌, true, false, List, [], ◌∷◌, refl, arith, sub-one}
use Rattle.std.specs.Prelude.{Err}
use Rattle.cs_lang_token.specs.declared.token.Token.{Token}
use Rattle.cs_lang_token.specs.declared.kind.Kind.TheVariants as kind
use Rattle.cs_lang_token.specs.Kinds.{is}
use Rattle.cs_lang_token.specs.Grammar.{begins}
use Rattle.cs_cases.specs.Grammar.{plain_level, listed, value_level}

pub value_other : (left : ℕ) (ts : List Token) → begins (is (kind.OpenList ∷ [])) ts ≡ false → value_level left ts ≡ plain_level ts
unfolding value_level
value_other zero ts at = rw at refl
value_other (suc left) ts at = rw at refl

pub value_none : (left : ℕ) (ts : List Token) → left ≡ 0 → begins (is (kind.OpenList ∷ [])) ts ≡ true → value_level left ts ≡ Err ts
unfolding value_level
value_none zero ts is at = rw at refl
value_none (suc left) ts is at = absurd (omega (arith, is))

pub value_listed : (left : ℕ) (ts : List Token) → 0 < left → begins (is (kind.OpenList ∷ [])) ts ≡ true → value_level left ts ≡ listed (value_level (left - 1)) ts
unfolding value_level
value_listed zero ts lt at = absurd (omega (arith, lt))
value_listed (suc left) ts lt at = rw (at, sub-one) refl

pub ruleset value_is = (value_other, value_none, value_listed)
