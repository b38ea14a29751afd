-- Tests on kinds, by computing on the lists of kinds.
use Rattle.std.proofs.Common.{◌≡◌, ℕ, Bool, true, false, cond, eqb, List, [], ◌∷◌, refl, sym, ap, ◌∙◌, subst, inl, inr, arith}
use Rattle.std.specs.Prelude.{◌==◌, if◌then◌else◌, ◌⊎◌}
use Rattle.std.proofs.lemmas.Bool.{eqb-true}
use Rattle.cs_lang_token.specs.declared.kind.Kind.{Kind}
use Rattle.cs_lang_token.specs.Kinds.{code, among, is}
use Rattle.cs_lang_token.proofs.Grammars.{Apart, Covers, Implies, chosen}

-- no kind of the first list is among the second
abbrev pub disjoint : List Kind → List Kind → Bool
disjoint [] ls = true
disjoint (k ∷ ks) ls = if among ls (code k) then false else disjoint ks ls

-- each kind of the first list is among the second
abbrev pub within : List Kind → List Kind → Bool
within [] ls = true
within (k ∷ ks) ls = if among ls (code k) then within ks ls else false

false_not_true : (b : Bool) → b ≡ false → b ≡ true → ⊥
false_not_true b p q = let e : false ≡ true = sym p ∙ q in absurd cc

among_apart : (ks ls : List Kind) (n : ℕ) → disjoint ks ls ≡ true → among ks n ≡ true → among ls n ≡ false
among_apart [] ls n d e = absurd cc
among_apart (k ∷ ks) ls n d e =
    elim (chosen (among ls (code k)) false (disjoint ks ls) true d) [
      | inl (no', h) ↦ absurd cc
      | inr (out, h) ↦ elim (chosen (n == code k) true (among ks n) true e) [
        | inl (same, g) ↦ subst (λ (m : ℕ). among ls m ≡ false) (sym (eqb-true n (code k) same)) out
        | inr (other, g) ↦ among_apart ks ls n h g
      ]
    ]

among_within : (ks ls : List Kind) (n : ℕ) → within ks ls ≡ true → among ks n ≡ true → among ls n ≡ true
among_within [] ls n d e = absurd cc
among_within (k ∷ ks) ls n d e =
    elim (chosen (among ls (code k)) (within ks ls) false true d) [
      | inl (into, h) ↦ elim (chosen (n == code k) true (among ks n) true e) [
        | inl (same, g) ↦ subst (λ (m : ℕ). among ls m ≡ true) (sym (eqb-true n (code k) same)) into
        | inr (other, g) ↦ among_within ks ls n h g
      ]
      | inr (out, h) ↦ absurd cc
    ]

pub kinds_apart : (ks ls : List Kind) → disjoint ks ls ≡ true → Apart (is ks) (is ls)
kinds_apart ks ls d t e = among_apart ks ls (code t.kind) d e

pub kinds_imply : (ks ls : List Kind) → within ks ls ≡ true → Implies (is ks) (is ls)
kinds_imply ks ls d t e = among_within ks ls (code t.kind) d e

by_cases : (a b : Bool) → (b ≡ true → a ≡ true) → a ≡ false → b ≡ false
by_cases a true i e = absurd (let h : a ≡ true = i refl in false_not_true a e h)
by_cases a false i e = refl

pub kinds_cover : (ks ls : List Kind) → within ls ks ≡ true → Covers (is ks) (is ls)
kinds_cover ks ls d t = by_cases (is ks t) (is ls t) (kinds_imply ls ks d t)
