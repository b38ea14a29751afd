-- The view from which on nothing counts, after one more confirm.
use Rattle.std.proofs.Common.{◌≡◌, ℕ, zero, suc, ◌+◌, ◌*◌, ◌==◌, ◌≤◌, ◌<◌, Bool, true, false, ◌&&◌, List, [], Option, None, inl, inr, refl, sym, ap, ◌∙◌, subst, arith}
use Rattle.std.proofs.Math.Path.{fun_ext}
use Rattle.std.proofs.lemmas.Bool.Decides.{eqb_tells}
use Rattle.cs_order.specs.Limits.{view_bound}
use Rattle.cs_order.specs.Counts.{first_below}
use Rattle.cs_order_rules.specs.Slot.{if_enough, quorum}
use Rattle.cs_slot.specs.Kept.{Rows, said_in_view, lookup_with_vote, NothingFrom}
use Rattle.cs_slot.proofs.Adding.{or_none}

-- a view from the new end on is another one
another : (view now v : ℕ) → (view < view_bound → view < now) → now ≤ v → v < view_bound → (view == v) ≡ false
another view now v above late few =
    elim (eqb_tells view v) [
      | inl same ↦ absurd (let e = same.1 in let less = above (omega arith) in omega arith)
      | inr other ↦ other.0
    ]

same_vote : (fresh : Bool) (said : ℕ → ℕ → Option (List ℕ)) (view member : ℕ) (digest : List ℕ) (v m : ℕ) → (view == v) ≡ false → lookup_with_vote fresh said view member digest v m ≡ said v m
same_vote true said view member digest v m other = rw other (or_none (said v m))
same_vote false said view member digest v m other = refl

same_view : (confirms new : Rows) (fresh : Bool) (view member : ℕ) (digest : List ℕ) (v : ℕ) → said_in_view new ≡ lookup_with_vote fresh (said_in_view confirms) view member digest → (view == v) ≡ false → said_in_view new v ≡ said_in_view confirms v
same_view confirms new fresh view member digest v e other =
    ap (λ (found : ℕ → ℕ → Option (List ℕ)). found v) e ∙ fun_ext (λ m. same_vote fresh (said_in_view confirms) view member digest v m other)

pub confirmed_end : (end now f me : ℕ) (confirms new : Rows) (fresh : Bool) (view member : ℕ) (digest : List ℕ) → NothingFrom end f me confirms → end ≤ now → (view < view_bound → view < now) → said_in_view new ≡ lookup_with_vote fresh (said_in_view confirms) view member digest → NothingFrom now f me new
confirmed_end end now f me confirms new fresh view member digest nothing kept above e v late few =
    let old = nothing v (omega arith) few in
    let same = same_view confirms new fresh view member digest v e (another view now v above late few) in
    (ap (λ (said : ℕ → Option (List ℕ)). said me) same ∙ old.0, ap (quorum f) same ∙ old.1)

never : (a : Bool) → (a && false) ≡ false
never true = refl
never false = refl

not_own : (fresh : Bool) (said : ℕ → ℕ → Option (List ℕ)) (view member : ℕ) (digest : List ℕ) (v m : ℕ) → (member == m) ≡ false → said v m ≡ None → lookup_with_vote fresh said view member digest v m ≡ None
not_own true said view member digest v m other none = rw (none, other, never (view == v)) refl
not_own false said view member digest v m other none = none

-- a confirm of another member, where no 2f+1 agree with it
pub confirmed_less : (end f me : ℕ) (confirms new : Rows) (fresh : Bool) (view member : ℕ) (digest : List ℕ) → NothingFrom end f me confirms → (member == me) ≡ false → quorum f (said_in_view new view) ≡ None → said_in_view new ≡ lookup_with_vote fresh (said_in_view confirms) view member digest → NothingFrom end f me new
confirmed_less end f me confirms new fresh view member digest nothing other none e v late few =
    let old = nothing v late few in
    let own = ap (λ (found : ℕ → ℕ → Option (List ℕ)). found v me) e ∙ not_own fresh (said_in_view confirms) view member digest v me other old.0 in
    elim (eqb_tells view v) [
      | inl same ↦ (own, subst (λ w. quorum f (said_in_view new w) ≡ None) same.1 none)
      | inr differ ↦ (own, ap (quorum f) (same_view confirms new fresh view member digest v e differ.0) ∙ old.1)
    ]

-- Where no member confirmed, no 2f+1 agree.
none_agree : (n f : ℕ) (said : ℕ → Option (List ℕ)) → ((m : ℕ) → said m ≡ None) → first_below n (λ m. if_enough f said (said m)) ≡ None
unfolding first_below
none_agree zero f said none = refl
none_agree (suc n) f said none = rw (none n, none_agree n f said none) refl

pub nothing_yet : (f me : ℕ) (confirms : Rows) → confirms ≡ [] → NothingFrom 0 f me confirms
nothing_yet f me confirms none v late few = rw none (refl, none_agree (3 * f + 1) f (λ m. None) (λ m. refl))

pub nobody_agrees : (f : ℕ) (said : ℕ → Option (List ℕ)) → ((m : ℕ) → said m ≡ None) → None ≡ quorum f said
nobody_agrees f said none = sym (none_agree (3 * f + 1) f said none)
