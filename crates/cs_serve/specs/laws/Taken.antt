-- Inputs that are taken one after the other, by how long they are to be taken.
use Rattle.std.proofs.Common.{◌≡◌, ℕ, ◌+◌, ◌≤◌, Bool, true, false, cond, List, [], ◌∷◌, ◌++◌, length, ap, sym, subst, ◌∙◌, arith}
use Rattle.std.specs.Prelude.{count_by}
use Rattle.std.specs.Int.{from_bool}
use Rattle.std.proofs.lemmas.List.Sums.{sum_by-cons}
use Rattle.cs_io.specs.declared.until.Until.{Until}
use Rattle.cs_io.specs.Until.{IsOver, AreEnough, AreNeeded}

-- one tick more, or none
pub ticks-more : {A : Type 0} (is_tick : A → Bool) (input : A) (past : List A) (ticks more : ℕ) (ticked : Bool) → count_by is_tick past ≡ ticks → ticked ≡ is_tick input → more ≡ from_bool ticked → count_by is_tick (input ∷ past) ≡ ticks + more
ticks-more {A} is_tick input past ticks more ticked is same counted =
    sum_by-cons (λ x. cond (is_tick x) 1 0) input past ∙ ap (λ (b : Bool). cond b 1 0 + count_by is_tick past) (sym same) ∙ by ticked counted
  where
    by : (ticked : Bool) → more ≡ from_bool ticked → cond ticked 1 0 + count_by is_tick past ≡ ticks + more
    by true counted = omega arith
    by false counted = omega arith

-- they are enough, by counts that are theirs
pub over-by : {A : Type 0} (is_tick : A → Bool) (until : Until) (inputs : List A) (turns ticks : ℕ) → length inputs ≡ turns → count_by is_tick inputs ≡ ticks → IsOver until turns ticks → AreEnough is_tick until inputs
over-by is_tick until inputs turns ticks all ticked over =
    subst (λ (n : ℕ). IsOver until n (count_by is_tick inputs)) (sym all) (subst (λ (n : ℕ). IsOver until turns n) (sym ticked) over)

pub still-by : {A : Type 0} (is_tick : A → Bool) (until : Until) (inputs : List A) (turns ticks : ℕ) → length inputs ≡ turns → count_by is_tick inputs ≡ ticks → (IsOver until turns ticks → ⊥) → AreEnough is_tick until inputs → ⊥
still-by is_tick until inputs turns ticks all ticked still enough =
    still (subst (λ (n : ℕ). IsOver until n ticks) all (subst (λ (n : ℕ). IsOver until (length inputs) n) ticked enough))

-- one input more at most
pub needed-more : {A : Type 0} (is_tick : A → Bool) (until : Until) (later first : List A) → length later ≤ 1 → AreNeeded is_tick until first → (AreEnough is_tick until first → ⊥) → AreNeeded is_tick until (later ++ first)
needed-more is_tick until [] first few needed still = needed
needed-more is_tick until (input ∷ []) first few needed still = still
needed-more is_tick until (input ∷ next ∷ later) first few needed still = absurd (omega arith)

-- no more ticks than inputs
pub few-more : (turns ticks more : ℕ) (ticked : Bool) → more ≡ from_bool ticked → ticks ≤ turns → ticks + more ≤ turns + 1
few-more turns ticks more true is few = omega arith
few-more turns ticks more false is few = omega arith
