-- The checkpoint of a member at its place among those that were told.
use Rattle.std.proofs.Common.{◌≡◌, ℕ, zero, suc, ◌==◌, ◌<◌, true, false, [], ◌∷◌, ◌++◌, length, get_or, set, Some, None, refl, sym, ap, ◌∙◌, arith}
use Rattle.std.specs.Prelude.{Bool, position}
use Rattle.std.proofs.lemmas.Bool.{eqb-true}
use Rattle.std.proofs.lemmas.List.Quantifiers.{position-Some}
use Rattle.std.proofs.lemmas.List.Sums.{fails_before_first}
use Rattle.cs_base.proofs.Lines.{past_end}
use Rattle.cs_tx_types.specs.declared.checkpoint.Checkpoint.{Checkpoint}
use Rattle.cs_check_rules.specs.Heads.{Heads, head_under, with_head}

module _ (index : ℕ) where
  pub under_is : (heads : Heads) (place : ℕ) (d : ℕ × Checkpoint) → place < length heads →
      ((get_or heads place d).0 == index) ≡ true →
      ((k : ℕ) → k < place → ((get_or heads k d).0 == index) ≡ false) →
      head_under index heads ≡ Some (get_or heads place d).1
  under_is [] place d within here before = absurd (omega (arith, within))
  under_is (told ∷ more) zero d within here before = rw here refl
  under_is (told ∷ more) (suc place) d within here before =
      rw (before zero (omega arith))
      (under_is more place d (omega (arith, within)) here (λ k less. before (suc k) (omega (arith, less))))

  pub replaced : (c : Checkpoint) (heads : Heads) (place : ℕ) (d : ℕ × Checkpoint) → place < length heads →
      ((get_or heads place d).0 == index) ≡ true →
      ((k : ℕ) → k < place → ((get_or heads k d).0 == index) ≡ false) →
      with_head index c heads ≡ set heads place (index, c)
  replaced c [] place d within here before = absurd (omega (arith, within))
  replaced c (told ∷ more) zero d within here before = rw here refl
  replaced c (told ∷ more) (suc place) d within here before =
      rw (before zero (omega arith))
      (ap (λ (heads : Heads). told ∷ heads)
      (replaced c more place d (omega (arith, within)) here (λ k less. before (suc k) (omega (arith, less)))))

  -- no checkpoint stands under the index
  abbrev pub IsAbsent : Heads → Type 0
  IsAbsent heads = (k : ℕ) (d : ℕ × Checkpoint) → k < length heads → ((get_or heads k d).0 == index) ≡ false

  pub none_under : (heads : Heads) → IsAbsent heads → head_under index heads ≡ None
  none_under [] absent = refl
  none_under (told ∷ more) absent =
      rw (absent zero told (omega arith)) (none_under more (λ k d less. absent (suc k) d (omega (arith, less))))

  pub appended : (c : Checkpoint) (heads : Heads) → IsAbsent heads →
      with_head index c heads ≡ heads ++ (index, c) ∷ []
  appended c [] absent = refl
  appended c (told ∷ more) absent =
      rw (absent zero told (omega arith))
      (ap (λ (heads : Heads). told ∷ heads) (appended c more (λ k d less. absent (suc k) d (omega (arith, less)))))

  -- ---- where a search ended

  abbrev pub is_own : ℕ × Checkpoint → Bool
  is_own told = told.0 == index

  pub found : (heads : Heads) (place : ℕ) (last : ℕ × Checkpoint) → position is_own heads ≡ Some place →
      last ≡ get_or heads place last → head_under index heads ≡ Some last.1
  found heads place last at read =
      let (within, here, before) = position-Some is_own heads place last at in
      under_is heads place last within here before ∙ ap (λ (told : ℕ × Checkpoint). Some told.1) (sym read)

  pub changed : (c : Checkpoint) (heads : Heads) (place : ℕ) (last : ℕ × Checkpoint) → position is_own heads ≡ Some place →
      last ≡ get_or heads place last → with_head index c heads ≡ set heads place (last.0, c)
  changed c heads place last at read =
      let (within, here, before) = position-Some is_own heads place last at in
      let own : last.0 ≡ index = ap (λ (told : ℕ × Checkpoint). told.0) read ∙ eqb-true _ _ here in
      replaced c heads place last within here before ∙ ap (λ (i : ℕ). set heads place (i, c)) (sym own)

  pub is_absent : (heads : Heads) → position is_own heads ≡ None → IsAbsent heads
  is_absent heads none = λ k d within.
      fails_before_first is_own heads k d (omega (arith, within, past_end is_own heads none))
