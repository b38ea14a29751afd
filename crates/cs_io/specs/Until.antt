-- How long inputs are taken.
use Rattle.std.specs.Prelude.{◌⊎◌, ℕ, ◌-◌, ◌^◌, ◌≤◌, Bool, List, [], ◌∷◌, length, count_by}
use Rattle.cs_io.specs.declared.until.Until.{Until}
use Rattle.cs_io.specs.declared.until.Until.TheVariants.{Turns, Ticks}

-- it is over after so many inputs, of which so many are ticks
abbrev pub IsOver : Until → ℕ → ℕ → Type 0
IsOver (Turns most) inputs ticks = most ≤ inputs
IsOver (Ticks most) inputs ticks = (most ≤ ticks) ⊎ (2 ^ 64 - 1 ≤ inputs)

-- ---- inputs that were taken, the newest first

-- they are enough
abbrev pub AreEnough : {A : Type 0} → (A → Bool) → Until → List A → Type 0
AreEnough {A} is_tick until inputs = IsOver until (length inputs) (count_by is_tick inputs)

-- none is too many: those before the last weren't enough
abbrev pub AreNeeded : {A : Type 0} → (A → Bool) → Until → List A → Type 0
AreNeeded {A} is_tick until [] = Unit {0}
AreNeeded {A} is_tick until (input ∷ past) = AreEnough is_tick until past → ⊥
