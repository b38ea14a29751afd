-- What is known of inputs that were taken, by how long they were to be taken.
use Rattle.std.proofs.Common.{◌≡◌, ℕ, ◌≤◌, Bool, List, [], ◌∷◌, length, arith}
use Rattle.cs_io.specs.declared.until.Until.TheVariants.{Turns}
use Rattle.cs_io.specs.Until.{AreEnough, AreNeeded}

-- by turns, at most so many inputs are taken
pub few-by-turns : {A : Type 0} (is_tick : A → Bool) (most : ℕ) (inputs : List A) → AreNeeded is_tick (Turns most) inputs → length inputs ≤ most
few-by-turns is_tick most [] needed = omega arith
few-by-turns is_tick most (input ∷ past) needed = omega (arith, needed)

-- they are enough where they are so many
pub all-by-turns : {A : Type 0} (is_tick : A → Bool) (most : ℕ) (inputs : List A) → AreNeeded is_tick (Turns most) inputs → AreEnough is_tick (Turns most) inputs → length inputs ≡ most
all-by-turns is_tick most inputs needed enough = let few = few-by-turns is_tick most inputs needed in omega arith
