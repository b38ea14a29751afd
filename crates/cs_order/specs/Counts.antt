-- Counts and searches over the numbers below a bound.
use Rattle.std.specs.Prelude.{ℕ, zero, suc, ◌+◌, Bool, false, ◌||◌, if◌then◌else◌, Option, Some, None}
use Rattle.cs_base.specs.Options.{or_else}

-- the value, where the test holds
abbrev pub when : {A : Type 0} → Bool → Option A → Option A
when {A} b o = if b then o else None

-- how many of the numbers below pass the test
unfoldable pub count_below : ℕ → (ℕ → Bool) → ℕ
count_below zero p = 0
count_below (suc n) p = (if p n then 1 else 0) + count_below n p

unfoldable pub any_below : ℕ → (ℕ → Bool) → Bool
any_below zero test = false
any_below (suc n) test = test n || any_below n test

-- what is found at the least of the numbers below
unfoldable pub first_below : {A : Type 0} → ℕ → (ℕ → Option A) → Option A
first_below zero found = None
first_below (suc n) found = or_else (first_below n found) (found n)

-- the greatest of the numbers below that passes the test
unfoldable pub last_below : ℕ → (ℕ → Bool) → Option ℕ
last_below zero test = None
last_below (suc n) test = if test n then Some n else last_below n test

-- what is found at the greatest of the numbers below
unfoldable pub last_found : {A : Type 0} → ℕ → (ℕ → Option A) → Option A
last_found zero found = None
last_found (suc n) found = or_else (found n) (last_found n found)
