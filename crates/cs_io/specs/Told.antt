-- What the calls of the outside do to a meaning that their object may tell or not.
use Rattle.std.specs.Prelude.{◌≡◌, Option, Some, None}

-- what was told is still told, and has changed so
abbrev pub Changes : {A : Type 0} → (A → A → Type 0) → Option A → Option A → Type 0
Changes Step None new = Unit {0}
Changes Step (Some before) None = ⊥
Changes Step (Some before) (Some now) = Step before now

-- what was told is still told, and is the same
abbrev pub Stays : {A : Type 0} → Option A → Option A → Type 0
Stays None new = Unit {0}
Stays (Some before) None = ⊥
Stays (Some before) (Some now) = now ≡ before
