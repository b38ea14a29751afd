-- The children of a spawner, and what its calls do to them.
use Rattle.std.specs.Prelude.{◌≡◌, ℕ, ◌+◌, ◌-◌, ◌^◌, min, Bool, false, ◌||◌, ◌==◌, List, [], ◌∷◌, ◌++◌, length, slice_index_or, Option, IfSome}
use Rattle.std.specs.List.{list_any}
use Rattle.cs_io.specs.Told.{Changes, Stays}
use Rattle.cs_io.specs.declared.spawner.Started.{Started}
use Rattle.cs_io.specs.declared.spawner.Started.TheVariants as started
use Rattle.cs_io.specs.declared.spawner.Waited.{Waited}
use Rattle.cs_io.specs.declared.spawner.Waited.TheVariants.{Ended, Failed}

-- the words of each child, by its number
abbrev pub Children : Type 0
Children = List (List (List ℕ))

-- a child of these words was started, with the number of its place; or none was
abbrev pub SpawnerStarts : Option Children → Option Children → List (List ℕ) → Started → Type 0
SpawnerStarts old new words (started.Started n) =
    Changes (λ before now. (n ≡ length before) × (now ≡ before ++ words ∷ [])) old new
SpawnerStarts old new words started.Failed = Stays old new
SpawnerStarts old new words started.Memory = Stays old new

-- how many children there are, one more or as many
abbrev pub children_after : ℕ → Started → ℕ
children_after before (started.Started n) = before + 1
children_after before started.Failed = before
children_after before started.Memory = before

-- how many starts gave no child, one more or as many
abbrev pub unstarted_after : ℕ → Started → ℕ
unstarted_after before (started.Started n) = before
unstarted_after before started.Failed = min (before + 1) (2 ^ 64 - 1)
unstarted_after before started.Memory = min (before + 1) (2 ^ 64 - 1)

-- a wait gave the status of that child, or nothing
abbrev pub Waits : Option (ℕ → ℕ) → ℕ → Waited → Type 0
Waits statuses number (Ended status) = IfSome statuses (λ status_of. status ≡ status_of number)
Waits statuses number Failed = Unit {0}

-- the children of these numbers were told to end, and no others
abbrev pub EndsThese : List ℕ → (ℕ → Bool) → (ℕ → Bool) → Type 0
EndsThese numbers before now = (n : ℕ) → now n ≡ (before n || list_any (λ number. number == n) numbers)

-- the flag of each child; one that isn't there counts as false
abbrev pub flag_of : List Bool → ℕ → Bool
flag_of flags number = slice_index_or flags number false
