-- What a crash may leave of the file of a disk in memory.
use Rattle.std.specs.Prelude.{◌≡◌, ◌⊎◌, ℕ, List, [], ◌∷◌, drop}
use Rattle.cs_disk.specs.declared.state.State.{State}
use Rattle.cs_disk.specs.Disk.{Torn}

-- any bytes in each of these ranges, the oldest first, and else what was synced
abbrev pub Tears : List ℕ → List (ℕ × ℕ) → List ℕ → Type 0
Tears synced [] c = c ≡ synced
Tears synced (range ∷ ranges) c = (d : List ℕ) × Torn range.0 range.1 synced d × Tears d ranges c

-- the content, or that
abbrev pub Leaves : State → List ℕ → Type 0
Leaves s c = (c ≡ s.content) ⊎ Tears s.synced s.unsynced c

-- in one of these states
abbrev pub LeftIn : List State → List ℕ → Type 0
LeftIn [] c = ⊥
LeftIn (s ∷ states) c = Leaves s c ⊎ LeftIn states c

-- in this state, or in one of those behind the first t of the past
abbrev pub LeftSince : List State → State → ℕ → List ℕ → Type 0
LeftSince past s t c = Leaves s c ⊎ LeftIn (drop t past) c
