-- Which of the members of a shard are marked.
use Rattle.std.specs.Prelude.{ℕ, ◌^◌, ◌≤◌, ◌<◌, ◌==◌, Bool, ◌||◌}
use Rattle.std.specs.Int.{bit_at}

-- so many members, and a bit for each: one where it is marked
pub record Marks : Type 0 where
  pub members : ℕ
  pub mask : ℕ

abbrev pub members_of : Marks → ℕ
members_of marks = marks.members

abbrev pub is_marked : Marks → ℕ → Bool
is_marked marks member = bit_at marks.mask member == 1

-- marked in one of the two
abbrev pub is_in_either : Marks → Marks → ℕ → Bool
is_in_either marks others member = is_marked marks member || is_marked others member

-- there are at most 16 members, and none but these is marked
pub record IsWithin (members mask : ℕ) : Type 0 where
  pub few : members ≤ 16
  pub below : mask < 2 ^ members
