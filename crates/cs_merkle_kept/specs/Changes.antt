-- What changed on a level: the hashes at some places, and all from one place on.
use Rattle.std.specs.Prelude.{◌≡◌, ℕ, ◌+◌, ◌/◌, ◌<◌, ◌≤◌, nat_lt, if◌then◌else◌, List, [], ◌∷◌, length, take, map, slice_index, slice_index_or}
use Rattle.cs_merkle_kept.specs.Levels.{parents, AreLevels, IsHeight}

-- none of the places from an index on is this one
abbrev pub SparesFrom : ℕ → List ℕ → ℕ → Type 0
SparesFrom from places place =
    (i : ℕ) → from ≤ i → i < length places → slice_index places i ≡ place → ⊥

abbrev pub Spares : List ℕ → ℕ → Type 0
Spares = SparesFrom 0

-- only the hashes at these places changed, and those from the first new one on
pub record IsChanged (old new : List (List ℕ)) (places : List ℕ) (first : ℕ) : Type 0 where
  pub reach : first ≤ length old
  pub whole : length new ≤ first → length old ≡ length new
  pub same : (i : ℕ) → i < first → Spares places i →
      slice_index_or new i [] ≡ slice_index_or old i []

-- how many nodes of the level above stand before those that are to be made anew
abbrev pub kept_above : ℕ → ℕ → ℕ
kept_above first count = if nat_lt first count then first / 2 else (count + 1) / 2

abbrev pub halved : List ℕ → List ℕ
halved places = map (λ place. place / 2) places

-- The levels over the hashes that were, as far as they are kept over so many now.
abbrev pub AreOld : List (List ℕ) → List (List (List ℕ)) → ℕ → ℕ → Type 0
AreOld old [] count first = Unit {0}
AreOld old (level ∷ levels) count first =
    let kept = kept_above first count in
    (kept ≤ length level) × (take kept level ≡ take kept (parents old))
    × AreOld (parents old) levels ((count + 1) / 2) kept

pub record IsStale (below : List (List ℕ)) (levels : List (List (List ℕ))) (places : List ℕ) (first : ℕ)
    : Type 0 where
  pub old : List (List ℕ)
  pub changed : IsChanged old below places first
  pub kept : AreOld old levels (length below) first

-- levels that were over hashes before they changed
pub record WereOver (hashes : List (List ℕ)) (levels : List (List (List ℕ))) (places : List ℕ) (first : ℕ)
    : Type 0 where
  pub old : List (List ℕ)
  pub over : AreLevels old levels
  pub height : IsHeight (length old) (length levels)
  pub changed : IsChanged old hashes places first
  pub more : length old ≤ length hashes
