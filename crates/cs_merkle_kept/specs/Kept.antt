-- A tree that is kept: keys, the hashes of their leaves, and the levels over these.
use Rattle.std.specs.Prelude.{◌≡◌, ℕ, List, length}
use Rattle.cs_merkle_kept.specs.Levels.{AreLevels, IsHeight}
use Rattle.cs_merkle_kept.specs.Leaves.{AreRising}

-- hashes under rising keys
pub record AreKept (keys hashes : List (List ℕ)) : Type 0 where
  pub long : length keys ≡ length hashes
  pub rising : AreRising keys

pub record IsTree (keys hashes : List (List ℕ)) (above : List (List (List ℕ))) : Type 0 where
  pub kept : AreKept keys hashes
  pub levels : AreLevels hashes above
  pub height : IsHeight (length hashes) (length above)
