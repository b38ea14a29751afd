-- What the flags of children tell of each child.
use Rattle.std.proofs.Common.{◌≡◌, ℕ, ◌≤◌, Bool, false, List, length, arith}
use Rattle.std.proofs.lemmas.List.{get_or_past}
use Rattle.cs_io.specs.Spawner.{flag_of}

-- a flag that isn't there counts as false
pub spared_past : (flags : List Bool) (children n : ℕ) → length flags ≡ children → children ≤ n → flag_of flags n ≡ false
spared_past flags children n same past = get_or_past flags n false (omega arith)
