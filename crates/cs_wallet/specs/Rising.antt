-- Entries whose numbers rise.
use Rattle.std.specs.Prelude.{ℤ, Bool, true, ◌&&◌, int_lt, List, [], ◌∷◌}
use Rattle.cs_wallet.specs.declared.entry.Entry.{Entry}

-- each number is above the one before it, and the first one above this
abbrev pub rise_from : ℤ → List Entry → Bool
rise_from last [] = true
rise_from last (entry ∷ entries) = int_lt last entry.number && rise_from entry.number entries
