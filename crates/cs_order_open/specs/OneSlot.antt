-- What was taken of one slot.
use Rattle.std.specs.Prelude.{ℕ, ◌==◌, if◌then◌else◌, [], ◌∷◌}
use Rattle.cs_order_rules.specs.Facts.{Facts, slot_of_message}

-- the messages of this slot
abbrev pub at_slot : ℕ → Facts → Facts
at_slot n [] = []
at_slot n (fact ∷ facts) = if slot_of_message fact.1 == n then fact ∷ at_slot n facts else at_slot n facts
