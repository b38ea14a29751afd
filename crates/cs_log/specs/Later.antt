-- The slots above the open one.
use Rattle.std.specs.Prelude.{◌≡◌, ◌≢◌, ℕ, ◌+◌, ◌*◌, ◌≤◌, ◌<◌, true, List, [], ◌∷◌}
use Rattle.cs_order_rules.specs.declared.message.OrderMessage.{OrderMessage}
use Rattle.cs_order_rules.specs.Facts.{Facts, Sight, slot_of_message}
use Rattle.cs_order_open.specs.Shows.{KeptOpenSlot, ShowsSlot, led}

-- nothing was taken of this slot, or of a later one
abbrev pub NoneFrom : ℕ → Facts → Type 0
NoneFrom n [] = Unit {0}
NoneFrom n (fact ∷ facts) = (slot_of_message fact.1 < n) × NoneFrom n facts

-- the slots from this one on show what was taken of them, and of those behind them nothing was taken
abbrev pub ShowLater : List KeptOpenSlot → Sight → ℕ → Type 0
ShowLater [] s n = NoneFrom n s.taken
ShowLater (k ∷ later) s n = ShowsSlot k s n 0 × ShowLater later s (n + 1)

-- a slot may take another member's message
pub record MayTake (k : KeptOpenSlot) (from : ℕ) (m : OrderMessage) : Type 0 where
  pub member : from ≤ 3 * k.slot.f
  pub other : from ≢ k.slot.me
  pub slot : slot_of_message m ≡ k.slot.n
  pub leads : led k.slot.f from m ≡ true
