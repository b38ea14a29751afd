-- The terms in which laws of a member are said.
use Rattle.std.specs.Prelude.{◌≡◌, ◌≤◌, ◌<◌, ◌⊎◌}
use Rattle.cs_order.specs.Deeds.{Deed, Took_in, Advanced, Echoed, Proposing, Ticked, Resent, Replied, Cut}
use Rattle.cs_order_rules.specs.declared.message.OrderMessage.{OrderMessage}
use Rattle.cs_order_rules.specs.Facts.{Sight, open_slot, slot_of_message, view_of_message}

-- the deeds by which a caller's loop goes on
abbrev pub IsRule : Deed OrderMessage → Type 0
IsRule (Took_in from m) = ⊥
IsRule (Advanced x sent) = Unit {0}
IsRule (Echoed sent) = Unit {0}
IsRule (Proposing e sent) = Unit {0}
IsRule (Ticked due sent) = ⊥
IsRule (Resent sent) = ⊥
IsRule (Replied slot to sent) = ⊥
IsRule (Cut slot) = ⊥

-- the message is not beyond the member's slot and view
abbrev pub IsWithinReach : Sight → OrderMessage → Type 0
IsWithinReach s m = (slot_of_message m < open_slot s) ⊎ ((slot_of_message m ≡ open_slot s) × (view_of_message m ≤ s.view))
