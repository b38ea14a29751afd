use Rattle.std.proofs.Common.{◌≡◌}
use Rattle.cs_order.specs.Counts.{last_found}
use Rattle.cs_order_rules.specs.Slot.{in_view}
use Rattle.cs_slot.specs.Kept.{seen_in}
use Rattle.cs_slot.proofs.slot.Slot.prepared.Given as goal

abbrev pub invariant-loop-view : goal.invariant-loop-view
invariant-loop-view l = l.last ≡ last_found l.view (λ view. in_view view ((seen_in l.self).confirm view l.self.me))
