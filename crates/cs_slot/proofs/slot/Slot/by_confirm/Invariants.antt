use Rattle.std.proofs.Common.{◌≡◌, None}
use Rattle.cs_order.specs.Counts.{first_below}
use Rattle.cs_order_rules.specs.Slot.{chosen_entry, quorum}
use Rattle.cs_slot.specs.Kept.{seen_in}
use Rattle.cs_slot.proofs.slot.Slot.by_confirm.Given as goal

abbrev pub invariant-loop-view : goal.invariant-loop-view
invariant-loop-view l = first_below l.view (λ view. chosen_entry (seen_in l.self) (quorum l.self.f ((seen_in l.self).confirm view))) ≡ None
