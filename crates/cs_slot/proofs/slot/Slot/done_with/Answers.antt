use Rattle.std.proofs.Common.{ℕ, ◌+◌, ◌*◌, List, Option, sym}
use Rattle.cs_order.specs.declared.proposed.Proposed.{Proposed}
use Rattle.cs_order_rules.specs.Slot.{with_digest}
use Rattle.cs_order.proofs.Searches.{first_none, first_at, first_more}
use Rattle.cs_slot.specs.Kept.{entry_kept}
use Rattle.cs_slot.proofs.slot.Slot.done_with.Goals as goal

abbrev found : List ℕ → List (ℕ × Proposed) → ℕ → Option Proposed
found digest dones member = with_digest digest (entry_kept dones member)

pub loop-member-init : goal.loop-member-init
loop-member-init c = first_none (found c.args.digest.now c.self.inside.dones)

pub returns-in-Some : goal.returns-in-Some
returns-in-Some c = rw (← c.self.view_is) (sym (first_at (3 * c.self.inside.f + 1) c.loop-member.member (found c.args.digest.now c.self.inside.dones) c.in-Some.entry.now c.loop-member-test.true c.loop-member.invariant (sym c.in-Some.ensures)))

pub loop-member-preserved : goal.loop-member-preserved
loop-member-preserved c = first_more c.loop-member.member (found c.args.digest.now c.self.inside.dones) c.loop-member.invariant (sym c.in_default.ensures)
