use Rattle.std.proofs.Common.{ℕ, Bool, List, arith}
use Rattle.cs_order.specs.declared.proposed.Proposed.{Proposed}
use Rattle.cs_order_rules.specs.Slot.{is_entry}
use Rattle.cs_order.proofs.Searches.{count_none, count_add}
use Rattle.cs_slot.specs.Kept.{entry_kept}
use Rattle.cs_slot.proofs.slot.Slot.done_count.Goals as goal

abbrev test : Proposed → List (ℕ × Proposed) → ℕ → Bool
test entry dones member = is_entry entry (entry_kept dones member)

pub loop-member-init : goal.loop-member-init
loop-member-init c = (count_none (test c.args.entry.now c.self.inside.dones), omega arith)

pub loop-member-preserved : goal.loop-member-preserved
loop-member-preserved c = count_add c.loop-member.member c.loop-member.count c.from-count.result (test c.args.entry.now c.self.inside.dones) c.is_at.result c.is_at.ensures c.from-count.ensures c.loop-member.invariant.0 c.loop-member.invariant.1
