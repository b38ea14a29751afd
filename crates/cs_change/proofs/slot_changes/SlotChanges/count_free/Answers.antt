use Rattle.std.proofs.Common.{ap, ◌∙◌, arith}
use Rattle.cs_order_rules.specs.Safe.{says_none}
use Rattle.cs_order.proofs.Searches.{count_none, count_add}
use Rattle.cs_change.specs.Kept.{change_in}
use Rattle.cs_change.proofs.slot_changes.SlotChanges.count_free.Goals as goal

pub loop-member-init : goal.loop-member-init
loop-member-init c = (count_none (λ member. says_none (change_in c.args.self.now.changes c.args.view member)), omega arith)

pub loop-member-preserved : goal.loop-member-preserved
loop-member-preserved c = count_add c.loop-member.member c.loop-member.count c.from-count.result (λ member. says_none (change_in c.args.self.now.changes c.args.view member)) c.has_no_pair.result (c.has_no_pair.ensures ∙ ap (says_none) c.get.ensures) c.from-count.ensures c.loop-member.invariant.0 c.loop-member.invariant.1
