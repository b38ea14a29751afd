use Rattle.std.proofs.Common.{arith}
use Rattle.cs_order_rules.specs.Slot.{is_digest}
use Rattle.cs_order.proofs.Searches.{count_none, count_add}
use Rattle.cs_slot.specs.Kept.{said_in}
use Rattle.cs_slot.proofs.rows.count.Goals as goal

pub loop-member-init : goal.loop-member-init
loop-member-init c = (count_none (λ member. is_digest c.args.digest.now (said_in c.args.row.now member)), omega arith)

pub loop-member-preserved : goal.loop-member-preserved
loop-member-preserved c = count_add c.loop-member.member c.loop-member.count c.from-count.result (λ member. is_digest c.args.digest.now (said_in c.args.row.now member)) c.says.result c.says.ensures c.from-count.ensures c.loop-member.invariant.0 c.loop-member.invariant.1
