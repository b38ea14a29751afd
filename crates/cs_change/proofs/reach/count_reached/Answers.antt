use Rattle.std.proofs.Common.{arith}
use Rattle.cs_order.proofs.Searches.{count_none, count_add}
use Rattle.cs_change.specs.Kept.{reaches}
use Rattle.cs_change.proofs.reach.count_reached.Goals as goal

pub loop-member-init : goal.loop-member-init
loop-member-init c = (count_none (reaches c.args.furthest.now.entries c.args.view), omega arith)

pub loop-member-preserved : goal.loop-member-preserved
loop-member-preserved c = count_add c.loop-member.member c.loop-member.count c.from-count.result (reaches c.args.furthest.now.entries c.args.view) c.reaches.result c.reaches.ensures c.from-count.ensures c.loop-member.invariant.0 c.loop-member.invariant.1
