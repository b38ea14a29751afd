use Rattle.cs_log.proofs.Calling.{awaits_rule}
use Rattle.cs_log.proofs.slot_order.SlotOrderOrder.pending.Goals as goal

pub returns-clause-rule : goal.returns-clause-rule
returns-clause-rule c = λ h stands. awaits_rule c.args.self.now h stands
