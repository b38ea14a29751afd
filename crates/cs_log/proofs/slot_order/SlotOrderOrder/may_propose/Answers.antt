use Rattle.cs_log.proofs.Calling.{allows_rule}
use Rattle.cs_log.proofs.slot_order.SlotOrderOrder.may_propose.Goals as goal

pub returns-clause-rule : goal.returns-clause-rule
returns-clause-rule c = λ h stands. allows_rule c.args.self.now h stands
