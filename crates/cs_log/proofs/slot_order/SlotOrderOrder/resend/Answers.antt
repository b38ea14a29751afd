use Rattle.std.proofs.Common.{◌≡◌, true, rules}
use Rattle.std.proofs.lemmas.Result.{on_ok_weaker}
use Rattle.cs_log.specs.Replicas.{kept}
use Rattle.cs_log.proofs.Whole.{now_is, resends}
use Rattle.cs_log.proofs.slot_order.SlotOrderOrder.resend.Goals as goal

pub returns-clause-call : goal.returns-clause-call
returns-clause-call c =
    let whole : c.self.inside.whole ≡ true = search rules in
    λ h stands. on_ok_weaker c.resend.result (λ sent. resends (kept c.self.inside.replica) c.args.self.now c.args.out.now.items c.resend.new.out.items (now_is c.self.inside.whole c.self.inside.replica c.args.self.now whole c.self.view_is) sent h stands) c.resend.ensures.said
