use Rattle.std.proofs.Common.{◌≡◌, true, Option, rules}
use Rattle.cs_order.specs.Deeds.{Member}
use Rattle.cs_order.specs.Calls.{Cuts}
use Rattle.cs_order_rules.specs.declared.message.OrderMessage.{OrderMessage}
use Rattle.cs_log.specs.Replicas.{KeptReplica, kept}
use Rattle.cs_log.specs.Stands.{ReplicaStands, IsLed}
use Rattle.cs_log.proofs.Whole.{led_as, now_is, at_whole, cut_led, cut_call}
use Rattle.cs_log.proofs.slot_order.SlotOrderOrder.cut.Goals as goal

pub invariant_of-self : goal.invariant_of-self
invariant_of-self c =
    let whole : c.self.inside.whole ≡ true = search rules in
    at_whole IsLed c.self.inside.whole c.cut.new.self whole
    (cut_led (kept c.self.inside.replica) (kept c.cut.new.self) c.args.self.now c.args.slot (now_is c.self.inside.whole c.self.inside.replica c.args.self.now whole c.self.view_is) (led_as c.self.inside.whole c.self.inside.replica whole c.self.invariant) c.cut.ensures.call c.requires)

pub returns-clause-call : goal.returns-clause-call
returns-clause-call c =
    let whole : c.self.inside.whole ≡ true = search rules in
    let Holds : Option KeptReplica → Type 0 = λ o. (h : Member OrderMessage) → ReplicaStands c.args.self.now h → Cuts h c.args.slot (λ t. ReplicaStands o t) in
    at_whole Holds c.self.inside.whole c.cut.new.self whole
    (cut_call (kept c.self.inside.replica) (kept c.cut.new.self) c.args.self.now c.args.slot (now_is c.self.inside.whole c.self.inside.replica c.args.self.now whole c.self.view_is) c.cut.ensures.call c.requires)
