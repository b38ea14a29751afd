use Rattle.std.proofs.Common.{◌≡◌, true, Option, rules}
use Rattle.cs_order.specs.Deeds.{Member}
use Rattle.cs_order.specs.Calls.{Ticks}
use Rattle.cs_order_rules.specs.declared.message.OrderMessage.{OrderMessage}
use Rattle.cs_order_rules.specs.SlotMachine.{slot_machine}
use Rattle.cs_log.specs.Replicas.{KeptReplica, kept}
use Rattle.cs_log.specs.Stands.{ReplicaStands, IsLed, f_of, me_of}
use Rattle.cs_log.proofs.Whole.{led_as, now_is, at_whole, tick_led, tick_call, tick_same}
use Rattle.cs_log.proofs.slot_order.SlotOrderOrder.tick.Goals as goal

pub invariant_of-self-2 : goal.invariant_of-self-2
invariant_of-self-2 c =
    let whole : c.self.inside.whole ≡ true = search rules in
    at_whole IsLed c.end.new.self c.tick.new.self c.end.ensures
    (tick_led (kept c.self.inside.replica) (kept c.tick.new.self) c.args.due c.args.out.now.items c.tick.new.out.items (led_as c.self.inside.whole c.self.inside.replica whole c.self.invariant) (c.in_ok-tick.ensures.call, c.in_ok-tick.ensures.uncut))

pub returns-clause-call : goal.returns-clause-call
returns-clause-call c =
    let whole : c.self.inside.whole ≡ true = search rules in
    let Holds : Option KeptReplica → Type 0 = λ o. (h : Member OrderMessage) → ReplicaStands c.args.self.now h → Ticks slot_machine h c.args.due c.args.out.now.items c.tick.new.out.items (λ t. ReplicaStands o t) in
    at_whole Holds c.end.new.self c.tick.new.self c.end.ensures
    (tick_call (kept c.self.inside.replica) (kept c.tick.new.self) c.args.self.now c.args.due c.args.out.now.items c.tick.new.out.items (now_is c.self.inside.whole c.self.inside.replica c.args.self.now whole c.self.view_is) (c.in_ok-tick.ensures.call, c.in_ok-tick.ensures.uncut))

pub returns-clause-same : goal.returns-clause-same
returns-clause-same c =
    let whole : c.self.inside.whole ≡ true = search rules in
    at_whole (λ (o : Option KeptReplica). (f_of o ≡ f_of c.args.self.now) × (me_of o ≡ me_of c.args.self.now)) c.end.new.self c.tick.new.self c.end.ensures
    (tick_same (kept c.self.inside.replica) (kept c.tick.new.self) c.args.self.now c.args.due c.args.out.now.items c.tick.new.out.items (now_is c.self.inside.whole c.self.inside.replica c.args.self.now whole c.self.view_is) (led_as c.self.inside.whole c.self.inside.replica whole c.self.invariant) (c.in_ok-tick.ensures.call, c.in_ok-tick.ensures.uncut))
