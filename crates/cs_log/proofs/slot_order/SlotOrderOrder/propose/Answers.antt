use Rattle.std.proofs.Common.{◌≡◌, ◌<◌, true, Option, rules}
use Rattle.cs_order.specs.Deeds.{Member}
use Rattle.cs_order.specs.Calls.{Proposes}
use Rattle.cs_order_rules.specs.declared.message.OrderMessage.{OrderMessage}
use Rattle.cs_order_rules.specs.SlotMachine.{slot_machine}
use Rattle.cs_log.specs.Replicas.{KeptReplica, kept}
use Rattle.cs_log.specs.Stands.{ReplicaStands, IsLed, f_of, me_of, rest_left}
use Rattle.cs_log.proofs.Whole.{led_as, now_is, at_whole, propose_led, propose_call, propose_falls, propose_same}
use Rattle.cs_log.proofs.slot_order.SlotOrderOrder.propose.Goals as goal

pub invariant_of-self-2 : goal.invariant_of-self-2
invariant_of-self-2 c =
    let whole : c.self.inside.whole ≡ true = search rules in
    at_whole IsLed c.end.new.self c.propose.new.self c.end.ensures
    (propose_led (kept c.self.inside.replica) (kept c.propose.new.self) c.args.entry c.args.out.now.items c.propose.new.out.items (led_as c.self.inside.whole c.self.inside.replica whole c.self.invariant) (c.in_ok-propose.ensures.call, c.in_ok-propose.ensures.uncut))

pub returns-clause-call : goal.returns-clause-call
returns-clause-call c =
    let whole : c.self.inside.whole ≡ true = search rules in
    let Holds : Option KeptReplica → Type 0 = λ o. (h : Member OrderMessage) → ReplicaStands c.args.self.now h → Proposes slot_machine h c.args.entry c.args.out.now.items c.propose.new.out.items (λ t. ReplicaStands o t) in
    at_whole Holds c.end.new.self c.propose.new.self c.end.ensures
    (propose_call (kept c.self.inside.replica) (kept c.propose.new.self) c.args.self.now c.args.entry c.args.out.now.items c.propose.new.out.items (now_is c.self.inside.whole c.self.inside.replica c.args.self.now whole c.self.view_is) (c.in_ok-propose.ensures.call, c.in_ok-propose.ensures.uncut))

pub returns-clause-falls : goal.returns-clause-falls
returns-clause-falls c =
    let whole : c.self.inside.whole ≡ true = search rules in
    let Holds : Option KeptReplica → Type 0 = λ o. rest_left o < rest_left c.args.self.now in
    at_whole Holds c.end.new.self c.propose.new.self c.end.ensures
    (propose_falls (kept c.self.inside.replica) (kept c.propose.new.self) c.args.self.now c.args.entry c.args.out.now.items c.propose.new.out.items (now_is c.self.inside.whole c.self.inside.replica c.args.self.now whole c.self.view_is) (led_as c.self.inside.whole c.self.inside.replica whole c.self.invariant) (c.in_ok-propose.ensures.call, c.in_ok-propose.ensures.uncut) c.requires)

pub returns-clause-same : goal.returns-clause-same
returns-clause-same c =
    let whole : c.self.inside.whole ≡ true = search rules in
    at_whole (λ (o : Option KeptReplica). (f_of o ≡ f_of c.args.self.now) × (me_of o ≡ me_of c.args.self.now)) c.end.new.self c.propose.new.self c.end.ensures
    (propose_same (kept c.self.inside.replica) (kept c.propose.new.self) c.args.self.now c.args.entry c.args.out.now.items c.propose.new.out.items (now_is c.self.inside.whole c.self.inside.replica c.args.self.now whole c.self.view_is) (led_as c.self.inside.whole c.self.inside.replica whole c.self.invariant) (c.in_ok-propose.ensures.call, c.in_ok-propose.ensures.uncut))
