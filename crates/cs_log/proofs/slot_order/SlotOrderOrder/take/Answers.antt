use Rattle.std.proofs.Common.{◌≡◌, true, Option, rules}
use Rattle.cs_order.specs.Calls.{TakesIn}
use Rattle.cs_order_rules.specs.SlotMachine.{slot_machine}
use Rattle.cs_log.specs.Replicas.{KeptReplica, kept}
use Rattle.cs_log.specs.Stands.{ReplicaStands, IsLed, f_of, me_of}
use Rattle.cs_log.proofs.Whole.{led_as, now_is, at_whole, take_led, take_call, take_same}
use Rattle.cs_log.proofs.slot_order.SlotOrderOrder.take.Goals as goal

pub invariant_of-self-2 : goal.invariant_of-self-2
invariant_of-self-2 c =
    let whole : c.self.inside.whole ≡ true = search rules in
    at_whole IsLed c.end.new.self c.take.new.self c.end.ensures
    (take_led (kept c.self.inside.replica) (kept c.take.new.self) c.args.from c.args.message c.in_ok-took.took (led_as c.self.inside.whole c.self.inside.replica whole c.self.invariant) (c.in_ok-took.ensures.call, c.in_ok-took.ensures.uncut))

pub returns-clause-call : goal.returns-clause-call
returns-clause-call c = λ h stands member other proper.
    let whole : c.self.inside.whole ≡ true = search rules in
    let Takes : Option KeptReplica → Type 0 = λ o. TakesIn slot_machine h c.args.from c.args.message c.in_ok-took.took (λ t. ReplicaStands o t) in
    at_whole Takes c.end.new.self c.take.new.self c.end.ensures
    (take_call (kept c.self.inside.replica) (kept c.take.new.self) c.args.self.now c.args.from c.args.message c.in_ok-took.took (now_is c.self.inside.whole c.self.inside.replica c.args.self.now whole c.self.view_is) (c.in_ok-took.ensures.call, c.in_ok-took.ensures.uncut) h stands)

pub returns-clause-same : goal.returns-clause-same
returns-clause-same c =
    let whole : c.self.inside.whole ≡ true = search rules in
    at_whole (λ (o : Option KeptReplica). (f_of o ≡ f_of c.args.self.now) × (me_of o ≡ me_of c.args.self.now)) c.end.new.self c.take.new.self c.end.ensures
    (take_same (kept c.self.inside.replica) (kept c.take.new.self) c.args.self.now c.args.from c.args.message c.in_ok-took.took (now_is c.self.inside.whole c.self.inside.replica c.args.self.now whole c.self.view_is) (led_as c.self.inside.whole c.self.inside.replica whole c.self.invariant) (c.in_ok-took.ensures.call, c.in_ok-took.ensures.uncut))
