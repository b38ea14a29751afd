use Rattle.std.proofs.Common.{◌≡◌, ◌<◌, true, Option, IsSome, rules}
use Rattle.cs_order.specs.Deeds.{Member}
use Rattle.cs_order.specs.Calls.{Echoes}
use Rattle.cs_order_rules.specs.declared.message.OrderMessage.{OrderMessage}
use Rattle.cs_order_rules.specs.SlotMachine.{slot_machine}
use Rattle.cs_log.specs.Replicas.{KeptReplica, kept}
use Rattle.cs_log.specs.Stands.{ReplicaStands, IsLed, f_of, me_of, awaited, rest_left}
use Rattle.cs_log.proofs.Whole.{led_as, now_is, at_whole, echo_led, echo_call, echo_falls, echo_same}
use Rattle.cs_log.proofs.slot_order.SlotOrderOrder.echo.Goals as goal

pub invariant_of-self-2 : goal.invariant_of-self-2
invariant_of-self-2 c =
    let whole : c.self.inside.whole ≡ true = search rules in
    at_whole IsLed c.end.new.self c.echo.new.self c.end.ensures
    (echo_led (kept c.self.inside.replica) (kept c.echo.new.self) c.args.out.now.items c.echo.new.out.items (led_as c.self.inside.whole c.self.inside.replica whole c.self.invariant) (c.in_ok-echo.ensures.call, c.in_ok-echo.ensures.uncut))

pub returns-clause-call : goal.returns-clause-call
returns-clause-call c =
    let whole : c.self.inside.whole ≡ true = search rules in
    let Holds : Option KeptReplica → Type 0 = λ o. IsSome (awaited c.args.self.now) → (h : Member OrderMessage) → ReplicaStands c.args.self.now h → Echoes slot_machine h c.args.out.now.items c.echo.new.out.items (λ t. ReplicaStands o t) in
    at_whole Holds c.end.new.self c.echo.new.self c.end.ensures
    (echo_call (kept c.self.inside.replica) (kept c.echo.new.self) c.args.self.now c.args.out.now.items c.echo.new.out.items (now_is c.self.inside.whole c.self.inside.replica c.args.self.now whole c.self.view_is) (c.in_ok-echo.ensures.call, c.in_ok-echo.ensures.uncut))

pub returns-clause-falls : goal.returns-clause-falls
returns-clause-falls c =
    let whole : c.self.inside.whole ≡ true = search rules in
    let Holds : Option KeptReplica → Type 0 = λ o. IsSome (awaited c.args.self.now) → rest_left o < rest_left c.args.self.now in
    at_whole Holds c.end.new.self c.echo.new.self c.end.ensures
    (echo_falls (kept c.self.inside.replica) (kept c.echo.new.self) c.args.self.now c.args.out.now.items c.echo.new.out.items (now_is c.self.inside.whole c.self.inside.replica c.args.self.now whole c.self.view_is) (led_as c.self.inside.whole c.self.inside.replica whole c.self.invariant) (c.in_ok-echo.ensures.call, c.in_ok-echo.ensures.uncut))

pub returns-clause-same : goal.returns-clause-same
returns-clause-same c =
    let whole : c.self.inside.whole ≡ true = search rules in
    at_whole (λ (o : Option KeptReplica). (f_of o ≡ f_of c.args.self.now) × (me_of o ≡ me_of c.args.self.now)) c.end.new.self c.echo.new.self c.end.ensures
    (echo_same (kept c.self.inside.replica) (kept c.echo.new.self) c.args.self.now c.args.out.now.items c.echo.new.out.items (now_is c.self.inside.whole c.self.inside.replica c.args.self.now whole c.self.view_is) (led_as c.self.inside.whole c.self.inside.replica whole c.self.invariant) (c.in_ok-echo.ensures.call, c.in_ok-echo.ensures.uncut))
