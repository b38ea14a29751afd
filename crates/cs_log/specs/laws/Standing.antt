-- A member at its start stands for no deeds, and for those of its own alone; its turns come to an end.
use Rattle.std.proofs.Common.{◌≡◌, ◌<◌, ◌≤◌, ◌^◌, [], Option, Some, None, sym, arith}
use Rattle.cs_order.specs.Deeds.{Member}
use Rattle.cs_order_rules.specs.declared.message.OrderMessage.{OrderMessage}
use Rattle.cs_order_rules.specs.Rules.{one_unless}
use Rattle.cs_order_open.specs.Shows.{KeptOpenSlot}
use Rattle.cs_order_open.specs.Look.{look_of, own_proposal, left_by}
use Rattle.cs_log.specs.Replicas.{KeptReplica}
use Rattle.cs_log.specs.Stands.{ReplicaStands, ReplicaStarts, f_of, me_of, rest_left}

pub replica_begins : (o : Option KeptReplica) → ReplicaStarts o → ReplicaStands o (record { f = f_of o; me = me_of o; deeds = [] })
replica_begins None h = h
replica_begins (Some k) h = record { mirrors = h.0; first = h.1 }

pub replica_belongs : (o : Option KeptReplica) (h : Member OrderMessage) → ReplicaStands o h → (h.f ≡ f_of o) × (h.me ≡ me_of o)
replica_belongs None h stands = absurd stands
replica_belongs (Some k) h stands = (sym stands.mirrors.f, sym stands.mirrors.me)

one_or_none : {A : Type 0} (o : Option A) → one_unless o ≤ 1
one_or_none None = omega arith
one_or_none (Some x) = omega arith

few_left : (k : KeptOpenSlot) → left_by (look_of k) ≤ 3
few_left k =
    let x = look_of k in
    let a = one_or_none (own_proposal x) in
    let b = one_or_none (x.seen.echo x.seen.view x.seen.me) in
    let c = one_or_none (x.seen.confirm x.seen.view x.seen.me) in
    omega arith

pub rest_bounded : (o : Option KeptReplica) → rest_left o < 2 ^ 80
rest_bounded None = omega arith
rest_bounded (Some k) = (let few = few_left k.current in omega arith)
