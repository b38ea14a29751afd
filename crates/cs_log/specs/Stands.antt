-- Where a member's deeds have led it.
use Rattle.std.specs.Prelude.{◌≡◌, ℕ, Bool, if◌then◌else◌, Option, Some, None}
use Rattle.cs_order.specs.Deeds.{Member, kept_from}
use Rattle.cs_order.specs.declared.proposed.Proposed.{Proposed}
use Rattle.cs_order.specs.declared.answers.May.{May}
use Rattle.cs_order.specs.declared.answers.May.TheVariants.{No}
use Rattle.cs_order_rules.specs.declared.message.OrderMessage.{OrderMessage}
use Rattle.cs_order_rules.specs.SlotMachine.{sight}
use Rattle.cs_order_open.specs.Look.{look_of, pending_by, may_by}
use Rattle.cs_log.specs.Replicas.{KeptReplica, kept, Mirrors, at_first, kept_rest}
use Rattle.cs_log.specs.declared.replica.Replica.{Replica}

-- after a want of memory nothing is kept
abbrev pub kept_if : Bool → Replica → Option KeptReplica
kept_if whole replica = if whole then Some (kept replica) else None

-- The deeds come to what is kept, and to the slot from which on the log is kept.
pub record ReplicaStandsFor (k : KeptReplica) (h : Member OrderMessage) : Type 0 where
  pub mirrors : Mirrors k (sight h)
  pub first : k.log.first ≡ kept_from h.deeds

abbrev pub ReplicaStands : Option KeptReplica → Member OrderMessage → Type 0
ReplicaStands None h = ⊥
ReplicaStands (Some k) h = ReplicaStandsFor k h

-- some deeds led to what is kept
abbrev pub IsLed : Option KeptReplica → Type 0
IsLed None = Unit {0}
IsLed (Some k) = (h : Member OrderMessage) × ReplicaStandsFor k h

abbrev pub f_of : Option KeptReplica → ℕ
f_of None = 0
f_of (Some k) = k.f

abbrev pub me_of : Option KeptReplica → ℕ
me_of None = 0
me_of (Some k) = k.me

abbrev pub ReplicaStarts : Option KeptReplica → Type 0
ReplicaStarts None = ⊥
ReplicaStarts (Some k) = Mirrors k (at_first k.f k.me) × (k.log.first ≡ 0)

abbrev pub awaited : Option KeptReplica → Option Proposed
awaited None = None
awaited (Some k) = pending_by (look_of k.current)

abbrev pub allowed : Option KeptReplica → May
allowed None = No
allowed (Some k) = may_by (look_of k.current)

abbrev pub rest_left : Option KeptReplica → ℕ
rest_left None = 0
rest_left (Some k) = kept_rest k
