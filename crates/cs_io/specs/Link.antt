-- What the calls of a link do to what it is bound as, to what it was told of places, to its inputs, and to what it was
-- offered.
use Rattle.std.specs.Prelude.{◌≡◌, ℕ, ◌+◌, ◌-◌, ◌^◌, ◌≤◌, min, List, [], ◌∷◌, ◌++◌, length, take, Option, Some, None, IfSome}
use Rattle.std.specs.declared.net.ip_addr.IpAddr.{IpAddr}
use Rattle.cs_base.specs.declared.node_id.NodeId.{NodeId}
use Rattle.cs_io.specs.Told.{Changes, Stays}
use Rattle.cs_io.specs.declared.link.Bound.{Bound}
use Rattle.cs_io.specs.declared.link.Bound.TheVariants as bound
use Rattle.cs_io.specs.declared.link.Placed.{Placed}
use Rattle.cs_io.specs.declared.link.Placed.TheVariants as placed
use Rattle.cs_io.specs.declared.link.Arrived.{Arrived}
use Rattle.cs_io.specs.declared.link.Arrived.TheVariants.{Datagram, Tick, End, Failed}
use Rattle.cs_io.specs.declared.link.Sent.{Sent}
use Rattle.cs_io.specs.declared.link.Sent.TheVariants as sent
use Rattle.cs_io.specs.declared.link.MemInput.{MemInput}
use Rattle.cs_io.specs.declared.link.MemInput.TheVariants as input

-- whose link it is, and the port from which the deployment's are counted
abbrev pub LinkPlace : Type 0
LinkPlace = NodeId × ℕ

-- the link is bound so, or isn't bound
abbrev pub Binds : Option (Option LinkPlace) → Option (Option LinkPlace) → NodeId → ℕ → Bound → Type 0
Binds old new me base_port bound.Done = Changes (λ before now. now ≡ Some (me, base_port)) old new
Binds old new me base_port bound.Failed = Changes (λ before now. now ≡ None) old new

-- where nodes and clients are, and the milliseconds between ticks
abbrev pub Hosting : Type 0
Hosting = List (NodeId × IpAddr) × ℕ

-- the link was told just that, or nothing
abbrev pub TellsHosts : Option (Option Hosting) → Option (Option Hosting) → Hosting → Placed → Type 0
TellsHosts old new hosting placed.Done = Changes (λ before now. now ≡ Some hosting) old new
TellsHosts old new hosting placed.Memory = Stays old new

-- a link that was told is bound as nothing
abbrev pub Frees : Option (Option LinkPlace) → Option (Option LinkPlace) → Placed → Type 0
Frees old new placed.Done = Changes (λ before now. now ≡ None) old new
Frees old new placed.Memory = Stays old new

-- the first input left was given, and is gone
abbrev pub LinkGives : Option (List MemInput) → Option (List MemInput) → MemInput → Type 0
LinkGives old new first = Changes (λ before now. before ≡ first ∷ now) old new

-- a receive gave the first input left, or nothing
abbrev pub Receives : Option (List MemInput) → Option (List MemInput) → List ℕ → Arrived → Type 0
Receives old new buf (Datagram n) = (n ≤ length buf) × LinkGives old new (input.Datagram (take n buf))
Receives old new buf Tick = LinkGives old new input.Tick
Receives old new buf End = IfSome new (λ left. left ≡ []) × Stays old new
Receives old new buf Failed = Stays old new

-- how many receives in a row have failed, one more or none
abbrev pub missed_after : ℕ → Arrived → ℕ
missed_after before (Datagram n) = 0
missed_after before Tick = 0
missed_after before End = 0
missed_after before Failed = min (before + 1) (2 ^ 64 - 1)

-- all that was offered, with who it is for
abbrev pub Offers : Type 0
Offers = List (NodeId × List ℕ)

-- the datagram was offered, whatever became of it; or it wasn't
abbrev pub LinkSends : Option Offers → Option Offers → NodeId → List ℕ → Sent → Type 0
LinkSends old new to bytes sent.Done = Changes (λ before now. now ≡ before ++ (to, bytes) ∷ []) old new
LinkSends old new to bytes sent.Failed = Changes (λ before now. now ≡ before ++ (to, bytes) ∷ []) old new
LinkSends old new to bytes sent.Memory = Stays old new
