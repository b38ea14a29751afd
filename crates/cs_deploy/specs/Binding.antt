-- The files of a node or a client, and then its link, told where all are and bound before its first turn.
use Rattle.std.specs.Prelude.{◌≡◌, ◌⊎◌, ℕ, codes, Option, Some, None, Result, Ok, Err}
use Rattle.cs_base.specs.Answers.{Answer, Answers}
use Rattle.cs_base.specs.declared.node_id.NodeId.{NodeId}
use Rattle.cs_io.specs.Told.{Changes, Stays}
use Rattle.cs_io.specs.Store.{Files}
use Rattle.cs_io.specs.Link.{Binds}
use Rattle.cs_io.specs.Outside.{LinkTold, Beside}
use Rattle.cs_io.specs.declared.link.Bound.TheVariants as bind
use Rattle.cs_config.specs.declared.hosts.Hosts.{Hosts}
use Rattle.cs_deploy.specs.Taking.{Taken, TakesFiles}
use Rattle.cs_deploy.specs.Untaken.{IsSilent, IsUntaken}

-- The link was left alone, but for what it is bound as and where it was told that all are.
pub record LinkIsQuiet (old new : LinkTold) : Type 0 where
  pub left : Stays old.left new.left
  pub offered : Stays old.offered new.offered
  pub missed : new.missed ≡ old.missed

-- The link was left alone.
pub record IsUntouched (old new : LinkTold) : Type 0 where
  pub bound : Stays old.bound new.bound
  pub placed : Stays old.placed new.placed
  pub quiet : LinkIsQuiet old new

-- it was told exactly what the hosts file says; or, without one, nothing
abbrev pub IsToldHosts : Option Hosts → LinkTold → LinkTold → Type 0
IsToldHosts None old new = Stays old.placed new.placed
IsToldHosts (Some hosts) old new =
    Changes (λ before now. now ≡ Some (hosts.addresses, hosts.tick)) old.placed new.placed

-- where it was told, it is bound as nothing
abbrev pub IsFreed : Option Hosts → LinkTold → LinkTold → Type 0
IsFreed None old new = Stays old.bound new.bound
IsFreed (Some hosts) old new = Changes (λ before now. now ≡ None) old.bound new.bound

-- Memory ran out before the link was bound.
pub record IsShort (old new : Beside LinkTold) (status : ℕ) : Type 0 where
  pub untouched : IsUntouched old.told new.told
  pub silent : IsSilent old.written new.written status

abbrev pub link_answer : Answer
link_answer = record { status = 7; printed = codes "link fault\n" }

-- The link could not be bound, which is told.
pub record IsUnbound (me : NodeId) (base_port : ℕ) (hosts : Option Hosts) (LinkFailed : Type 0)
    (old new : Beside LinkTold) (status : ℕ) : Type 0 where
  pub failed : LinkFailed
  pub placed : IsToldHosts hosts old.told new.told
  pub bound : Binds old.told.bound new.told.bound me base_port bind.Failed
  pub quiet : LinkIsQuiet old.told new.told
  pub told : Answers link_answer old.written new.written status

-- The link was told and bound, and all else left alone.
pub record IsBound (me : NodeId) (base_port : ℕ) (hosts : Option Hosts) (old new : Beside LinkTold) : Type 0 where
  pub placed : IsToldHosts hosts old.told new.told
  pub bound : Binds old.told.bound new.told.bound me base_port bind.Done
  pub quiet : LinkIsQuiet old.told new.told
  pub unwritten : new.written ≡ old.written

-- what comes of telling and binding it, with the status of a program whose link isn't bound
abbrev pub BindsOrTells : NodeId → ℕ → Option Hosts → Type 0 → Beside LinkTold → Beside LinkTold → Result (Unit {0}) ℕ
    → Type 0
BindsOrTells me base_port hosts LinkFailed old new (Ok done) = IsBound me base_port hosts old new
BindsOrTells me base_port hosts LinkFailed old new (Err status) =
    IsShort old new status ⊎ IsUnbound me base_port hosts LinkFailed old new status

-- ---- files first

-- A file isn't taken, and the link is left alone.
pub record FileIsRefused {A : Type 0} (Come : Files → Taken A → Type 0) (StoreFailed : Type 0) (files : Option Files)
    (old new : Beside LinkTold) (status : ℕ) : Type 0 where
  pub untouched : IsUntouched old.told new.told
  pub untaken : IsUntaken Come StoreFailed files old.written new.written status

-- what a command comes to whose files come to this, and which goes on so where all are taken
abbrev pub Runs : {A : Type 0} → (Files → Taken A → Type 0) → (A → Beside LinkTold → Beside LinkTold → ℕ → Type 0) → Type 0
    → Option Files → Beside LinkTold → Beside LinkTold → ℕ → Type 0
Runs {A} Come Goes StoreFailed files old new status =
    FileIsRefused Come StoreFailed files old new status
    ⊎ ((taken : A) × TakesFiles Come files (Ok taken) × Goes taken old new status)
