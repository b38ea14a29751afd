-- A link that was bound, or could not be.
use Rattle.std.proofs.Common.{◌≡◌, ℕ, Option, Some, None, subst, ◌∙◌}
use Rattle.cs_base.specs.declared.node_id.NodeId.{NodeId}
use Rattle.cs_io.specs.Told.{Changes, Stays}
use Rattle.cs_io.specs.Link.{LinkPlace, Binds}
use Rattle.cs_io.specs.Outside.{LinkTold, Beside}
use Rattle.cs_io.specs.declared.link.Bound.{Bound}
use Rattle.cs_io.specs.declared.link.Bound.TheVariants as bind
use Rattle.cs_io.specs.laws.Told.{stays-both, changes-before, changes-after}
use Rattle.cs_config.specs.declared.hosts.Hosts.{Hosts}
use Rattle.cs_deploy.specs.Binding.{IsFreed, IsToldHosts, IsUnbound, LinkIsQuiet}

-- it is still bound so, under a name that is the same
pub bound-later : (a b c : Option (Option LinkPlace)) (me name : NodeId) (base_port : ℕ) → me ≡ name → Binds a b me base_port bind.Done → Stays b c → Binds a c name base_port bind.Done
bound-later a b c me name base_port is binds stays =
    subst (λ (name : NodeId). Binds a c name base_port bind.Done) is
    (changes-before (λ before now. now ≡ Some (me, base_port)) a b c binds stays)

pub unbound-as : (me name : NodeId) (base_port : ℕ) (hosts : Option Hosts) (Failed : Type 0) (old new : Beside LinkTold) (status : ℕ) → me ≡ name → IsUnbound me base_port hosts Failed old new status → IsUnbound name base_port hosts Failed old new status
unbound-as me name base_port hosts Failed old new status is = subst (λ (name : NodeId). IsUnbound name base_port hosts Failed old new status) is

-- ---- a link that was told where all are

-- it still goes by that
pub placed-later : (hosts : Option Hosts) (a b c : LinkTold) → IsToldHosts hosts a b → Stays b.placed c.placed → IsToldHosts hosts a c
placed-later None a b c is stays = stays-both a.placed b.placed c.placed is stays
placed-later (Some hosts) a b c is stays = changes-before (λ before now. now ≡ Some (hosts.addresses, hosts.tick)) a.placed b.placed c.placed is stays

-- what is told last counts, whatever was before
told-last : {A : Type 0} (Was Is : A → Type 0) (a b c : Option A) → Changes (λ before. Was) a b → Changes (λ before. Is) b c → Changes (λ before. Is) a c
told-last Was Is None b c first later = tt
told-last Was Is (Some x) None c first later = absurd first
told-last Was Is (Some x) (Some y) None first later = absurd later
told-last Was Is (Some x) (Some y) (Some z) first later = later

-- and is bound then, or can't be
pub bound-behind : (hosts : Option Hosts) (a b c : LinkTold) (me : NodeId) (base_port : ℕ) (bound : Bound) → IsFreed hosts a b → Binds b.bound c.bound me base_port bound → Binds a.bound c.bound me base_port bound
bound-behind None a b c me base_port bind.Done freed binds = changes-after (λ before now. now ≡ Some (me, base_port)) a.bound b.bound c.bound freed binds
bound-behind None a b c me base_port bind.Failed freed binds = changes-after (λ before now. now ≡ None) a.bound b.bound c.bound freed binds
bound-behind (Some hosts) a b c me base_port bind.Done freed binds = told-last (λ now. now ≡ None) (λ now. now ≡ Some (me, base_port)) a.bound b.bound c.bound freed binds
bound-behind (Some hosts) a b c me base_port bind.Failed freed binds = told-last (λ now. now ≡ None) (λ now. now ≡ None) a.bound b.bound c.bound freed binds

-- left alone twice
pub quiet-both : (a b c : LinkTold) → LinkIsQuiet a b → LinkIsQuiet b c → LinkIsQuiet a c
quiet-both a b c first later = record {
  left = stays-both a.left b.left c.left first.left later.left;
  offered = stays-both a.offered b.offered c.offered first.offered later.offered;
  missed = later.missed ∙ first.missed;
}
