use Rattle.std.specs.declared.net.ip_addr.IpAddr.{IpAddr}
use Rattle.std.proofs.Common.{◌≡◌, List, Option, Some, refl, sym, subst}
use Rattle.cs_base.specs.declared.node_id.NodeId.{NodeId}
use Rattle.cs_io.specs.Told.{Changes}
use Rattle.cs_io.specs.laws.Told.{stays-same}
use Rattle.cs_config.specs.declared.hosts.Hosts.{Hosts}
use Rattle.cs_deploy.specs.Binding.{IsFreed, IsToldHosts}
use Rattle.cs_deploy.proofs.binding.place.Goals as goal

-- ---- no hosts file

pub returns-in-None-clause-placed : goal.returns-in-None-clause-placed
returns-in-None-clause-placed g c =
    let a = g.L.Link.told c.args.link.now in
    subst (λ (hosts : Option Hosts). IsToldHosts hosts a a) (sym c.in-None.is) (stays-same a.placed)

pub returns-in-None-clause-freed : goal.returns-in-None-clause-freed
returns-in-None-clause-freed g c =
    let a = g.L.Link.told c.args.link.now in
    subst (λ (hosts : Option Hosts). IsFreed hosts a a) (sym c.in-None.is) (stays-same a.bound)

pub returns-in-None-clause-quiet : goal.returns-in-None-clause-quiet
returns-in-None-clause-quiet g c =
    let a = g.L.Link.told c.args.link.now in
    record { left = stays-same a.left; offered = stays-same a.offered; missed = refl }

-- ---- one

pub returns-in-Done-clause-placed : goal.returns-in-Done-clause-placed
returns-in-Done-clause-placed g c =
    let a = g.L.Link.told c.args.link.now in
    let b = g.L.Link.told c.place.new.self in
    let tick = c.in-Some.hosts.tick in
    subst (λ (hosts : Option Hosts). IsToldHosts hosts a b) (sym c.in-Some.is)
    (subst (λ (addresses : List (NodeId × IpAddr)). Changes (λ before now. now ≡ Some (addresses, tick)) a.placed b.placed) c.as_slice.ensures c.in-Done.ensures.place)

pub returns-in-Done-clause-freed : goal.returns-in-Done-clause-freed
returns-in-Done-clause-freed g c =
    let a = g.L.Link.told c.args.link.now in
    let b = g.L.Link.told c.place.new.self in
    subst (λ (hosts : Option Hosts). IsFreed hosts a b) (sym c.in-Some.is) c.in-Done.ensures.bound

pub returns-in-Done-clause-quiet : goal.returns-in-Done-clause-quiet
returns-in-Done-clause-quiet g c = record { left = c.in-Done.ensures.left; offered = c.in-Done.ensures.offered; missed = c.in-Done.ensures.missed }

pub returns-in-Memory-clause-quiet : goal.returns-in-Memory-clause-quiet
returns-in-Memory-clause-quiet g c = record { left = c.in-Memory.ensures.left; offered = c.in-Memory.ensures.offered; missed = c.in-Memory.ensures.missed }

pub returns-in-Memory-clause-untouched : goal.returns-in-Memory-clause-untouched
returns-in-Memory-clause-untouched g c = record {
  bound = c.in-Memory.ensures.bound;
  placed = c.in-Memory.ensures.place;
  quiet = record { left = c.in-Memory.ensures.left; offered = c.in-Memory.ensures.offered; missed = c.in-Memory.ensures.missed };
}
