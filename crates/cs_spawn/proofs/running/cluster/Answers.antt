use Rattle.std.proofs.Common.{◌≡◌, ℕ, Bool, false, List, [], refl, sym, subst, arith}
use Rattle.std.specs.List.{AllByRecursion}
use Rattle.cs_io.specs.Spawner.{EndsThese}
use Rattle.cs_io.specs.Outside.{SpawnerTold, Beside, beside}
use Rattle.cs_spawn.specs.Deeds.{cluster_deeds}
use Rattle.cs_spawn.specs.Running.{ClusterFails, LeavesChildren, RiseBetween}
use Rattle.cs_spawn.proofs.Going.{starts-none}
use Rattle.cs_spawn.proofs.Left.{rise-wider, left-rises, left-spared, fails-ended}
use Rattle.cs_spawn.proofs.running.cluster.Goals as goal

pub end_all-requires-clause-there : goal.end_all-requires-clause-there
end_all-requires-clause-there g c =
    let a : Beside SpawnerTold = beside (g.P.Spawner.told c.args.spawner.now) (g.K.Sink.written c.args.out.now) in
    let m : Beside SpawnerTold = beside (g.P.Spawner.told c.run_children.new.spawner) (g.K.Sink.written c.run_children.new.out) in
    let left = c.run_children.new.left.items in
    let deeds = cluster_deeds c.args.plan.now c.args.site.now.config (g.P.Spawner.told c.args.spawner.now).children in
    let e = c.in-Err.error in
    let fails : ClusterFails (LeavesChildren [] left a m) deeds a m e = subst (λ (l : List ℕ). ClusterFails (LeavesChildren l left a m) deeds a m e) c.new-left.ensures.items c.in-Err.ensures.does in
    subst (λ (l : List ℕ). RiseBetween 0 m.told.children l) (sym c.deref.ensures.value)
    (rise-wider 0 a.told.children m.told.children m.told.children left (omega arith) (omega arith) (left-rises a m left deeds e fails))

pub end_all-requires-clause-spared : goal.end_all-requires-clause-spared
end_all-requires-clause-spared g c =
    let a : Beside SpawnerTold = beside (g.P.Spawner.told c.args.spawner.now) (g.K.Sink.written c.args.out.now) in
    let m : Beside SpawnerTold = beside (g.P.Spawner.told c.run_children.new.spawner) (g.K.Sink.written c.run_children.new.out) in
    let left = c.run_children.new.left.items in
    let deeds = cluster_deeds c.args.plan.now c.args.site.now.config (g.P.Spawner.told c.args.spawner.now).children in
    let e = c.in-Err.error in
    let fails : ClusterFails (LeavesChildren [] left a m) deeds a m e = subst (λ (l : List ℕ). ClusterFails (LeavesChildren l left a m) deeds a m e) c.new-left.ensures.items c.in-Err.ensures.does in
    subst (λ (l : List ℕ). AllByRecursion (λ (n : ℕ). m.told.ended n ≡ false) l) (sym c.deref.ensures.value)
    (left-spared a m left deeds e fails (g.met.P.Spawner.spared c.args.spawner.now))

pub returns-clause-does : goal.returns-clause-does
returns-clause-does g c =
    let a : Beside SpawnerTold = beside (g.P.Spawner.told c.args.spawner.now) (g.K.Sink.written c.args.out.now) in
    let m : Beside SpawnerTold = beside (g.P.Spawner.told c.run_children.new.spawner) (g.K.Sink.written c.run_children.new.out) in
    let left = c.run_children.new.left.items in
    let deeds = cluster_deeds c.args.plan.now c.args.site.now.config (g.P.Spawner.told c.args.spawner.now).children in
    let e = c.in-Err.error in
    let fails : ClusterFails (LeavesChildren [] left a m) deeds a m e = subst (λ (l : List ℕ). ClusterFails (LeavesChildren l left a m) deeds a m e) c.new-left.ensures.items c.in-Err.ensures.does in
    let z : Beside SpawnerTold = beside (g.P.Spawner.told c.end_all.new.spawner) (g.K.Sink.written c.run_children.new.out) in
    fails-ended a m left z (starts-none m z c.end_all.ensures.started c.end_all.ensures.children c.end_all.ensures.statuses) c.end_all.ensures.unstarted refl
    (subst (λ (l : List ℕ). EndsThese l m.told.ended z.told.ended) c.deref.ensures.value c.end_all.ensures.ended) deeds e fails
