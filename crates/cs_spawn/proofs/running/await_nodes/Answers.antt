use Rattle.std.proofs.Common.{[], ◌∷◌, ◌≡◌, ◌<◌, ℕ, List, get_or, refl, ap, ◌∙◌, arith}
use Rattle.cs_base.specs.declared.node_id.NodeId.{NodeId}
use Rattle.cs_io.specs.Outside.{SpawnerTold, Beside, beside}
use Rattle.cs_spawn.specs.Words.{node_title}
use Rattle.cs_spawn.specs.Deeds.{ClusterDeed, Wait}
use Rattle.cs_spawn.proofs.Going.{more-children}
use Rattle.cs_spawn.proofs.Plans.{all_at}
use Rattle.cs_spawn.proofs.Steps.{each-wants, each-next, each-stops}
use Rattle.cs_spawn.proofs.running.await_nodes.Goals as goal

pub returns-in_err-title-clause-does : goal.returns-in_err-title-clause-does
returns-in_err-title-clause-does g c =
    let f : NodeId × ℕ → ClusterDeed = λ node. Wait (node_title node.0) node.1 in
    let a : Beside SpawnerTold = beside (g.P.Spawner.told c.args.spawner.now) (g.K.Sink.written c.args.out.now) in
    let b : Beside SpawnerTold = beside (g.P.Spawner.told c.loop-node.spawner) (g.K.Sink.written c.loop-node.out) in
    each-wants f c.args.running.now c.loop-node.node-index a b c.args.left.now.items c.loop-node.left.items c.from_residual.result c.loop-node.invariant.does c.from_residual.ensures.1

pub await_end-requires : goal.await_end-requires
await_end-requires g c =
    let running = c.args.running.now in
    let i = c.loop-node.node-index in
    let none : NodeId × ℕ = (record { shard = 0; index = 0 }, 0) in
    let below = all_at (λ (node : NodeId × ℕ). node.1 < (g.P.Spawner.told c.args.spawner.now).children) running i (get_or running i none) none c.requires c.loop-node-test.true refl in
    let same = c.loop-node.invariant.children in
    omega (arith, below, same)

pub returns-in_err-await_end-clause-does : goal.returns-in_err-await_end-clause-does
returns-in_err-await_end-clause-does g c =
    let f : NodeId × ℕ → ClusterDeed = λ node. Wait (node_title node.0) node.1 in
    let a : Beside SpawnerTold = beside (g.P.Spawner.told c.args.spawner.now) (g.K.Sink.written c.args.out.now) in
    let b : Beside SpawnerTold = beside (g.P.Spawner.told c.loop-node.spawner) (g.K.Sink.written c.loop-node.out) in
    let d : Beside SpawnerTold = beside (g.P.Spawner.told c.await_end.new.spawner) (g.K.Sink.written c.await_end.new.out) in
    let running = c.args.running.now in
    let i = c.loop-node.node-index in
    let none : NodeId × ℕ = (record { shard = 0; index = 0 }, 0) in
    let node : NodeId × ℕ = get_or running i none in
    let titled : c.deref.result.now ≡ node_title node.0 = c.deref.ensures ∙ c.in_ok-title.ensures in
    each-stops f running i node none c.loop-node-test.true refl (Wait c.deref.result.now node.1) (ap (λ (t : List ℕ). Wait t node.1) titled) a b d c.args.left.now.items c.loop-node.left.items c.await_end.new.left.items c.in_err-await_end.field-0.0 c.from_residual-in_err-await_end.result
    c.loop-node.invariant.does c.in_err-await_end.ensures.does c.from_residual-in_err-await_end.ensures.1

pub loop-node-preserved : goal.loop-node-preserved
loop-node-preserved g c =
    let f : NodeId × ℕ → ClusterDeed = λ node. Wait (node_title node.0) node.1 in
    let a : Beside SpawnerTold = beside (g.P.Spawner.told c.args.spawner.now) (g.K.Sink.written c.args.out.now) in
    let b : Beside SpawnerTold = beside (g.P.Spawner.told c.loop-node.spawner) (g.K.Sink.written c.loop-node.out) in
    let d : Beside SpawnerTold = beside (g.P.Spawner.told c.await_end.new.spawner) (g.K.Sink.written c.await_end.new.out) in
    let running = c.args.running.now in
    let i = c.loop-node.node-index in
    let none : NodeId × ℕ = (record { shard = 0; index = 0 }, 0) in
    let node : NodeId × ℕ = get_or running i none in
    let titled : c.deref.result.now ≡ node_title node.0 = c.deref.ensures ∙ c.in_ok-title.ensures in
    let more = more-children b d (Wait c.deref.result.now node.1 ∷ []) c.in_ok-await_end.ensures.does.0 in
    let so_many = c.loop-node.invariant.children in
    let spawner = c.loop-node.invariant.spawner in
    let spawner_later = c.in_ok-await_end.ensures.spawner.later in
    let sink = c.loop-node.invariant.sink in
    let sink_later = c.in_ok-await_end.ensures.sink.later in
    record {
      does = each-next f running i node none c.loop-node-test.true refl (Wait c.deref.result.now node.1) (ap (λ (t : List ℕ). Wait t node.1) titled) a b d c.args.left.now.items c.loop-node.left.items c.await_end.new.left.items c.loop-node.invariant.does c.in_ok-await_end.ensures.does;
      children = omega (arith, more, so_many);
      spawner = omega (arith, spawner, spawner_later);
      sink = omega (arith, sink, sink_later);
    }
