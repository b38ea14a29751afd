use Rattle.std.proofs.Common.{◌++◌, ◌≡◌, ◌+◌, ◌<◌, ℕ, List, length, sym, ap, subst, ◌∙◌, arith, append_assoc}
use Rattle.std.specs.List.{AllByRecursion}
use Rattle.cs_base.specs.declared.node_id.NodeId.{NodeId}
use Rattle.cs_wire.specs.AllNames.{nodes_of}
use Rattle.cs_io.specs.Outside.{SpawnerTold, Beside, beside}
use Rattle.cs_spawn.specs.Deeds.{numbered, node_starts, call_deeds, node_waits, cluster_deeds}
use Rattle.cs_spawn.specs.Running.{ClusterFails, LeavesChildren, ClusterGoesOn}
use Rattle.cs_spawn.proofs.Going.{Done, goes-after, wants-at_once, stops-early, stops-there, not-the-sink, more-children}
use Rattle.cs_spawn.proofs.Plans.{many-starts, numbered-below}
use Rattle.cs_spawn.proofs.running.run_children.Goals as goal

pub returns-in_err-nodes-clause-does : goal.returns-in_err-nodes-clause-does
returns-in_err-nodes-clause-does g c =
    let a : Beside SpawnerTold = beside (g.P.Spawner.told c.args.spawner.now) (g.K.Sink.written c.args.out.now) in
    wants-at_once a c.args.left.now.items (cluster_deeds c.args.plan.now c.args.site.now.config (g.P.Spawner.told c.args.spawner.now).children) c.from_residual.result c.from_residual.ensures.1

pub returns-in_err-running-clause-does : goal.returns-in_err-running-clause-does
returns-in_err-running-clause-does g c =
    let a : Beside SpawnerTold = beside (g.P.Spawner.told c.args.spawner.now) (g.K.Sink.written c.args.out.now) in
    let b : Beside SpawnerTold = beside (g.P.Spawner.told c.start_nodes.new.spawner) (g.K.Sink.written c.args.out.now) in
    let plan = c.args.plan.now in
    let first = (g.P.Spawner.told c.args.spawner.now).children in
    let nodes = nodes_of c.args.site.now.config in
    let same : c.as_slice.result.now ≡ nodes = c.as_slice.ensures ∙ c.in_ok-nodes.ensures in
    let e = c.in_err-running.field-0.0 in
    stops-early a b c.args.left.now.items c.start_nodes.new.left.items (node_starts plan nodes) (call_deeds plan 0 (first + length nodes) plan.calls ++ node_waits (numbered first nodes)) e c.from_residual-in_err-running.result
    (subst (λ (l : List NodeId). ClusterFails (LeavesChildren c.args.left.now.items c.start_nodes.new.left.items a b) (node_starts plan l) a b e) same (c.in_err-running.ensures.does (g.K.Sink.written c.args.out.now))) c.from_residual-in_err-running.ensures.1

pub returns-in_err-running-clause-sink : goal.returns-in_err-running-clause-sink
returns-in_err-running-clause-sink g c =
    not-the-sink c.in_err-running.field-0.0 c.from_residual-in_err-running.result (g.K.Sink.faults c.args.out.now) c.from_residual-in_err-running.ensures.1 c.in_err-running.ensures.other

pub returns-in_err-run_calls-clause-does : goal.returns-in_err-run_calls-clause-does
returns-in_err-run_calls-clause-does g c =
    let a : Beside SpawnerTold = beside (g.P.Spawner.told c.args.spawner.now) (g.K.Sink.written c.args.out.now) in
    let b : Beside SpawnerTold = beside (g.P.Spawner.told c.start_nodes.new.spawner) (g.K.Sink.written c.args.out.now) in
    let d : Beside SpawnerTold = beside (g.P.Spawner.told c.run_calls.new.spawner) (g.K.Sink.written c.run_calls.new.out) in
    let plan = c.args.plan.now in
    let first = (g.P.Spawner.told c.args.spawner.now).children in
    let nodes = nodes_of c.args.site.now.config in
    let same : c.as_slice.result.now ≡ nodes = c.as_slice.ensures ∙ c.in_ok-nodes.ensures in
    let started : Done (node_starts plan nodes) c.args.left.now.items c.start_nodes.new.left.items a b = subst (λ (l : List NodeId). Done (node_starts plan l) c.args.left.now.items c.start_nodes.new.left.items a b) same (c.in_ok-running.ensures.does (g.K.Sink.written c.args.out.now)) in
    let so_many : (g.P.Spawner.told c.start_nodes.new.spawner).children ≡ first + length nodes = more-children a b (node_starts plan nodes) started.0 ∙ ap (λ n. first + n) (many-starts plan nodes) in
    let e = c.in_err-run_calls.field-0.0 in
    let calls = call_deeds plan 0 (first + length nodes) plan.calls in
    let waits = node_waits (numbered first nodes) in
    stops-there a b d c.args.left.now.items c.start_nodes.new.left.items c.run_calls.new.left.items (node_starts plan nodes ++ (calls ++ waits)) (node_starts plan nodes) calls waits e c.from_residual-in_err-run_calls.result
    (sym (append_assoc (node_starts plan nodes) calls waits)) started
    (subst (λ (n : ℕ). ClusterFails (LeavesChildren c.start_nodes.new.left.items c.run_calls.new.left.items b d) (call_deeds plan 0 n plan.calls) b d e) so_many c.in_err-run_calls.ensures.does) c.from_residual-in_err-run_calls.ensures.1

pub await_nodes-requires : goal.await_nodes-requires
await_nodes-requires g c =
    let a : Beside SpawnerTold = beside (g.P.Spawner.told c.args.spawner.now) (g.K.Sink.written c.args.out.now) in
    let b : Beside SpawnerTold = beside (g.P.Spawner.told c.start_nodes.new.spawner) (g.K.Sink.written c.args.out.now) in
    let d : Beside SpawnerTold = beside (g.P.Spawner.told c.run_calls.new.spawner) (g.K.Sink.written c.run_calls.new.out) in
    let plan = c.args.plan.now in
    let first = (g.P.Spawner.told c.args.spawner.now).children in
    let list = c.as_slice.result.now in
    let most = (g.P.Spawner.told c.run_calls.new.spawner).children in
    let more = more-children a b (node_starts plan list) (c.in_ok-running.ensures.does (g.K.Sink.written c.args.out.now)).0 in
    let many = many-starts plan list in
    let later = more-children b d (call_deeds plan 0 (g.P.Spawner.told c.start_nodes.new.spawner).children plan.calls) c.in_ok-run_calls.ensures.does.0 in
    let running : c.as_slice-2.result.now ≡ numbered first list = c.as_slice-2.ensures ∙ c.in_ok-running.ensures.running in
    subst (λ (l : List (NodeId × ℕ)). AllByRecursion (λ (node : NodeId × ℕ). node.1 < most) l) (sym {a = c.as_slice-2.result.now} {b = numbered first list} running)
    (numbered-below first list most (omega (arith, more, many, later)))

pub returns-clause-does : goal.returns-clause-does
returns-clause-does g c =
    let a : Beside SpawnerTold = beside (g.P.Spawner.told c.args.spawner.now) (g.K.Sink.written c.args.out.now) in
    let b : Beside SpawnerTold = beside (g.P.Spawner.told c.start_nodes.new.spawner) (g.K.Sink.written c.args.out.now) in
    let d : Beside SpawnerTold = beside (g.P.Spawner.told c.run_calls.new.spawner) (g.K.Sink.written c.run_calls.new.out) in
    let z : Beside SpawnerTold = beside (g.P.Spawner.told c.await_nodes.new.spawner) (g.K.Sink.written c.await_nodes.new.out) in
    let plan = c.args.plan.now in
    let first = (g.P.Spawner.told c.args.spawner.now).children in
    let nodes = nodes_of c.args.site.now.config in
    let same : c.as_slice.result.now ≡ nodes = c.as_slice.ensures ∙ c.in_ok-nodes.ensures in
    let started : Done (node_starts plan nodes) c.args.left.now.items c.start_nodes.new.left.items a b = subst (λ (l : List NodeId). Done (node_starts plan l) c.args.left.now.items c.start_nodes.new.left.items a b) same (c.in_ok-running.ensures.does (g.K.Sink.written c.args.out.now)) in
    let so_many : (g.P.Spawner.told c.start_nodes.new.spawner).children ≡ first + length nodes = more-children a b (node_starts plan nodes) started.0 ∙ ap (λ n. first + n) (many-starts plan nodes) in
    let calls = call_deeds plan 0 (first + length nodes) plan.calls in
    let waits = node_waits (numbered first nodes) in
    let running : c.as_slice-2.result.now ≡ numbered first nodes = c.as_slice-2.ensures ∙ c.in_ok-running.ensures.running ∙ ap (λ (l : List NodeId). numbered first l) same in
    let result = c.await_nodes.result in
    goes-after a b z c.args.left.now.items c.start_nodes.new.left.items c.await_nodes.new.left.items (node_starts plan nodes) (calls ++ waits) started result
    (goes-after b d z c.start_nodes.new.left.items c.run_calls.new.left.items c.await_nodes.new.left.items calls waits (subst (λ (n : ℕ). Done (call_deeds plan 0 n plan.calls) c.start_nodes.new.left.items c.run_calls.new.left.items b d) so_many c.in_ok-run_calls.ensures.does) result
    (subst (λ (l : List (NodeId × ℕ)). ClusterGoesOn (node_waits l) c.run_calls.new.left.items c.await_nodes.new.left.items d z result) running c.await_nodes.ensures.does))
