use Rattle.std.proofs.Common.{[], ◌∷◌, ◌≡◌, ◌+◌, ◌++◌, sym, ℕ, List, None, Result, Err, map, string_bytes, get_or, refl, ap, subst, ◌∙◌, arith}
use Rattle.std.proofs.lemmas.List.{take_all}
use Rattle.cs_base.specs.declared.node_id.NodeId.{NodeId}
use Rattle.cs_io.specs.Outside.{SpawnerTold, Beside, beside}
use Rattle.cs_spawn.specs.Words.{node_words}
use Rattle.cs_spawn.specs.Deeds.{ClusterDeed, Start, node_starts}
use Rattle.cs_spawn.specs.declared.error.ClusterError.{ClusterError}
use Rattle.cs_spawn.specs.declared.error.ClusterError.TheVariants.{Memory}
use Rattle.cs_spawn.proofs.Going.{Done, more-children}
use Rattle.cs_spawn.proofs.Plans.{numbered-next}
use Rattle.cs_spawn.proofs.Steps.{each-wants, each-next, each-stops}
use Rattle.cs_spawn.proofs.running.start_nodes.Goals as goal

pub returns-in_err-words-clause-does : goal.returns-in_err-words-clause-does
returns-in_err-words-clause-does g c = λ w.
    let f : NodeId → ClusterDeed = λ me. Start (node_words c.args.plan.now me) in
    let a : Beside SpawnerTold = beside (g.P.Spawner.told c.args.spawner.now) w in
    let b : Beside SpawnerTold = beside (g.P.Spawner.told c.loop-me.spawner) w in
    each-wants f c.args.nodes.now c.loop-me.me-index a b c.args.left.now.items c.loop-me.left.items c.from_residual.result (c.loop-me.invariant.does w) c.from_residual.ensures.1

pub returns-in_err-child-clause-does : goal.returns-in_err-child-clause-does
returns-in_err-child-clause-does g c = λ w.
    let f : NodeId → ClusterDeed = λ me. Start (node_words c.args.plan.now me) in
    let a : Beside SpawnerTold = beside (g.P.Spawner.told c.args.spawner.now) w in
    let b : Beside SpawnerTold = beside (g.P.Spawner.told c.loop-me.spawner) w in
    let d : Beside SpawnerTold = beside (g.P.Spawner.told c.start.new.spawner) w in
    let nodes = c.args.nodes.now in
    let i = c.loop-me.me-index in
    let none : NodeId = record { shard = 0; index = 0 } in
    let me : NodeId = get_or nodes i none in
    let spelled : map string_bytes c.deref.result.now ≡ node_words c.args.plan.now me = ap (map string_bytes) c.deref.ensures.value ∙ c.in_ok-words.ensures in
    each-stops f nodes i me none c.loop-me-test.true refl (Start (map string_bytes c.deref.result.now)) (ap Start spelled) a b d c.args.left.now.items c.loop-me.left.items c.start.new.left.items c.in_err-child.field-0.0 c.from_residual-in_err-child.result
    (c.loop-me.invariant.does w) (c.in_err-child.ensures.does w) c.from_residual-in_err-child.ensures.1

pub loop-me-preserved : goal.loop-me-preserved
loop-me-preserved g c =
    let f : NodeId → ClusterDeed = λ me. Start (node_words c.args.plan.now me) in
    let nodes = c.args.nodes.now in
    let i = c.loop-me.me-index in
    let none : NodeId = record { shard = 0; index = 0 } in
    let me : NodeId = get_or nodes i none in
    let spelled : map string_bytes c.deref.result.now ≡ node_words c.args.plan.now me = ap (map string_bytes) c.deref.ensures.value ∙ c.in_ok-words.ensures in
    let first = (g.P.Spawner.told c.args.spawner.now).children in
    let child = c.in_ok-child.child in
    let so_many = c.loop-me.invariant.children in
    let number : child ≡ first + i = c.in_ok-child.ensures.number ∙ so_many in
    let more = more-children (beside (g.P.Spawner.told c.loop-me.spawner) None) (beside (g.P.Spawner.told c.start.new.spawner) None) (Start (map string_bytes c.deref.result.now) ∷ []) (c.in_ok-child.ensures.does None).0 in
    let faults = c.loop-me.invariant.faults in
    let later = c.in_ok-child.ensures.cause.later in
    record {
      does = λ w. each-next f nodes i me none c.loop-me-test.true refl (Start (map string_bytes c.deref.result.now)) (ap Start spelled)
          (beside (g.P.Spawner.told c.args.spawner.now) w)
          (beside (g.P.Spawner.told c.loop-me.spawner) w)
          (beside (g.P.Spawner.told c.start.new.spawner) w)
          c.args.left.now.items c.loop-me.left.items c.start.new.left.items
          (c.loop-me.invariant.does w) (c.in_ok-child.ensures.does w);
      children = omega (arith, more, so_many);
      running = c.in-Ok.ensures.ok ∙ ap (λ (l : List (NodeId × ℕ)). l ++ (me, child) ∷ []) c.loop-me.invariant.running ∙ sym (numbered-next first nodes i me none child c.loop-me-test.true refl number);
      faults = omega (arith, faults, later);
    }

pub returns-in_default-clause-does : goal.returns-in_default-clause-does
returns-in_default-clause-does g c = λ w.
    let f : NodeId → ClusterDeed = λ me. Start (node_words c.args.plan.now me) in
    let a : Beside SpawnerTold = beside (g.P.Spawner.told c.args.spawner.now) w in
    let b : Beside SpawnerTold = beside (g.P.Spawner.told c.loop-me.spawner) w in
    let d : Beside SpawnerTold = beside (g.P.Spawner.told c.start.new.spawner) w in
    let nodes = c.args.nodes.now in
    let i = c.loop-me.me-index in
    let none : NodeId = record { shard = 0; index = 0 } in
    let me : NodeId = get_or nodes i none in
    let spelled : map string_bytes c.deref.result.now ≡ node_words c.args.plan.now me = ap (map string_bytes) c.deref.ensures.value ∙ c.in_ok-words.ensures in
    let result : Result Unit ClusterError = Err Memory in
    each-wants f nodes (i + 1) a d c.args.left.now.items c.start.new.left.items result
    (each-next f nodes i me none c.loop-me-test.true refl (Start (map string_bytes c.deref.result.now)) (ap Start spelled) a b d c.args.left.now.items c.loop-me.left.items c.start.new.left.items (c.loop-me.invariant.does w) (c.in_ok-child.ensures.does w)) refl

pub returns-clause-does : goal.returns-clause-does
returns-clause-does g c = λ w.
    let a : Beside SpawnerTold = beside (g.P.Spawner.told c.args.spawner.now) w in
    let b : Beside SpawnerTold = beside (g.P.Spawner.told c.loop-me.spawner) w in
    subst (λ (l : List NodeId). Done (node_starts c.args.plan.now l) c.args.left.now.items c.loop-me.left.items a b) (take_all c.loop-me.me-index c.args.nodes.now c.loop-me-test.false) (c.loop-me.invariant.does w)
