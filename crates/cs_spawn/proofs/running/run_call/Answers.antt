use Rattle.std.proofs.Common.{[], ◌∷◌, ◌≡◌, ap, subst, ◌∙◌, List, ℕ, map, string_bytes, arith}
use Rattle.cs_io.specs.Outside.{SpawnerTold, Beside, beside}
use Rattle.cs_spawn.specs.Words.{client_words, client_title}
use Rattle.cs_spawn.specs.Deeds.{Start, Wait}
use Rattle.cs_spawn.specs.Running.{ClusterFails, LeavesChildren, ClusterGoesOn}
use Rattle.cs_spawn.proofs.Going.{Done, goes-after, wants-at_once, stops-early, not-the-sink, more-children}
use Rattle.cs_spawn.proofs.running.run_call.Goals as goal

pub returns-in_err-words-clause-does : goal.returns-in_err-words-clause-does
returns-in_err-words-clause-does g c =
    let a : Beside SpawnerTold = beside (g.P.Spawner.told c.args.spawner.now) (g.K.Sink.written c.args.out.now) in
    wants-at_once a c.args.left.now.items (Start (client_words c.args.plan.now c.args.call.now) ∷ Wait (client_title c.args.number) (g.P.Spawner.told c.args.spawner.now).children ∷ []) c.from_residual.result c.from_residual.ensures.1

pub returns-in_err-title-clause-does : goal.returns-in_err-title-clause-does
returns-in_err-title-clause-does g c =
    let a : Beside SpawnerTold = beside (g.P.Spawner.told c.args.spawner.now) (g.K.Sink.written c.args.out.now) in
    wants-at_once a c.args.left.now.items (Start (client_words c.args.plan.now c.args.call.now) ∷ Wait (client_title c.args.number) (g.P.Spawner.told c.args.spawner.now).children ∷ []) c.from_residual-in_err-title.result c.from_residual-in_err-title.ensures.1

pub returns-in_err-child-clause-does : goal.returns-in_err-child-clause-does
returns-in_err-child-clause-does g c =
    let a : Beside SpawnerTold = beside (g.P.Spawner.told c.args.spawner.now) (g.K.Sink.written c.args.out.now) in
    let b : Beside SpawnerTold = beside (g.P.Spawner.told c.start.new.spawner) (g.K.Sink.written c.args.out.now) in
    let spelled : map string_bytes c.deref.result.now ≡ client_words c.args.plan.now c.args.call.now = ap (map string_bytes) c.deref.ensures.value ∙ c.in_ok-words.ensures in
    let e = c.in_err-child.field-0.0 in
    stops-early a b c.args.left.now.items c.start.new.left.items (Start (client_words c.args.plan.now c.args.call.now) ∷ []) (Wait (client_title c.args.number) (g.P.Spawner.told c.args.spawner.now).children ∷ []) e c.from_residual-in_err-child.result
    (subst (λ (words : List (List ℕ)). ClusterFails (LeavesChildren c.args.left.now.items c.start.new.left.items a b) (Start words ∷ []) a b e) spelled (c.in_err-child.ensures.does (g.K.Sink.written c.args.out.now))) c.from_residual-in_err-child.ensures.1

pub returns-in_err-child-clause-sink : goal.returns-in_err-child-clause-sink
returns-in_err-child-clause-sink g c =
    not-the-sink c.in_err-child.field-0.0 c.from_residual-in_err-child.result (g.K.Sink.faults c.args.out.now) c.from_residual-in_err-child.ensures.1 c.in_err-child.ensures.other

pub await_end-requires : goal.await_end-requires
await_end-requires g c =
    let a : Beside SpawnerTold = beside (g.P.Spawner.told c.args.spawner.now) (g.K.Sink.written c.args.out.now) in
    let b : Beside SpawnerTold = beside (g.P.Spawner.told c.start.new.spawner) (g.K.Sink.written c.args.out.now) in
    let more = more-children a b (Start (map string_bytes c.deref.result.now) ∷ []) (c.in_ok-child.ensures.does (g.K.Sink.written c.args.out.now)).0 in
    let number = c.in_ok-child.ensures.number in
    omega (arith, more, number)

pub returns-clause-does : goal.returns-clause-does
returns-clause-does g c =
    let a : Beside SpawnerTold = beside (g.P.Spawner.told c.args.spawner.now) (g.K.Sink.written c.args.out.now) in
    let b : Beside SpawnerTold = beside (g.P.Spawner.told c.start.new.spawner) (g.K.Sink.written c.args.out.now) in
    let d : Beside SpawnerTold = beside (g.P.Spawner.told c.await_end.new.spawner) (g.K.Sink.written c.await_end.new.out) in
    let spelled : map string_bytes c.deref.result.now ≡ client_words c.args.plan.now c.args.call.now = ap (map string_bytes) c.deref.ensures.value ∙ c.in_ok-words.ensures in
    let titled : c.deref-2.result.now ≡ client_title c.args.number = c.deref-2.ensures ∙ c.in_ok-title.ensures in
    let l = c.args.left.now.items in
    let m = c.start.new.left.items in
    let n = c.await_end.new.left.items in
    let result = c.await_end.result in
    goes-after a b d l m n (Start (client_words c.args.plan.now c.args.call.now) ∷ []) (Wait (client_title c.args.number) (g.P.Spawner.told c.args.spawner.now).children ∷ [])
    (subst (λ (words : List (List ℕ)). Done (Start words ∷ []) l m a b) spelled (c.in_ok-child.ensures.does (g.K.Sink.written c.args.out.now)))
    result
    (subst (λ (title : List ℕ). ClusterGoesOn (Wait title (g.P.Spawner.told c.args.spawner.now).children ∷ []) m n b d result) titled
    (subst (λ (child : ℕ). ClusterGoesOn (Wait c.deref-2.result.now child ∷ []) m n b d result) c.in_ok-child.ensures.number c.await_end.ensures.does))
