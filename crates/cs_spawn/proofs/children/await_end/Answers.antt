use Rattle.std.proofs.Common.{[], ◌∷◌, ◌≡◌, inr, refl, subst, ◌∙◌, List, ℕ}
use Rattle.std.proofs.KnownBytes.{Appends-nil}
use Rattle.cs_base.specs.Answers.{AppendsFront}
use Rattle.cs_io.specs.Outside.{SpawnerTold, Beside, beside}
use Rattle.cs_spawn.specs.Words.{child_end_line}
use Rattle.cs_spawn.specs.Deeds.{Wait}
use Rattle.cs_spawn.specs.declared.error.ClusterError.TheVariants.{Memory}
use Rattle.cs_spawn.proofs.Going.{starts-none, does-none, front-kept, wait-broke, goes-so}
use Rattle.cs_spawn.proofs.children.await_end.Goals as goal

pub returns-in-Failed-clause-does : goal.returns-in-Failed-clause-does
returns-in-Failed-clause-does g c =
    let a : Beside SpawnerTold = beside (g.P.Spawner.told c.args.spawner.now) (g.K.Sink.written c.args.out.now) in
    let b : Beside SpawnerTold = beside (g.P.Spawner.told c.wait.new.self) (g.K.Sink.written c.args.out.now) in
    front-kept a b c.args.left.now.items c.args.left.now.items (Wait c.args.title.now c.args.child ∷ [])
    (starts-none a b c.in-Failed.ensures.started c.in-Failed.ensures.children c.in-Failed.ensures.statuses) c.in-Failed.ensures.unstarted c.in-Failed.ensures.ended refl refl

pub returns-in_err-line-clause-does : goal.returns-in_err-line-clause-does
returns-in_err-line-clause-does g c =
    let a : Beside SpawnerTold = beside (g.P.Spawner.told c.args.spawner.now) (g.K.Sink.written c.args.out.now) in
    let b : Beside SpawnerTold = beside (g.P.Spawner.told c.wait.new.self) (g.K.Sink.written c.args.out.now) in
    let line : List ℕ = child_end_line c.args.title.now c.in-Ended.status in
    let none : AppendsFront a.written b.written line = ([], line, refl, Appends-nil a.written) in
    goes-so a b c.args.left.now.items c.forget.new.left.items (Wait c.args.title.now c.args.child ∷ []) Memory c.from_residual.result c.from_residual.ensures.1
    (inr (wait-broke a b c.args.left.now.items c.forget.new.left.items c.args.title.now c.args.child c.in-Ended.status c.in-Ended.ensures.status
    (starts-none a b c.in-Ended.ensures.started c.in-Ended.ensures.children c.in-Ended.ensures.statuses) c.in-Ended.ensures.unstarted c.in-Ended.ensures.ended c.forget.ensures none))

pub returns-in-Err-Failed-clause-does : goal.returns-in-Err-Failed-clause-does
returns-in-Err-Failed-clause-does g c =
    let a : Beside SpawnerTold = beside (g.P.Spawner.told c.args.spawner.now) (g.K.Sink.written c.args.out.now) in
    let b : Beside SpawnerTold = beside (g.P.Spawner.told c.wait.new.self) (g.K.Sink.written c.print.new.output) in
    let text : c.as_bytes.result.now ≡ child_end_line c.args.title.now c.in-Ended.status = c.as_bytes.ensures.value ∙ c.in_ok-line.ensures in
    wait-broke a b c.args.left.now.items c.forget.new.left.items c.args.title.now c.args.child c.in-Ended.status c.in-Ended.ensures.status
    (starts-none a b c.in-Ended.ensures.started c.in-Ended.ensures.children c.in-Ended.ensures.statuses) c.in-Ended.ensures.unstarted c.in-Ended.ensures.ended c.forget.ensures
    (subst (λ (l : List ℕ). AppendsFront a.written b.written l) text c.in-Err-Failed.ensures.part)

pub returns-clause-does : goal.returns-clause-does
returns-clause-does g c =
    let a : Beside SpawnerTold = beside (g.P.Spawner.told c.args.spawner.now) (g.K.Sink.written c.args.out.now) in
    let b : Beside SpawnerTold = beside (g.P.Spawner.told c.wait.new.self) (g.K.Sink.written c.print.new.output) in
    let text : c.as_bytes.result.now ≡ child_end_line c.args.title.now c.in-Ended.status = c.as_bytes.ensures.value ∙ c.in_ok-line.ensures in
    inr (wait-broke a b c.args.left.now.items c.forget.new.left.items c.args.title.now c.args.child c.in-Ended.status c.in-Ended.ensures.status
    (starts-none a b c.in-Ended.ensures.started c.in-Ended.ensures.children c.in-Ended.ensures.statuses) c.in-Ended.ensures.unstarted c.in-Ended.ensures.ended c.forget.ensures
    (subst (λ (l : List ℕ). AppendsFront a.written b.written l) text c.in-Err-Memory.ensures.part))
