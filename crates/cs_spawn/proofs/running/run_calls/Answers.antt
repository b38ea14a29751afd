use Rattle.std.proofs.Common.{◌≡◌, ℕ, ◌<◌, List, length, get_or, ap, subst, ◌∙◌, arith}
use Rattle.cs_spawn.proofs.Steps.{call-next, call-stops}
use Rattle.cs_spawn.proofs.Going.{more-children}
use Rattle.cs_spawn.specs.Words.{client_words, client_title}
use Rattle.cs_spawn.specs.Deeds.{Start, Wait}
use Rattle.std.proofs.Common.{[], ◌∷◌}
use Rattle.cs_io.specs.Outside.{SpawnerTold, Beside, beside}
use Rattle.cs_spawn.proofs.running.run_calls.Goals as goal

pub returns-in_err-run_call-clause-does : goal.returns-in_err-run_call-clause-does
returns-in_err-run_call-clause-does g c =
    let a : Beside SpawnerTold = beside (g.P.Spawner.told c.args.spawner.now) (g.K.Sink.written c.args.out.now) in
    let b : Beside SpawnerTold = beside (g.P.Spawner.told c.loop-number.spawner) (g.K.Sink.written c.loop-number.out) in
    let d : Beside SpawnerTold = beside (g.P.Spawner.told c.run_call.new.spawner) (g.K.Sink.written c.run_call.new.out) in
    let i = c.loop-number.number in
    let call = c.call-item.result in
    let same : c.as_slice-call-items.result.now ≡ c.args.plan.now.calls = c.as_slice-call-items.ensures in
    let within : i < length c.args.plan.now.calls = subst (λ (l : List (List ℕ)). i < length l) same c.loop-number-test.true in
    call-stops c.args.plan.now (g.P.Spawner.told c.args.spawner.now).children c.args.plan.now.calls i (g.P.Spawner.told c.loop-number.spawner).children call call c.as_str.result.now within
    (c.call-item.is ∙ ap (λ (l : List (List ℕ)). get_or l i call) same) c.as_str.ensures c.loop-number.invariant.children a b d c.args.left.now.items c.loop-number.left.items c.run_call.new.left.items c.in_err-run_call.field-0.0 c.from_residual.result
    c.loop-number.invariant.does c.in_err-run_call.ensures.does c.from_residual.ensures.1

pub loop-number-preserved : goal.loop-number-preserved
loop-number-preserved g c =
    let a : Beside SpawnerTold = beside (g.P.Spawner.told c.args.spawner.now) (g.K.Sink.written c.args.out.now) in
    let b : Beside SpawnerTold = beside (g.P.Spawner.told c.loop-number.spawner) (g.K.Sink.written c.loop-number.out) in
    let d : Beside SpawnerTold = beside (g.P.Spawner.told c.run_call.new.spawner) (g.K.Sink.written c.run_call.new.out) in
    let i = c.loop-number.number in
    let call = c.call-item.result in
    let same : c.as_slice-call-items.result.now ≡ c.args.plan.now.calls = c.as_slice-call-items.ensures in
    let within : i < length c.args.plan.now.calls = subst (λ (l : List (List ℕ)). i < length l) same c.loop-number-test.true in
    let more = more-children b d (Start (client_words c.args.plan.now c.as_str.result.now) ∷ Wait (client_title i) (g.P.Spawner.told c.loop-number.spawner).children ∷ []) c.in_ok-run_call.ensures.does.0 in
    let so_many = c.loop-number.invariant.children in
    let spawner = c.loop-number.invariant.spawner in
    let spawner_later = c.in_ok-run_call.ensures.spawner.later in
    let sink = c.loop-number.invariant.sink in
    let sink_later = c.in_ok-run_call.ensures.sink.later in
    record {
      does = call-next c.args.plan.now (g.P.Spawner.told c.args.spawner.now).children c.args.plan.now.calls i (g.P.Spawner.told c.loop-number.spawner).children call call c.as_str.result.now within
          (c.call-item.is ∙ ap (λ (l : List (List ℕ)). get_or l i call) same) c.as_str.ensures c.loop-number.invariant.children a b d c.args.left.now.items c.loop-number.left.items c.run_call.new.left.items c.loop-number.invariant.does c.in_ok-run_call.ensures.does;
      children = omega (arith, more, so_many);
      spawner = omega (arith, spawner, spawner_later);
      sink = omega (arith, sink, sink_later);
    }
