use Rattle.std.proofs.Common.{◌≡◌, ℕ, ◌<◌, Bool, false, List, length, get_or, refl, arith, subst, ◌∙◌}
use Rattle.std.proofs.lemmas.List.{take_all}
use Rattle.cs_io.specs.laws.Told.{stays-same, stays-both}
use Rattle.cs_io.specs.Spawner.{EndsThese}
use Rattle.cs_spawn.proofs.Plans.{all_at}
use Rattle.cs_spawn.proofs.Left.{rise-below, ends-none, ends-next, spared-next}
use Rattle.cs_spawn.proofs.children.end_all.Goals as goal

pub loop-child-init : goal.loop-child-init
loop-child-init g c = record {
  ended = ends-none (g.P.Spawner.told c.args.spawner.now).ended;
  started = stays-same (g.P.Spawner.told c.args.spawner.now).started;
  children = refl;
  unstarted = refl;
  statuses = stays-same (g.P.Spawner.told c.args.spawner.now).statuses;
  faults = omega arith;
}

pub end-requires : goal.end-requires
end-requires g c =
    let children = c.args.children.now in
    let i = c.loop-child.child-index in
    let most = (g.P.Spawner.told c.args.spawner.now).children in
    let told : ℕ → Bool = (g.P.Spawner.told c.args.spawner.now).ended in
    let spared = all_at (λ (n : ℕ). told n ≡ false) children i (get_or children i 0) 0 c.requires.spared c.loop-child-test.true refl in
    let below = rise-below 0 most children i c.requires.there c.loop-child-test.true in
    let same = c.loop-child.invariant.children in
    record {
      there = omega (arith, below, same);
      once = spared-next 0 most children i told (g.P.Spawner.told c.loop-child.spawner).ended c.requires.there c.loop-child-test.true spared c.loop-child.invariant.ended;
    }

pub loop-child-preserved : goal.loop-child-preserved
loop-child-preserved g c =
    let children = c.args.children.now in
    let i = c.loop-child.child-index in
    let faults = c.loop-child.invariant.faults in
    let later = c.end.ensures.cause.later in
    let so_many = c.loop-child.invariant.children in
    let same = c.end.ensures.children in
    record {
      ended = ends-next (g.P.Spawner.told c.args.spawner.now).ended (g.P.Spawner.told c.loop-child.spawner).ended (g.P.Spawner.told c.end.new.self).ended children i c.loop-child-test.true c.loop-child.invariant.ended c.end.ensures.ended;
      started = stays-both _ _ _ c.loop-child.invariant.started c.end.ensures.started;
      children = omega (arith, so_many, same);
      unstarted = c.end.ensures.unstarted ∙ c.loop-child.invariant.unstarted;
      statuses = stays-both _ _ _ c.loop-child.invariant.statuses c.end.ensures.statuses;
      faults = omega (arith, faults, later);
    }

pub returns-clause-ended : goal.returns-clause-ended
returns-clause-ended g c =
    subst (λ (l : List ℕ). EndsThese l (g.P.Spawner.told c.args.spawner.now).ended (g.P.Spawner.told c.loop-child.spawner).ended)
    (take_all c.loop-child.child-index c.args.children.now c.loop-child-test.false) c.loop-child.invariant.ended
