use Rattle.std.proofs.Common.{◌≡◌, ℕ, ◌++◌, ◌∷◌, [], length, take, ap, sym, ◌∙◌, subst, arith, length-take}
use Rattle.std.proofs.lemmas.List.{take_all}
use Rattle.cs_merkle_kept.specs.Levels.{parents}
use Rattle.cs_merkle_kept.proofs.Parents.{length-parents, extended_more}
use Rattle.cs_merkle_kept.proofs.Counted.{joins_more}
use Rattle.cs_merkle_kept.proofs.level.extend.Goals as goal

pub loop-place-init : goal.loop-place-init
loop-place-init g c =
    let items = c.args.above.now.items in
    let below = c.args.below.now in
    let same : c.len-place.result ≡ length items =
    omega (arith, c.len-place.ensures, c.args.above.now.ok.0) in (
      subst (λ (n : ℕ). items ≡ take n (parents below)) (sym same) c.requires,
      omega (arith, same, ap length c.requires, length-take (length items) (parents below), length-parents below),
      omega (arith, same),
    )

pub loop-place-preserved : goal.loop-place-preserved
loop-place-preserved g c =
    let below = c.args.below.now in
    let pushed : c.push.new.self.items ≡ c.loop-place.above.items ++ c.parent.result ∷ [] =
    c.in_ok-push.ensures.items in (
      pushed ∙ extended_more below c.loop-place.above.items c.loop-place.place c.parent.result
          c.loop-place.invariant.0 c.parent.ensures.hash (omega arith),
      omega arith,
      omega (
        arith,
        c.parent.ensures.steps,
        c.loop-place.invariant.2,
        joins_more (length below) c.loop-place.place,
      ),
    )

pub returns-clause-level : goal.returns-clause-level
returns-clause-level g c =
    let below = c.args.below.now in
    c.loop-place.invariant.0
    ∙ take_all c.loop-place.place (parents below) (omega (arith, length-parents below))
