use Rattle.std.proofs.Common.{◌≡◌, ℕ, suc, ◌+◌, ◌/◌, ◌<◌, ◌∷◌, length, sym, ap, ◌∙◌, subst, arith}
use Rattle.std.specs.List.Sorted.{IsNonDecreasing}
use Rattle.std.proofs.lemmas.List.{length-map}
use Rattle.std.proofs.lemmas.Result.{on_ok_weaker}
use Rattle.cs_merkle_kept.specs.Levels.{parents, levels_of, IsHeight}
use Rattle.cs_merkle_kept.specs.Changes.{Spares, halved, IsStale}
use Rattle.cs_merkle_kept.proofs.Parents.{length-parents}
use Rattle.cs_merkle_kept.proofs.Stale.{halved-rising, first_stale}
use Rattle.cs_merkle_kept.proofs.Counted.{few_step}
use Rattle.cs_merkle_kept.proofs.levels.+refresh.Goals as goal

pub renew-requires-clause-rising : goal.renew-requires-clause-rising
renew-requires-clause-rising g t c =
    subst IsNonDecreasing (sym c.halve.ensures) (halved-rising c.args.places.now c.requires.rising)

pub renew-requires-clause-others : goal.renew-requires-clause-others
renew-requires-clause-others g t c = λ place kept spares.
    let below = c.args.below.now in
    let level = c.in-Some.level.now.items in
    let split = c.in-Some.ensures.cases.0 in
    let stale : IsStale below (level ∷ levels_of c.in-Some.higher.now) c.args.places.now c.args.first =
    subst (λ ls. IsStale below (levels_of ls) c.args.places.now c.args.first) split c.requires.stale in
    let s = first_stale below level (levels_of c.in-Some.higher.now) c.args.places.now c.args.first stale in
    s.others place (subst (λ (k : ℕ). place < k) c.count_kept-kept.ensures kept)
    (subst (λ ps. Spares ps place) c.halve.ensures spares)

pub refresh-requires : goal.refresh-requires
refresh-requires g t c κs within =
    let below = c.args.below.now in
    let level = c.in-Some.level.now.items in
    let split = c.in-Some.ensures.cases.0 in
    let rest = c.in-Some.ensures.cases.1 in
    let stale : IsStale below (level ∷ levels_of c.in-Some.higher.now) c.args.places.now c.args.first =
    subst (λ ls. IsStale below (levels_of ls) c.args.places.now c.args.first) split c.requires.stale in
    let s = first_stale below level (levels_of c.in-Some.higher.now) c.args.places.now c.args.first stale in
    let made : c.as_slice.result.now ≡ parents below =
    c.as_slice.ensures.value ∙ c.in_ok-renew-in-Some.ensures.level in
    let long : length c.as_slice.result.now ≡ (length below + 1) / 2 =
    ap length made ∙ length-parents below in
    let higher = c.in-Some.higher.now in
    let tall : IsHeight (length below) (suc (length higher)) =
    subst (λ ls. IsHeight (length below) (length ls)) split c.requires.height in (
      omega (arith, c.decreases, rest),
      (
        within,
        (
          subst (λ (n : ℕ). IsHeight n (length higher)) (sym long) tall.1,
          (
            subst IsNonDecreasing (sym c.halve.ensures)
                (halved-rising c.args.places.now c.requires.rising),
            subst (λ bs. IsStale bs (levels_of higher) c.halve.new.places c.count_kept-kept.result)
                (sym made)
                (subst (λ ps. IsStale (parents below) (levels_of higher) ps c.count_kept-kept.result)
                (sym c.halve.ensures)
                (subst (λ (k : ℕ). IsStale (parents below) (levels_of higher) (halved c.args.places.now) k)
                (sym c.count_kept-kept.ensures) s.above)),
          ),
        ),
      ),
    )

pub returns-in_ok-renew-in-Some-clause-once : goal.returns-in_ok-renew-in-Some-clause-once
returns-in_ok-renew-in-Some-clause-once g t c =
    let below = c.args.below.now in
    let split = c.in-Some.ensures.cases.0 in
    let long : length c.as_slice.result.now ≡ (length below + 1) / 2 =
    ap length (c.as_slice.ensures.value ∙ c.in_ok-renew-in-Some.ensures.level)
    ∙ length-parents below in
    let tall : IsHeight (length below) (suc (length c.in-Some.higher.now)) =
    subst (λ ls. IsHeight (length below) (length ls)) split c.requires.height in
    let many = tall.0 in
    let one = c.in_ok-renew-in-Some.ensures.once in
    on_ok_weaker c.refresh.result (λ bound. omega (arith, bound, one, long, many)) c.refresh.ensures.once

pub returns-in_ok-renew-in-Some-clause-few : goal.returns-in_ok-renew-in-Some-clause-few
returns-in_ok-renew-in-Some-clause-few g t c =
    let below = c.args.below.now in
    let split = c.in-Some.ensures.cases.0 in
    let long : length c.as_slice.result.now ≡ (length below + 1) / 2 =
    ap length (c.as_slice.ensures.value ∙ c.in_ok-renew-in-Some.ensures.level)
    ∙ length-parents below in
    let tall : IsHeight (length below) (suc (length c.in-Some.higher.now)) =
    subst (λ ls. IsHeight (length below) (length ls)) split c.requires.height in
    let same : length c.halve.new.places ≡ length c.args.places.now =
    ap length c.halve.ensures ∙ length-map c.args.places.now (λ (p : ℕ). p / 2) in
    on_ok_weaker c.refresh.result
    (λ bound. few_step (length c.args.places.now) (length c.halve.new.places) (length below)
    (length c.as_slice.result.now) c.args.first c.count_kept-kept.result
    (length c.in-Some.higher.now) (length c.args.levels.now) c.args.steps.now c.renew.new.steps
    c.refresh.new.steps same long c.count_kept-kept.ensures (ap length split) tall.0
    c.in_ok-renew-in-Some.ensures.few bound)
    c.refresh.ensures.few
