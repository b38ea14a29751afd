use Rattle.std.proofs.Common.{◌≡◌, ℕ, ◌+◌, ◌-◌, ◌++◌, [], List, length, replicate, sym, ap, ◌∙◌, subst, arith, ◌≤◌, length-append}
use Rattle.std.proofs.lemmas.List.{length-map, length-replicate, with_items_is}
use Rattle.std.proofs.lemmas.Result.{on_ok_weaker}
use Rattle.cs_merkle_kept.specs.Levels.{levels_of, IsHeight}
use Rattle.cs_merkle_kept.specs.Changes.{IsStale}
use Rattle.cs_merkle_kept.proofs.Hashes.{Hashes}
use Rattle.cs_merkle_kept.proofs.Heights.{higher}
use Rattle.cs_merkle_kept.proofs.Stale.{stale_grown}
use Rattle.cs_merkle_kept.proofs.levels.raise.Goals as goal

-- levels up to a height, some of them added
reached : (old new : List Hashes) (k h : ℕ) → new ≡ old ++ replicate (h - k) [] → length old ≡ k →
    length old ≤ h → length new ≡ h
reached old new k h is long few =
    omega (
      arith,
      ap length is,
      length-append old (replicate (h - k) []),
      length-replicate {A = Hashes} (h - k) [],
      long,
      few,
    )

pub grow-requires : goal.grow-requires
grow-requires g c =
    let over = c.requires.over in
    omega (
      arith,
      higher (length (levels_of c.args.levels.now.items)) c.height_of.result (length over.old)
          (length c.args.hashes.now) over.height c.height_of.ensures.height over.more,
      length-map c.args.levels.now.items (λ v. v.items),
    )

pub refresh-requires-clause-height : goal.refresh-requires-clause-height
refresh-requires-clause-height g c =
    let over = c.requires.over in
    let old = levels_of c.args.levels.now.items in
    let few = higher (length old) c.height_of.result (length over.old) (length c.args.hashes.now)
    over.height c.height_of.ensures.height over.more in
    let long = reached old (levels_of c.grow.new.levels.items) (length c.args.levels.now.items)
    c.height_of.result c.in_ok-grow.ensures (length-map c.args.levels.now.items (λ v. v.items)) few in
    subst (λ (h : ℕ). IsHeight (length c.args.hashes.now) h)
    (sym (ap length c.as_mut_slice.ensures.value
    ∙ sym (length-map c.grow.new.levels.items (λ v. v.items)) ∙ long)) c.height_of.ensures.height

pub refresh-requires-clause-stale : goal.refresh-requires-clause-stale
refresh-requires-clause-stale g c =
    let over = c.requires.over in
    let hashes = c.args.hashes.now in
    let old = levels_of c.args.levels.now.items in
    let places = c.args.places.now in
    let first = c.args.first in
    let m = c.height_of.result - length c.args.levels.now.items in
    let few = higher (length old) c.height_of.result (length over.old) (length hashes)
    over.height c.height_of.ensures.height over.more in
    let reach : c.height_of.result ≡ length old + m =
    omega (arith, few, length-map c.args.levels.now.items (λ v. v.items)) in
    subst (λ ls. IsStale hashes (levels_of ls) places first) (sym c.as_mut_slice.ensures.value)
    (subst (λ ls. IsStale hashes ls places first) (sym c.in_ok-grow.ensures)
    (stale_grown hashes old places first m over
    (subst (λ (h : ℕ). IsHeight (length hashes) h) reach c.height_of.ensures.height)))

pub returns-clause-height : goal.returns-clause-height
returns-clause-height g c =
    let over = c.requires.over in
    let old = levels_of c.args.levels.now.items in
    let few = higher (length old) c.height_of.result (length over.old) (length c.args.hashes.now)
    over.height c.height_of.ensures.height over.more in
    let long = reached old (levels_of c.grow.new.levels.items) (length c.args.levels.now.items)
    c.height_of.result c.in_ok-grow.ensures (length-map c.args.levels.now.items (λ v. v.items)) few in
    let value = ap length c.as_mut_slice.ensures.value in
    let same : length c.refresh.new.levels ≡ c.grow.new.levels.len =
    omega (arith, value, c.grow.new.levels.ok.0) in
    let tall : length c.refresh.new.levels ≡ c.height_of.result =
    omega (arith, value, long, length-map c.grow.new.levels.items (λ v. v.items)) in
    on_ok_weaker c.refresh.result
    (λ _. subst (λ ls. IsHeight (length c.args.hashes.now) (length ls))
    (sym (with_items_is c.grow.new.levels c.refresh.new.levels same))
    (subst (λ (h : ℕ). IsHeight (length c.args.hashes.now) h) (sym tall) c.height_of.ensures.height))
    c.refresh.ensures.levels
