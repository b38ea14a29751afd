use Rattle.std.proofs.Common.{ℕ, ◌<◌, ◌/◌, get_or, length, arith}
use Rattle.std.proofs.lemmas.List.{get_or_default}
use Rattle.std.proofs.lemmas.List.Edits.{map_over_more}
use Rattle.cs_merkle_kept.proofs.levels.halve.Goals as goal

pub loop-place-preserved : goal.loop-place-preserved
loop-place-preserved c =
    let i = c.loop-place.place-index in
    let ys = c.loop-place.places in
    let within : i < length c.args.places.now = omega arith in
    map_over_more (λ (p : ℕ). p / 2) c.args.places.now ys i (get_or ys i 0) within
    c.loop-place.invariant (get_or_default ys i 0 (get_or ys i 0) (omega arith))
