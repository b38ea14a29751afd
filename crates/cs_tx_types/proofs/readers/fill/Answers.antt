use Rattle.std.proofs.Common.{◌≡◌, ◌<◌, List, ℕ, length, length-set, Some, sym, ◌∙◌, subst, arith}
use Rattle.cs_base.specs.Fields.{bytes_at, many_at}
use Rattle.cs_tx_types.proofs.Filling.{filled_more}
use Rattle.cs_tx_types.proofs.readers.fill.Goals as goal

pub loop-place-preserved : goal.loop-place-preserved
loop-place-preserved c =
    let within : c.loop-place.place < length c.loop-place.places = omega arith in
    let found = subst (λ (digest : List ℕ). bytes_at 32 c.loop-place.cursor ≡ Some (digest, c.take.new.self)) (sym c.copy_from_slice.ensures.after) c.in_ok-take.ensures.found in (
      length-set c.loop-place.places c.loop-place.place c.copy_from_slice.new.self ∙ c.loop-place.invariant.0,
      filled_more c.loop-place.places c.loop-place.place c.loop-place.cursor c.take.new.self c.copy_from_slice.new.self (many_at (bytes_at 32) (length c.args.places.now) c.args.cursor.now) within found c.loop-place.invariant.1,
    )
