use Rattle.std.proofs.Common.{◌≡◌, ℕ, length, take, subst, arith}
use Rattle.cs_merkle_kept.specs.Levels.{parents}
use Rattle.cs_merkle_kept.proofs.Rejoined.{all_remade}
use Rattle.cs_merkle_kept.proofs.level.rejoin.Goals as goal

pub returns-clause-level : goal.returns-clause-level
returns-clause-level g c =
    let above = c.loop-place.above in
    let long : length above ≡ length c.args.above.now = omega arith in
    subst (λ (n : ℕ). above ≡ take n (parents c.args.below.now)) long
    (all_remade c.args.below.now above c.args.places.now c.loop-place.place-index
    c.loop-place.next (omega arith) (omega (arith, c.requires.few, long)) c.loop-place.invariant.0)
