use Rattle.std.proofs.Common.{length, arith}
use Rattle.cs_merkle.proofs.Lengths.{two_leaves, less_by_left, less_by_right}
use Rattle.cs_merkle.proofs.proof.+follow.Goals as goal

pub left_half-k-requires : goal.left_half-k-requires
left_half-k-requires t c =
    two_leaves c.args.n c.args.place (length c.args.path.now) c.requires
    (omega (arith, c.in-Some.ensures.cases.1))

pub follow-requires : goal.follow-requires
follow-requires t c =
    let rest = c.in-Some.ensures.cases.1 in
    let some = two_leaves c.args.n c.args.place (length c.args.path.now) c.requires
    (omega (arith, rest)) in (
      omega (arith, c.decreases),
      less_by_left c.args.n c.left_half-k.result c.args.place (length c.in-Some.below.now) some
          c.left_half-k.ensures.split c.if-place-k.true (omega (arith, rest, c.requires)),
    )

pub follow-requires-else-place-k : goal.follow-requires-else-place-k
follow-requires-else-place-k t c =
    let rest = c.in-Some.ensures.cases.1 in
    let some = two_leaves c.args.n c.args.place (length c.args.path.now) c.requires
    (omega (arith, rest)) in (
      omega (arith, c.decreases),
      less_by_right c.args.n c.left_half-k.result c.args.place (length c.in-Some.below.now) some
          c.left_half-k.ensures.split c.if-place-k.false (omega (arith, rest, c.requires)),
    )
