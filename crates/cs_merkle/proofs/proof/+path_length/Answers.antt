use Rattle.std.proofs.Common.{sym, arith}
use Rattle.cs_merkle.proofs.Lengths.{length_of_few, length_by_left, length_by_right}
use Rattle.cs_merkle.proofs.proof.+path_length.Goals as goal

pub returns-then-n-le1-clause-value : goal.returns-then-n-le1-clause-value
returns-then-n-le1-clause-value t c = sym (length_of_few c.args.n c.args.place c.if-n-le1.true)

pub returns-then-place-k-clause-value : goal.returns-then-place-k-clause-value
returns-then-place-k-clause-value t c =
    length_by_left c.args.n c.left_half-k.result c.args.place c.path_length.result (omega arith)
    c.left_half-k.ensures.split c.if-place-k.true c.path_length.ensures.value

pub returns-else-place-k-clause-value : goal.returns-else-place-k-clause-value
returns-else-place-k-clause-value t c =
    let rest = c.path_length-else-place-k in
    length_by_right c.args.n c.left_half-k.result c.args.place rest.result (omega arith)
    c.left_half-k.ensures.split c.if-place-k.false rest.ensures.value
