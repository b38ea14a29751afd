use Rattle.std.proofs.Common.{refl, arith, append-nil}
use Rattle.cs_merkle.proofs.Halves.{path_of_none, path_by_left, path_by_right}
use Rattle.cs_merkle.proofs.tree.+add_path.Goals as goal

pub returns-then-leaves-eq1 : goal.returns-then-leaves-eq1
returns-then-leaves-eq1 t c =
    rw (path_of_none c.args.leaves.now c.args.place c.if-leaves-eq1.true, append-nil) refl

pub returns-in_ok-push : goal.returns-in_ok-push
returns-in_ok-push t c =
    let cut = c.split_at.ensures in
    rw (c.in_ok-push.ensures.items, c.in_ok-add_path.ensures, c.root.ensures)
    (path_by_left c.args.leaves.now c.split_at.result.0.now c.split_at.result.1.now
    c.left_half-k.result c.args.place c.args.path.now.items
    (omega (arith, c.left_half-k.ensures))
    c.left_half-k.ensures.split cut.front cut.back c.if-place-k.true)

pub returns-in_ok-push-2 : goal.returns-in_ok-push-2
returns-in_ok-push-2 t c =
    let cut = c.split_at.ensures in
    rw (c.in_ok-push-2.ensures.items, c.in_ok-add_path-2.ensures, c.root-else-place-k.ensures)
    (path_by_right c.args.leaves.now c.split_at.result.0.now c.split_at.result.1.now
    c.left_half-k.result c.args.place c.args.path.now.items
    (omega (arith, c.left_half-k.ensures))
    c.left_half-k.ensures.split cut.front cut.back c.if-place-k.false)
