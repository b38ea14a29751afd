use Rattle.std.proofs.Common.{◌∙◌}
use Rattle.cs_node.proofs.Naming.{is-other, is-itself, name-added, name-passed}
use Rattle.cs_node.proofs.members.add_members.Goals as goal
use Rattle.cs_node.proofs.members.add_members.Goals.{then-ne+in_ok-push, else-ne}

pub loop-index-preserved : goal.loop-index-preserved
loop-index-preserved c =
    elim c.if-ne.branch [
      | then-ne+in_ok-push w ↦ name-added c.args.me c.args.shard c.loop-index.index c.args.names.now c.loop-index.names c.if-ne.names c.loop-index.invariant (is-other _ w.if-ne.ensures) (w.names-is ∙ w.in_ok-push.ensures.ok)
      | else-ne w ↦ name-passed c.args.me c.args.shard c.loop-index.index c.args.names.now c.loop-index.names c.if-ne.names c.loop-index.invariant (is-itself _ w.if-ne.ensures) w.names-is
    ]
