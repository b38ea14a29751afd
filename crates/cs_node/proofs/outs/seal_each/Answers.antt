use Rattle.std.proofs.Common.{◌≡◌, List, [], ◌++◌, drop, ap, sym, subst, ◌∙◌, append-nil}
use Rattle.std.proofs.lemmas.List.{drop_all}
use Rattle.cs_base.specs.declared.node_id.NodeId.{NodeId}
use Rattle.cs_node.specs.declared.draft.Said.{Said}
use Rattle.cs_node.specs.Notes.{AllReached, to_each, spoken, outs_for}
use Rattle.cs_node.proofs.Sealing.{rest-fits, first-reached, rest-sealed}
use Rattle.cs_node.proofs.outs.seal_each.Goals as goal

pub loop-i-preserved : goal.loop-i-preserved
loop-i-preserved c = record {
  left = (rest-fits c.args.said.now c.loop-i.i c.index-said-i.result c.loop-i-test.true c.loop-i.invariant.left).1;
  sealed = λ config net speaks reached.
      let keys = c.args.keys.now in
      let one = c.index-said-i.result in
      let so-far = c.loop-i.invariant.sealed config net speaks reached in
      let next = first-reached keys c.args.said.now c.loop-i.i one c.loop-i-test.true c.index-said-i.is so-far.0 in (
        next.1,
        rest-sealed net keys.me _ _ _ c.args.said.now c.loop-i.i one c.loop-i-test.true c.index-said-i.is
            (subst (λ (names : List NodeId). AllReached keys (to_each names one.message) → c.add_outs.new.outs ≡ c.loop-i.outs ++ outs_for net keys.me (to_each names one.message))
            c.as_slice.ensures (λ held. c.in_ok-add_outs.ensures config net speaks held) next.0)
            so-far.1,
      );
}

pub returns : goal.returns
returns c = λ config net speaks reached.
    let past : drop c.loop-i.i c.args.said.now ≡ [] = drop_all c.loop-i.i c.args.said.now c.loop-i-test.false in
    sym (append-nil c.loop-i.outs)
    ∙ ap (λ (said : List Said). c.loop-i.outs ++ outs_for net c.args.keys.now.me (spoken said)) (sym past)
    ∙ (c.loop-i.invariant.sealed config net speaks reached).1
