use Rattle.std.proofs.Common.{◌≡◌, [], ◌++◌, List, drop, ap, sym, ◌∙◌, append-nil}
use Rattle.std.proofs.lemmas.List.{drop_all}
use Rattle.cs_base.specs.declared.node_id.NodeId.{NodeId}
use Rattle.cs_base.specs.declared.version.Version.{Version}
use Rattle.cs_wire_message.specs.Message.{body_of}
use Rattle.cs_node.specs.Notes.{to_each, outs_for}
use Rattle.cs_node.proofs.Sealing.{name-sealed}
use Rattle.cs_node.proofs.outs.add_outs.Goals as goal

pub loop-i-preserved : goal.loop-i-preserved
loop-i-preserved c = λ config net speaks reached.
    name-sealed net c.args.keys.now c.args.message.now c.kind.result c.deref.result.now c.loop-i.outs c.add_out.new.outs _ c.args.to.now c.loop-i.i _ c.loop-i-test.true
    c.kind.ensures (c.deref.ensures.value ∙ c.in_ok-body.ensures.is ∙ ap (λ (version : Version). body_of version c.args.message.now) (sym speaks.first))
    (λ held. c.in_ok-add_out.ensures config net speaks held)
    (c.loop-i.invariant config net speaks reached)

pub returns : goal.returns
returns c = λ config net speaks reached.
    let past : drop c.loop-i.i c.args.to.now ≡ [] = drop_all c.loop-i.i c.args.to.now c.loop-i-test.false in
    sym (append-nil c.loop-i.outs)
    ∙ ap (λ (names : List NodeId). c.loop-i.outs ++ outs_for net c.args.keys.now.me (to_each names c.args.message.now)) (sym past)
    ∙ (c.loop-i.invariant config net speaks reached).1
