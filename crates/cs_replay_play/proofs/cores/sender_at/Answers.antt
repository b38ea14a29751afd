use Rattle.std.proofs.Common.{◌≡◌, ◌∙◌, subst}
use Rattle.cs_base.specs.declared.node_id.NodeId.{NodeId}
use Rattle.cs_node.specs.Speaking.{sender_of}
use Rattle.cs_replay_play.proofs.Views.{get-read}
use Rattle.cs_replay_play.proofs.cores.sender_at.Goals as goal

pub returns-in-Some : goal.returns-in-Some
returns-in-Some g c = λ site names views each named has.
    let at = each c.in-Some.place c.index-cores-place.result (get-read c.args.cores.now c.in-Some.place c.index-cores-place.result c.in-Some.ensures.within c.index-cores-place.is) in
    subst (λ (n : NodeId). c.sender.result ≡ sender_of (site.net.opened n c.args.bytes.now))
    (c.in-Some.ensures.named site views each)
    (c.sender.ensures site (views c.in-Some.place) at)

pub returns-in-None : goal.returns-in-None
returns-in-None g c = λ site names views each named has.
    absurd (c.in-None.ensures.none site views each has.0 has.1 (named has.0 ∙ has.2))
