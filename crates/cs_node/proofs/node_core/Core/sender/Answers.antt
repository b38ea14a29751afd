use Rattle.std.proofs.Common.{ap, ◌∙◌, arith}
use Rattle.cs_base.specs.declared.node_id.NodeId.{NodeId}
use Rattle.cs_node.specs.Speaking.{sender_of}
use Rattle.cs_node.proofs.Openers.{sender-found, sender-none}
use Rattle.cs_node.proofs.node_core.Core.sender.Goals as goal

pub returns-in-Ok : goal.returns-in-Ok
returns-in-Ok g c = λ site v is.
    let bytes = c.args.bytes.now in
    sender-found c.args.self.now.own.keys bytes c.in-Ok.found c.in-Ok.ensures ∙ ap sender_of (is.speaks.opens bytes ∙ ap (λ (n : NodeId). site.net.opened n bytes) is.me_is)

pub returns-in-Err : goal.returns-in-Err
returns-in-Err g c = λ site v is.
    let bytes = c.args.bytes.now in
    sender-none c.args.self.now.own.keys bytes _ (λ i. omega (arith, c.type_inv.bytes i)) c.in-Err.ensures ∙ ap sender_of (is.speaks.opens bytes ∙ ap (λ (n : NodeId). site.net.opened n bytes) is.me_is)
