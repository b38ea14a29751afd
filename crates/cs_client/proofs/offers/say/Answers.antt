use Rattle.std.proofs.Common.{◌≡◌, ap, subst, ◌++◌, OnOk, ◌∙◌}
use Rattle.cs_base.specs.declared.version.Version.{Version}
use Rattle.cs_wire_message.specs.Message.{body_of}
use Rattle.cs_client.proofs.Sealing.{said-so}
use Rattle.cs_client.proofs.offers.say.Goals as goal

pub returns : goal.returns
returns c =
    subst (λ outs. OnOk c.say_body.result (c.say_body.new.outs ≡ c.args.outs.now ++ outs))
    (said-so c.args.keys.now c.args.message.now c.kind.result c.deref.result.now c.args.to.now
    c.kind.ensures (c.deref.ensures.value ∙ c.in_ok-body.ensures.is ∙ ap (λ (v : Version). body_of v c.args.message.now) c.version.ensures))
    c.say_body.ensures
