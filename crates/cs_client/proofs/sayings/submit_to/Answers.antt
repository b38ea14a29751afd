use Rattle.std.proofs.Common.{◌≡◌, subst, sym, refl, ◌++◌, ◌≤◌, ◌∙◌, length, OnOk}
use Rattle.cs_base.specs.declared.limits.TheConstants.{MOST_BODY}
use Rattle.cs_tx_types.specs.Session.{session_encoding}
use Rattle.cs_wire_message.specs.declared.message.Message.TheVariants as message
use Rattle.cs_wire_message.proofs.Short.{body_short}
use Rattle.cs_client.proofs.Sealing.{said-so}
use Rattle.cs_client.proofs.sayings.submit_to.Goals as goal

pub say_body-requires : goal.say_body-requires
say_body-requires c =
    let x = c.args.session.now in
    let is : c.deref.result.now ≡ session_encoding x =
    c.deref.ensures.value ∙ c.in_ok-body.ensures in
    subst (λ body. length body ≤ MOST_BODY) (sym is) (body_short c.args.keys.now.version (message.Submit x) c.requires)

pub returns : goal.returns
returns c =
    let x = c.args.session.now in
    let is : c.deref.result.now ≡ session_encoding x =
    c.deref.ensures.value ∙ c.in_ok-body.ensures in
    subst (λ outs. OnOk c.say_body.result (c.say_body.new.outs ≡ c.args.outs.now ++ outs))
    (said-so c.args.keys.now (message.Submit x) 1 c.deref.result.now c.args.nodes.now refl is)
    c.say_body.ensures
