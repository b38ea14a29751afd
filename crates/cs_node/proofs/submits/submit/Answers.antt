use Rattle.std.proofs.Common.{None, Some, List, [], ◌∷◌, sym, ◌∙◌, subst, ap, refl, OnOk}
use Rattle.std.proofs.lemmas.Result.{on_ok_weaker}
use Rattle.cs_wire_message.specs.declared.message.Message.TheVariants as message
use Rattle.cs_ledger.specs.Ledger.{Bytes}
use Rattle.cs_node_rules.specs.Signs.{Sign, Sent, submit_signs}
use Rattle.cs_node_pool.specs.Deployed.{deployed_setup}
use Rattle.cs_sbac.specs.Held.{bench_of}
use Rattle.cs_node.specs.Signing.{Leaves}
use Rattle.cs_node.proofs.Submitting.{stays, one-makes, standing}
use Rattle.cs_node.proofs.submits.submit.Goals as goal

pub returns-in-Some-clause-does : goal.returns-in-Some-clause-does
returns-in-Some-clause-does g c = λ genesis log kept_is.
    let approves = g.J.Judge.is_approved c.args.judge.now in
    let setup = deployed_setup c.args.sbac.now.config genesis approves in
    let me = c.args.sbac.now.me in
    let bench = bench_of log c.args.sbac.now in
    let says : Bytes → List Sign = λ digest. Sent c.args.sender (message.Decided digest c.in-Some.accepted) ∷ [] in
    on_ok_weaker _ (λ tells. stays setup (submit_signs setup me.shard bench c.args.sender c.args.session) c.args.sbac.now log c.args.draft.now c.say.new.self kept_is
    (one-makes setup me bench (submit_signs setup me.shard bench c.args.sender c.args.session) (Sent c.args.sender (message.Decided c.in_ok-digest.digest c.in-Some.accepted)) c.args.draft.now c.say.new.self
    (standing setup me.shard bench c.args.sender c.args.session (Some c.in-Some.accepted) (sym c.is_client.ensures ∙ c.if-not-is_client.false) (sym (c.in_ok-is_fit_named.ensures genesis approves) ∙ c.if-not-branch.false)
    (sym (c.in_ok-accepted.ensures genesis approves) ∙ c.in-Some.is) ∙ ap says (sym c.in_ok-digest.ensures)) refl tells)) c.say.ensures

pub returns-in-None-clause-does : goal.returns-in-None-clause-does
returns-in-None-clause-does g c = λ genesis log kept_is.
    let approves = g.J.Judge.is_approved c.args.judge.now in
    let setup = deployed_setup c.args.sbac.now.config genesis approves in
    let me = c.args.sbac.now.me in
    let bench = bench_of log c.args.sbac.now in
    let P : List Sign → Type 0 = λ signs. OnOk c.enter.result (Leaves setup c.args.sbac.now signs bench c.enter.new.sbac c.args.draft.now c.enter.new.draft) in
    subst P (sym (standing setup me.shard bench c.args.sender c.args.session None (sym c.is_client.ensures ∙ c.if-not-is_client.false) (sym (c.in_ok-is_fit_named.ensures genesis approves) ∙ c.if-not-branch.false)
    (sym (c.in_ok-accepted.ensures genesis approves) ∙ c.in-None.is))) (c.enter.ensures.does genesis log kept_is)

pub enter-requires-clause-formed : goal.enter-requires-clause-formed
enter-requires-clause-formed g c = λ genesis approves. sym (c.in_ok-is_fit_named.ensures genesis approves) ∙ c.if-not-branch.false
