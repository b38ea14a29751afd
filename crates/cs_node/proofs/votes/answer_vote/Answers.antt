use Rattle.std.proofs.Common.{List, sym, subst, ◌∙◌, OnOk}
use Rattle.std.proofs.lemmas.Result.{on_ok_weaker}
use Rattle.cs_wire_message.specs.declared.message.Message.TheVariants as message
use Rattle.cs_node_rules.specs.Signs.{Sign, asking_signs}
use Rattle.cs_node_state.specs.Bench.{noted}
use Rattle.cs_node_pool.specs.Deployed.{deployed_setup}
use Rattle.cs_sbac.specs.Held.{bench_of}
use Rattle.cs_node.specs.Signing.{Leaves}
use Rattle.cs_node.proofs.Submitting.{stays, one-makes}
use Rattle.cs_node_rules.specs.Signs.{Sent}
use Rattle.std.proofs.Common.{refl, false}
use Rattle.cs_node.proofs.Voting.{asked-known, asked-new}
use Rattle.cs_node.proofs.votes.answer_vote.Goals as goal

pub returns-in-Some-clause-does : goal.returns-in-Some-clause-does
returns-in-Some-clause-does g c = λ genesis log kept_is.
    let setup = deployed_setup c.args.sbac.now.config genesis (g.J.Judge.is_approved c.args.judge.now) in
    let me = c.args.sbac.now.me in
    let bench = bench_of log c.args.sbac.now in
    let ballot = c.args.ballot in
    let known = noted setup me.shard bench.table c.args.session in
    on_ok_weaker _ (λ tells. stays setup (asking_signs setup bench ballot.sender ballot.vote c.args.asks c.args.session known) c.args.sbac.now log c.args.draft.now c.say.new.self kept_is
    (one-makes setup me bench (asking_signs setup bench ballot.sender ballot.vote c.args.asks c.args.session known) (Sent ballot.sender (message.Voted c.in-Some.vote false c.args.session)) c.args.draft.now c.say.new.self
    (asked-known setup me.shard bench ballot.sender ballot.vote c.args.asks c.args.session known c.in-Some.vote c.if-not-asks.false (sym (c.in_ok-vote.ensures genesis (g.J.Judge.is_approved c.args.judge.now)) ∙ c.in-Some.is)) refl tells)) c.say.ensures

pub returns-in-None-clause-does : goal.returns-in-None-clause-does
returns-in-None-clause-does g c = λ genesis log kept_is.
    let setup = deployed_setup c.args.sbac.now.config genesis (g.J.Judge.is_approved c.args.judge.now) in
    let me = c.args.sbac.now.me in
    let bench = bench_of log c.args.sbac.now in
    let ballot = c.args.ballot in
    let known = noted setup me.shard bench.table c.args.session in
    let P : List Sign → Type 0 = λ signs. OnOk c.enter_voted.result (Leaves setup c.args.sbac.now signs bench c.enter_voted.new.sbac c.args.draft.now c.enter_voted.new.draft) in
    subst P (sym (asked-new setup me.shard bench ballot.sender ballot.vote c.args.asks c.args.session known c.if-not-asks.false (sym (c.in_ok-vote.ensures genesis (g.J.Judge.is_approved c.args.judge.now)) ∙ c.in-None.is)))
    (c.enter_voted.ensures.does genesis log kept_is)
