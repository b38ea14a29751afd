use Rattle.std.proofs.Common.{None, List, ap, sym, subst, ◌∙◌, OnOk}
use Rattle.std.proofs.lemmas.Result.{on_ok_weaker}
use Rattle.cs_tx.specs.Digest.{digest_of_session}
use Rattle.cs_node_state.specs.Pool.{found}
use Rattle.cs_node_state.specs.Bench.{noted}
use Rattle.cs_node_rules.specs.Signs.{Sign, asking_signs, voted_signs}
use Rattle.cs_node_pool.specs.Deployed.{deployed_setup}
use Rattle.cs_sbac.specs.Held.{Held, IsFit, bench_of}
use Rattle.cs_node.specs.Signing.{Leaves}
use Rattle.cs_node.proofs.Voting.{counted-first, counted-again, is-counted, absent, on-first, first-makes, on-second, on-found, second-makes}
use Rattle.cs_node.proofs.votes.hear_vote.Goals as goal

pub returns-in-Repeat-clause-does : goal.returns-in-Repeat-clause-does
returns-in-Repeat-clause-does g c = λ genesis log kept_is.
    let approves = g.J.Judge.is_approved c.args.judge.now in
    let setup = deployed_setup c.args.sbac.now.config genesis approves in
    let held = c.args.sbac.now in
    let me = held.me in
    let ballot = c.args.ballot in
    let x = c.args.session in
    let counted = is-counted held c.vote.new.self ballot x _ _ c.in_ok-digest.ensures c.in_ok-vote.ensures.answer c.in_ok-vote.ensures.pool in
    let there = counted-again ballot.sender (found (digest_of_session x) held.pool) (sym counted.answered ∙ c.in-Repeat.is) in
    on_ok_weaker _ (second-makes setup held c.vote.new.self log kept_is ballot x (voted_signs setup me.shard (bench_of log held) ballot.sender ballot.vote c.args.asks x) c.args.draft.now c.drop_it-in-Repeat.new.self
    (on-second setup me.shard (bench_of log held) ballot.sender ballot.vote c.args.asks x (sym c.is_client.ensures ∙ c.if-is_client.false) (sym (c.in_ok-is_fit_named.ensures genesis approves) ∙ c.if-not-branch.false) (sym (c.concerns.ensures genesis approves) ∙ c.if-not-concerns.false) there)
    counted.left there) c.drop_it-in-Repeat.ensures

pub returns-in-NotPooled-clause-does : goal.returns-in-NotPooled-clause-does
returns-in-NotPooled-clause-does g c = λ genesis log kept_is.
    let approves = g.J.Judge.is_approved c.args.judge.now in
    let setup = deployed_setup c.args.sbac.now.config genesis approves in
    let held = c.args.sbac.now in
    let me = held.me in
    let ballot = c.args.ballot in
    let x = c.args.session in
    let counted = is-counted held c.vote.new.self ballot x _ _ c.in_ok-digest.ensures c.in_ok-vote.ensures.answer c.in_ok-vote.ensures.pool in
    let alone = absent held c.vote.new.self ballot x _ counted c.in-NotPooled.is in
    let is = on-found setup me.shard (bench_of log held) ballot.sender ballot.vote c.args.asks x (sym c.is_client.ensures ∙ c.if-is_client.false) (sym (c.in_ok-is_fit_named.ensures genesis approves) ∙ c.if-not-branch.false) (sym (c.concerns.ensures genesis approves) ∙ c.if-not-concerns.false) None alone.none in
    let P : Held → Type 0 = λ h. OnOk c.answer_vote.result (Leaves (deployed_setup h.config genesis approves) h
    (asking_signs (deployed_setup h.config genesis approves) (bench_of log h) ballot.sender ballot.vote c.args.asks x (noted (deployed_setup h.config genesis approves) h.me.shard (bench_of log h).table x)) (bench_of log h) c.answer_vote.new.sbac c.args.draft.now c.answer_vote.new.draft) in
    let Q : List Sign → Type 0 = λ signs. OnOk c.answer_vote.result (Leaves setup held signs (bench_of log held) c.answer_vote.new.sbac c.args.draft.now c.answer_vote.new.draft) in
    subst Q (sym is) (subst P alone.same (c.answer_vote.ensures.does genesis log (ap (λ (h : Held). h.archived.kept) alone.same ∙ kept_is)))

pub concerns-requires : goal.concerns-requires
concerns-requires g c = λ genesis approves. sym (c.in_ok-is_fit_named.ensures genesis approves) ∙ c.if-not-branch.false

pub returns-in-Counted-clause-does : goal.returns-in-Counted-clause-does
returns-in-Counted-clause-does g c = λ genesis log kept_is.
    let approves = g.J.Judge.is_approved c.args.judge.now in
    let setup = deployed_setup c.args.sbac.now.config genesis approves in
    let held = c.args.sbac.now in
    let me = held.me in
    let ballot = c.args.ballot in
    let x = c.args.session in
    let counted = is-counted held c.vote.new.self ballot x _ _ c.in_ok-digest.ensures c.in_ok-vote.ensures.answer c.in_ok-vote.ensures.pool in
    let there = counted-first ballot.sender (found (digest_of_session x) held.pool) (sym counted.answered ∙ c.in-Counted.is) in
    first-makes setup held c.vote.new.self log kept_is ballot.sender ballot.vote x (voted_signs setup me.shard (bench_of log held) ballot.sender ballot.vote c.args.asks x) c.args.draft.now
    (on-first setup me.shard (bench_of log held) ballot.sender ballot.vote c.args.asks x (sym c.is_client.ensures ∙ c.if-is_client.false) (sym (c.in_ok-is_fit_named.ensures genesis approves) ∙ c.if-not-branch.false) (sym (c.concerns.ensures genesis approves) ∙ c.if-not-concerns.false) there)
    counted.left

pub answer_vote-requires-clause-new : goal.answer_vote-requires-clause-new
answer_vote-requires-clause-new g c =
    let held = c.args.sbac.now in
    let ballot = c.args.ballot in
    let x = c.args.session in
    let counted = is-counted held c.vote.new.self ballot x _ _ c.in_ok-digest.ensures c.in_ok-vote.ensures.answer c.in_ok-vote.ensures.pool in
    let alone = absent held c.vote.new.self ballot x _ counted c.in-NotPooled.is in
    ap (λ (h : Held). found (digest_of_session x) h.pool) alone.same ∙ alone.none

pub answer_vote-requires-clause-formed : goal.answer_vote-requires-clause-formed
answer_vote-requires-clause-formed g c =
    let held = c.args.sbac.now in
    let ballot = c.args.ballot in
    let x = c.args.session in
    let counted = is-counted held c.vote.new.self ballot x _ _ c.in_ok-digest.ensures c.in_ok-vote.ensures.answer c.in_ok-vote.ensures.pool in
    let alone = absent held c.vote.new.self ballot x _ counted c.in-NotPooled.is in
    let Fits : Held → Type 0 = λ h. IsFit h x in
    subst Fits (sym alone.same) (λ genesis approves. sym (c.in_ok-is_fit_named.ensures genesis approves) ∙ c.if-not-branch.false)
