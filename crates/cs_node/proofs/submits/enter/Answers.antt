use Rattle.std.proofs.Common.{ap, sym, ◌∙◌}
use Rattle.cs_node_state.specs.Pool.{is_pooled}
use Rattle.std.proofs.lemmas.Result.{on_ok_weaker}
use Rattle.cs_node_rules.specs.declared.cause.Cause.TheVariants.{Repeat, Denied}
use Rattle.cs_node_rules.specs.Signs.{entering_signs}
use Rattle.cs_node_pool.specs.Deployed.{deployed_setup}
use Rattle.cs_sbac.specs.Held.{bench_of}
use Rattle.cs_node.proofs.Submitting.{stays, dropped-makes, repeated, denied, new-makes, full-makes}
use Rattle.cs_node.proofs.submits.enter.Goals as goal

pub returns-then-branch-clause-does : goal.returns-then-branch-clause-does
returns-then-branch-clause-does g c = λ genesis log kept_is.
    let setup = deployed_setup c.args.sbac.now.config genesis (g.J.Judge.is_approved c.args.judge.now) in
    let me = c.args.sbac.now.me in
    let bench = bench_of log c.args.sbac.now in
    on_ok_weaker _ (λ tells. stays setup (entering_signs setup bench c.args.session) c.args.sbac.now log c.args.draft.now c.drop_it.new.self kept_is
    (dropped-makes setup me bench (entering_signs setup bench c.args.session) Repeat c.args.draft.now c.drop_it.new.self
    (repeated setup me bench c.args.session (ap (λ d. is_pooled d c.args.sbac.now.pool) (sym c.requires.named) ∙ sym c.in_ok-pooled.ensures ∙ c.if-branch.true)) tells)) c.drop_it.ensures

pub returns-then-not-branch-clause-does : goal.returns-then-not-branch-clause-does
returns-then-not-branch-clause-does g c = λ genesis log kept_is.
    let setup = deployed_setup c.args.sbac.now.config genesis (g.J.Judge.is_approved c.args.judge.now) in
    let me = c.args.sbac.now.me in
    let bench = bench_of log c.args.sbac.now in
    on_ok_weaker _ (λ tells. stays setup (entering_signs setup bench c.args.session) c.args.sbac.now log c.args.draft.now c.drop_it-then-not-branch.new.self kept_is
    (dropped-makes setup me bench (entering_signs setup bench c.args.session) Denied c.args.draft.now c.drop_it-then-not-branch.new.self
    (denied setup me bench c.args.session (ap (λ d. is_pooled d c.args.sbac.now.pool) (sym c.requires.named) ∙ sym c.in_ok-pooled.ensures ∙ c.if-branch.false) (sym c.in_ok-approves.ensures.says ∙ c.if-not-branch.true)) tells)) c.drop_it-then-not-branch.ensures

pub returns-in-New-clause-does : goal.returns-in-New-clause-does
returns-in-New-clause-does g c = λ genesis log kept_is.
    let approves = g.J.Judge.is_approved c.args.judge.now in
    new-makes (deployed_setup c.args.sbac.now.config genesis approves) c.args.sbac.now c.enter.new.self log kept_is c.args.session _
    (ap (λ d. is_pooled d c.args.sbac.now.pool) (sym c.requires.named) ∙ sym c.in_ok-pooled.ensures ∙ c.if-branch.false) (sym c.in_ok-approves.ensures.says ∙ c.if-not-branch.false) c.in_ok-enter.ensures.answer c.in_ok-enter.ensures.pool c.args.draft.now c.in-New.is

pub returns-in-Full-clause-does : goal.returns-in-Full-clause-does
returns-in-Full-clause-does g c = λ genesis log kept_is.
    let approves = g.J.Judge.is_approved c.args.judge.now in
    on_ok_weaker _ (full-makes (deployed_setup c.args.sbac.now.config genesis approves) c.args.sbac.now c.enter.new.self log kept_is c.args.session _
    (ap (λ d. is_pooled d c.args.sbac.now.pool) (sym c.requires.named) ∙ sym c.in_ok-pooled.ensures ∙ c.if-branch.false) (sym c.in_ok-approves.ensures.says ∙ c.if-not-branch.false) c.in_ok-enter.ensures.answer c.in_ok-enter.ensures.pool c.args.draft.now c.drop_it-in-Full.new.self c.in-Full.is) c.drop_it-in-Full.ensures
