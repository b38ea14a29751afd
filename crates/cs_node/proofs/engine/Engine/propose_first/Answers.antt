use Rattle.std.proofs.Common.{[], true, false, sym, subst, ◌∙◌}
use Rattle.cs_order.specs.declared.answers.May.{May}
use Rattle.cs_order.specs.Calls.{Proposable}
use Rattle.cs_node_rules.specs.Trail.{candidate_marks}
use Rattle.cs_node_pool.specs.Deployed.{deployed_setup}
use Rattle.cs_node.specs.Cores.{site_at, core_view}
use Rattle.cs_node.proofs.Candidates.{is-offered, candidates-none, candidates-some}
use Rattle.cs_node.proofs.Doing.{nothing-here, proposed-here}
use Rattle.cs_node.proofs.Judged.{done-judged}
use Rattle.cs_node.proofs.engine.Engine.propose_first.Goals as goal

pub propose-requires : goal.propose-requires
propose-requires g c =
    let held = c.args.self.now.sbac in
    subst (λ (may : May). Proposable may c.in-Some.proposed) (sym c.requires)
    (is-offered (deployed_setup held.config [] (g.J.Judge.is_approved c.args.self.now.judge)) held.me.shard held.pool c.args.candidates c.in-Some.proposed (sym (c.in_ok-first_admitted.ensures.first []) ∙ c.in-Some.is))

pub returns-in-None-clause-done : goal.returns-in-None-clause-done
returns-in-None-clause-done g c = λ net genesis log h seated.
    let engine = c.args.self.now in
    let held = engine.sbac in
    let approves = g.J.Judge.is_approved engine.judge in
    let setup = deployed_setup held.config genesis approves in
    let site = site_at g.O.Order.rules g.O.Carried.carrier net held genesis approves in
    let v = core_view log held h in
    let found = candidate_marks site v c.args.candidates in
    done-judged g.O.Order.stands g.J.Judge.is_approved site found v false c.args.draft.now c.args.draft.now setup engine c.first_admitted.new.judge c.in_ok-first_admitted.ensures.judge
    (nothing-here g.O.Order.stands g.J.Judge.is_approved g.O.Order.rules g.O.Carried.carrier net engine genesis log h c.args.draft.now c.args.draft.now seated found
    (candidates-none setup net g.O.Order.rules g.O.Carried.carrier v c.args.candidates (sym (c.in_ok-first_admitted.ensures.first genesis) ∙ c.in-None.is)))

pub returns-clause-done : goal.returns-clause-done
returns-clause-done g c = λ net genesis log h seated.
    let engine = c.args.self.now in
    let held = engine.sbac in
    let approves = g.J.Judge.is_approved engine.judge in
    let setup = deployed_setup held.config genesis approves in
    let site = site_at g.O.Order.rules g.O.Carried.carrier net held genesis approves in
    let v = core_view log held h in
    let found = candidate_marks site v c.args.candidates in
    done-judged g.O.Order.stands g.J.Judge.is_approved site found v true c.args.draft.now c.hand_out.new.draft setup (record { order = c.propose.new.self; judge = engine.judge; sbac = held }) c.first_admitted.new.judge c.in_ok-first_admitted.ensures.judge
    (proposed-here g.O.Order.stands g.J.Judge.is_approved g.O.Order.rules g.O.Carried.carrier net engine genesis log h c.args.draft.now c.hand_out.new.draft seated c.propose.new.self c.new-outgoing.result.items c.propose.new.out.items c.new-outgoing.ensures.items
    (c.in_ok-hand_out-in-Some.ensures net genesis approves seated.first) found c.in-Some.proposed
    (candidates-some setup net g.O.Order.rules g.O.Carried.carrier v c.args.candidates c.in-Some.proposed (sym (c.in_ok-first_admitted.ensures.first genesis) ∙ c.in-Some.is))
    (c.in_ok-propose-in-Some.ensures.call h seated.stood))
