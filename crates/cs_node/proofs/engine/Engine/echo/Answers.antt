use Rattle.std.proofs.Common.{[], true, List, Option, sym, subst, ap, ◌∙◌, IfOk}
use Rattle.cs_node_rules.specs.Site.{Mark}
use Rattle.cs_node_rules.specs.Trail.{propose_marks, echo_marks}
use Rattle.cs_node_pool.specs.Deployed.{deployed_setup}
use Rattle.cs_node.specs.Proposals.{admits_pending}
use Rattle.cs_node.specs.Steps.{TurnDone}
use Rattle.cs_node.specs.Cores.{KeepsView, site_at, core_view}
use Rattle.cs_node.proofs.Candidates.{pending-there, echo-none}
use Rattle.cs_node.proofs.Doing.{echoed-here}
use Rattle.cs_node.proofs.Judged.{done-judged, turns-judged}
use Rattle.cs_node.proofs.engine.Engine.echo.Goals as goal

pub returns-then-branch-clause-done : goal.returns-then-branch-clause-done
returns-then-branch-clause-done g c = λ net genesis log h seated.
    let engine = c.args.self.now in
    let held = engine.sbac in
    let approves = g.J.Judge.is_approved engine.judge in
    let site = site_at g.O.Order.rules g.O.Carried.carrier net held genesis approves in
    let v = core_view log held h in
    let some = pending-there (deployed_setup held.config [] approves) held.me.shard held.pool (g.O.Order.awaits engine.order) (sym (c.in_ok-admits_pending.ensures.admits []) ∙ c.if-branch.true) in
    done-judged g.O.Order.stands g.J.Judge.is_approved site (echo_marks site v (g.O.Order.rules.pending h)) v true c.args.draft.now c.hand_out.new.draft (deployed_setup held.config genesis approves)
    (record { order = c.echo.new.self; judge = engine.judge; sbac = held }) c.admits_pending.new.judge c.in_ok-admits_pending.ensures.judge
    (echoed-here g.O.Order.stands g.J.Judge.is_approved g.O.Order.rules g.O.Carried.carrier net engine genesis log h c.args.draft.now c.hand_out.new.draft seated c.echo.new.self c.new-outgoing.result.items c.echo.new.out.items c.new-outgoing.ensures.items
    (c.in_ok-hand_out.ensures net genesis approves seated.first) (g.O.Order.rules.pending h)
    (ap (admits_pending (deployed_setup held.config genesis approves) held.me.shard held.pool) (sym (c.in_ok-admits_pending.ensures.awaits h seated.stood)) ∙ sym (c.in_ok-admits_pending.ensures.admits genesis) ∙ c.if-branch.true)
    (c.in_ok-echo.ensures.call some h seated.stood))

pub returns-then-branch-clause-falls : goal.returns-then-branch-clause-falls
returns-then-branch-clause-falls g c = λ went.
    let held = c.args.self.now.sbac in
    let approves = g.J.Judge.is_approved c.args.self.now.judge in
    c.in_ok-echo.ensures.falls (pending-there (deployed_setup held.config [] approves) held.me.shard held.pool (g.O.Order.awaits c.args.self.now.order) (sym (c.in_ok-admits_pending.ensures.admits []) ∙ c.if-branch.true))

pub returns-clause-done : goal.returns-clause-done
returns-clause-done g c = λ net genesis log h seated.
    let engine = c.args.self.now in
    let held = engine.sbac in
    let approves = g.J.Judge.is_approved engine.judge in
    let carried = g.O.Carried.carrier in
    let setup = deployed_setup held.config genesis approves in
    let site = site_at g.O.Order.rules carried net held genesis approves in
    let v = core_view log held h in
    let turned = turns-judged g.O.Order.stands g.J.Judge.is_approved g.O.Order.rules carried engine c.propose.new.self c.admits_pending.new.judge c.args.draft.now c.propose.new.draft c.propose.result
    (λ s w. propose_marks s w (g.O.Order.rules.may_propose w.member)) c.in_ok-admits_pending.ensures.judge c.propose.ensures.done in
    let P : Option (List (Mark g.row.O-Message.Denot)) → Type 0 = λ found. IfOk c.propose.result (λ went. TurnDone site found v went c.args.draft.now c.propose.new.draft (KeepsView g.O.Order.stands g.J.Judge.is_approved setup c.propose.new.self)) in
    subst P (sym (echo-none setup net g.O.Order.rules carried v (g.O.Order.rules.pending h)
    (ap (admits_pending setup held.me.shard held.pool) (sym (c.in_ok-admits_pending.ensures.awaits h seated.stood)) ∙ sym (c.in_ok-admits_pending.ensures.admits genesis) ∙ c.if-branch.false))) (turned net genesis log h seated)
