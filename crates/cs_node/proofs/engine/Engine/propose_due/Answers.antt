use Rattle.std.proofs.Common.{Some, ap, sym, subst, ◌∙◌}
use Rattle.cs_base.specs.Version.{version_of}
use Rattle.cs_tx_types.specs.Entry.{EntryFits}
use Rattle.cs_node_pool.specs.Fits.{DueFits}
use Rattle.cs_base.specs.declared.version.Version.{Version}
use Rattle.cs_order.specs.declared.proposed.Proposed.{Proposed}
use Rattle.cs_node_rules.specs.Deployment.{proposed_of}
use Rattle.cs_node_rules.specs.Trail.{due_marks, proposing}
use Rattle.cs_node.specs.Cores.{site_at, core_view}
use Rattle.cs_node.proofs.Doing.{proposed-here}
use Rattle.cs_node.proofs.engine.Engine.propose_due.Goals as goal

pub returns-in_ok-hand_out-in-Some-clause-done : goal.returns-in_ok-hand_out-in-Some-clause-done
returns-in_ok-hand_out-in-Some-clause-done g c = λ net genesis log h seated.
    let core = c.args.self.now in
    let approves = g.J.Judge.is_approved core.judge in
    let site = site_at g.O.Order.rules g.O.Carried.carrier net core.sbac genesis approves in
    let v = core_view log core.sbac h in
    proposed-here g.O.Order.stands g.J.Judge.is_approved g.O.Order.rules g.O.Carried.carrier net c.args.self.now genesis log h c.args.draft.now c.hand_out.new.draft seated c.propose.new.self c.new-outgoing.result.items c.propose.new.out.items c.new-outgoing.ensures.items
    (c.in_ok-hand_out-in-Some.ensures net genesis approves seated.first) _ c.in_ok-proposed-in-Some.proposed
    (ap (due_marks site v) (sym (c.in_ok-due.ensures.entry genesis approves) ∙ c.in-Some.is) ∙ ap (λ (p : Proposed). Some (proposing site v p)) (sym (c.in_ok-proposed-in-Some.ensures ∙ ap (λ (version : Version). proposed_of version c.in-Some.entry) c.version.ensures)))
    (c.in_ok-propose-in-Some.ensures.call h seated.stood)

pub propose_entry-requires : goal.propose_entry-requires
propose_entry-requires g c =
    subst (λ (version : Version). EntryFits version c.in-Some.entry) (sym c.version.ensures) (subst (DueFits (version_of c.args.self.now.sbac.config.version)) c.in-Some.is c.in_ok-due.ensures.fits)
