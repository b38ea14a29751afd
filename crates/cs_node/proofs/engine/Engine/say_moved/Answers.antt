use Rattle.std.proofs.Common.{ℕ, subst}
use Rattle.cs_node_rules.specs.Trail.{handed, entered_view}
use Rattle.cs_node.specs.Cores.{site_at}
use Rattle.cs_node.specs.Notes.{TellsSigns}
use Rattle.cs_node.proofs.Sums.{tells-more}
use Rattle.cs_node.proofs.engine.Engine.say_moved.Goals as goal

pub returns : goal.returns
returns g c = λ net genesis h first stood.
    let core = c.args.self.now in
    let approves = g.J.Judge.is_approved core.judge in
    let site = site_at g.O.Order.rules g.O.Carried.carrier net core.sbac genesis approves in
    let V : ℕ → Type 0 = λ view. TellsSigns (entered_view c.args.slot c.args.before view) c.args.draft.now c.note_entered_view.new.draft in
    tells-more (entered_view c.args.slot c.args.before (g.O.Order.rules.view h)) (handed site core.sbac.me c.args.outgoing.items) c.args.draft.now c.note_entered_view.new.draft c.hand_out.new.draft
    (subst V (c.view.ensures h stood) c.in_ok-note_entered_view.ensures) (c.in_ok-hand_out.ensures net genesis approves first)
