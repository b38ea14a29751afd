use Rattle.std.proofs.Common.{sym, ap, ◌∙◌}
use Rattle.cs_order_rules.specs.Slot.{quorum}
use Rattle.cs_slot.specs.Kept.{Rows, said_if, said_in_view}
use Rattle.cs_slot.proofs.Ends.{nobody_agrees}
use Rattle.cs_slot.proofs.votes.Votes.quorum.Goals as goal

pub returns-in-Some : goal.returns-in-Some
returns-in-Some c =
    c.agreed.ensures ∙ ap (λ o. quorum c.args.f (λ m. said_if o m)) c.in-Some.ensures.value
    ∙ ap (λ (rows : Rows). quorum c.args.f (said_in_view rows c.args.view)) c.self.view_is

pub returns-in-None : goal.returns-in-None
returns-in-None c =
    nobody_agrees c.args.f (said_in_view c.self.inside.rows.entries c.args.view) (λ m. ap (λ o. said_if o m) (sym c.in-None.ensures.value))
    ∙ ap (λ (rows : Rows). quorum c.args.f (said_in_view rows c.args.view)) c.self.view_is
