use Rattle.std.proofs.Common.{◌≤◌, List, Some, None, length, ap, sym, subst, ◌∙◌}
use Rattle.std.specs.Prelude.{IfOk}
use Rattle.std.specs.List.{All}
use Rattle.cs_base.specs.Answers.{Answer}
use Rattle.cs_base.specs.declared.limits.TheConstants.{MOST_GENESIS}
use Rattle.cs_tx_value.specs.Object.{ObjectFits}
use Rattle.cs_tx_value.specs.declared.object.Object.{Object}
use Rattle.cs_sched.specs.declared.schedule.Schedule.{Schedule}
use Rattle.cs_cli.specs.Keys.{repeated_key}
use Rattle.cs_cli.specs.SimulatedReports.{ReportTells}
use Rattle.cs_cli.proofs.Ended.{answered, can-play, injects-none}
use Rattle.cs_cli.proofs.Generated.{objects-fit, few-objects}
use Rattle.cs_cli.proofs.simulated.report_on.Goals as goal

pub repeated_key-requires-clause-fit : goal.repeated_key-requires-clause-fit
repeated_key-requires-clause-fit c =
    subst (λ (objects : List Object). All ObjectFits objects) (sym (c.as_slice.ensures ∙ ap (λ (s : Schedule). s.genesis) c.in_ok-schedule.ensures))
    (objects-fit c.args.number c.args.size)

pub repeated_key-requires-clause-few : goal.repeated_key-requires-clause-few
repeated_key-requires-clause-few c =
    subst (λ (objects : List Object). length objects ≤ MOST_GENESIS) (sym (c.as_slice.ensures ∙ ap (λ (s : Schedule). s.genesis) c.in_ok-schedule.ensures))
    (few-objects c.args.number c.args.size c.requires)

pub report_on_played-requires-clause-playable : goal.report_on_played-requires-clause-playable
report_on_played-requires-clause-playable c =
    can-play c.args.number c.args.size _ _ (c.generated_schedules_are_playable.ensures.playable c.args.number c.args.size c.requires) c.in_ok-schedule.ensures c.as_slice.ensures
    (sym c.in-None.is ∙ c.in_ok-place.ensures)

pub report_on_played-requires-clause-unforged : goal.report_on_played-requires-clause-unforged
report_on_played-requires-clause-unforged c = injects-none c.args.number c.args.size _ c.in_ok-schedule.ensures

pub returns-in-Some : goal.returns-in-Some
returns-in-Some c =
    subst (λ (a : Answer). IfOk c.refuse.result (ReportTells a))
    (answered c.args.number c.args.size _ (Some c.from.result) c.in_ok-schedule.ensures (ap Some c.from.ensures ∙ sym c.in-Some.is ∙ c.in_ok-place.ensures ∙ ap repeated_key c.as_slice.ensures))
    c.refuse.ensures

pub returns : goal.returns
returns c =
    subst (λ (a : Answer). IfOk c.report_on_played.result (ReportTells a))
    (answered c.args.number c.args.size _ None c.in_ok-schedule.ensures (sym c.in-None.is ∙ c.in_ok-place.ensures ∙ ap repeated_key c.as_slice.ensures))
    c.report_on_played.ensures
