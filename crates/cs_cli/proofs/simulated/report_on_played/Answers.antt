use Rattle.std.proofs.Common.{◌≡◌, ℕ, List, Some, ap, subst, ◌∙◌}
use Rattle.std.specs.Prelude.{IfOk}
use Rattle.cs_native.specs.Approval.{is_approved_with_rules}
use Rattle.cs_approve.specs.Books.{Contracts, contracts_of, first_refused}
use Rattle.cs_approve.specs.Refusing.{IsFirstRefused}
use Rattle.cs_approve.specs.declared.book.BookError.{BookError}
use Rattle.cs_replay.proofs.Books.{never_refused}
use Rattle.cs_cli.specs.SimulatedReports.{ReportTells}
use Rattle.cs_cli.specs.Simulated.{played_answer}
use Rattle.cs_cli.proofs.simulated.report_on_played.Goals as goal

pub unreachable-requires : goal.unreachable-requires
unreachable-requires c =
    let place = c.in-Err-Refused.field-0-0 in
    let first = subst (λ (e : BookError). IsFirstRefused c.as_slice.result.now e) c.in-Err-Refused.field-0-is c.in-Err-Refused.ensures.refused in
    never_refused c.args.schedule.now place c.requires.playable (subst (λ (texts : List (List ℕ)). first_refused texts ≡ Some place) c.as_slice.ensures first.0)

pub returns-in-Ok : goal.returns-in-Ok
returns-in-Ok c =
    subst (λ (contracts : Contracts). IfOk c.report_by.result (ReportTells (played_answer (is_approved_with_rules contracts) c.args.number c.args.size c.args.schedule.now)))
    (c.new-ruled.ensures ∙ c.in-Ok.ensures.made ∙ ap contracts_of c.as_slice.ensures) c.report_by.ensures
