use Rattle.std.proofs.Common.{false, Err, ap, subst, arith}
use Rattle.std.specs.Prelude.{IfOk}
use Rattle.cs_base.specs.Answers.{Answer}
use Rattle.cs_native.specs.Approval.{is_approved_with_rules}
use Rattle.cs_replay_rules.specs.Play.{played_by}
use Rattle.cs_replay.specs.Answers.{EndsAs}
use Rattle.cs_replay.specs.Played.{course_of}
use Rattle.cs_replay.specs.declared.outcome.ReplayError.{ReplayError}
use Rattle.cs_cli.specs.SimulatedReports.{ReportTells}
use Rattle.cs_cli.proofs.Courses.{not-forged}
use Rattle.cs_cli.proofs.Ended.{unforged, told-goes, told-stops}
use Rattle.cs_cli.proofs.simulated.report_by.Goals as goal

pub returns-in-Ok : goal.returns-in-Ok
returns-in-Ok c =
    subst (λ (a : Answer). IfOk c.tell.result (ReportTells a))
    (told-goes (is_approved_with_rules c.args.book.now) c.args.number c.args.size c.args.schedule.now c.in-Ok.summary
    c.in-Ok.ensures.ends c.in-Ok.ensures.accepted c.in-Ok.ensures.aborted c.in-Ok.ensures.events c.in-Ok.ensures.sent)
    c.tell.ensures

pub returns-in-Err-Limit : goal.returns-in-Err-Limit
returns-in-Err-Limit c =
    let course = course_of (is_approved_with_rules c.args.book.now) false c.args.schedule.now in
    subst (λ (a : Answer). IfOk c.refuse.result (ReportTells a))
    (told-stops (is_approved_with_rules c.args.book.now) c.args.number c.args.size c.args.schedule.now c.in-Err-Limit.line
    (subst (λ (e : ReplayError). EndsAs course (Err e)) c.in-Err-Limit.field-0-is c.in-Err-Limit.ensures.ends))
    c.refuse.ensures

pub unreachable-requires : goal.unreachable-requires
unreachable-requires c =
    let course = course_of (is_approved_with_rules c.args.book.now) false c.args.schedule.now in
    not-forged course (played_by course) c.in-Err-Forged.field-0-0 (unforged (is_approved_with_rules c.args.book.now) c.args.schedule.now c.requires.unforged)
    (subst (λ (e : ReplayError). EndsAs course (Err e)) c.in-Err-Forged.field-0-is c.in-Err-Forged.ensures.ends)

pub unreachable-requires-in-Err-WriteFault : goal.unreachable-requires-in-Err-WriteFault
unreachable-requires-in-Err-WriteFault c = absurd (omega (arith, c.in-Err-WriteFault.ensures.cause.cause (ap Err c.in-Err-WriteFault.field-0-is)))
