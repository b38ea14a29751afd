use Rattle.std.proofs.Common.{sym, ◌∙◌}
use Rattle.cs_io.proofs.Closings.{closing-failed}
use Rattle.cs_deploy.proofs.Answered.{answered}
use Rattle.cs_deploy.proofs.telling.tell.Goals as goal

pub returns-clause-answers : goal.returns-clause-answers
returns-clause-answers g c =
    answered (record { status = c.args.status; printed = c.args.text.now }) c.print.result _ _ c.closing.result c.print.ensures.done c.print.ensures.part c.closing.ensures

pub returns-clause-faults : goal.returns-clause-faults
returns-clause-faults g c = c.print.ensures.cause.later

pub returns-clause-cause : goal.returns-clause-cause
returns-clause-cause g c = λ own six. c.print.ensures.cause.cause (closing-failed c.print.result c.args.status own (sym c.closing.ensures ∙ six))
