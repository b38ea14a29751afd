use Rattle.std.proofs.lemmas.Result.{IfOk-weaker}
use Rattle.cs_transact.specs.Command.{answer_told}
use Rattle.cs_transact.proofs.Closed.{told-long}
use Rattle.cs_transact.proofs.command.tell_text.Goals as goal

pub returns-then-text-gt-MOST_SCHEDULE : goal.returns-then-text-gt-MOST_SCHEDULE
returns-then-text-gt-MOST_SCHEDULE c =
    IfOk-weaker c.tell_long.result _ _ (λ told is. told-long c.args.number c.args.text.now (answer_told told) c.if-text-gt-MOST_SCHEDULE.true is) c.tell_long.ensures
