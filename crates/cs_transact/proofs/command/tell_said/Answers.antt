use Rattle.std.proofs.Common.{Ok, Err, subst}
use Rattle.std.proofs.lemmas.Result.{IfOk-weaker}
use Rattle.cs_transact.specs.Command.{answer_told}
use Rattle.cs_transact.specs.Refusing.{Unless}
use Rattle.cs_transact.specs.Says.{TextSays}
use Rattle.cs_transact.specs.declared.refusal.TextError.{TextError}
use Rattle.cs_transact.proofs.Closed.{told-said}
use Rattle.cs_transact.proofs.command.tell_said.Goals as goal

pub returns-in-Ok : goal.returns-in-Ok
returns-in-Ok c =
    IfOk-weaker c.tell_made.result _ _
    (λ told is. told-said c.args.number c.args.text.now (answer_told told) (Ok c.in-Ok.tx) c.requires c.in-Ok.ensures.says is)
    c.tell_made.ensures

pub returns-in-Err-Refused : goal.returns-in-Err-Refused
returns-in-Err-Refused c =
    let says = subst (λ (e : TextError). Unless (TextSays c.args.text.now) (Err e)) c.in-Err-Refused.field-0-is c.in-Err-Refused.ensures.says in
    IfOk-weaker c.tell_refusal.result _ _
    (λ told is. told-said c.args.number c.args.text.now (answer_told told) (Err c.in-Err-Refused.refusal) c.requires says is)
    c.tell_refusal.ensures
