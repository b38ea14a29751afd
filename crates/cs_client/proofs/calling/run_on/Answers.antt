use Rattle.std.specs.Prelude.{Option, IfSome}
use Rattle.std.proofs.Common.{◌∙◌, sym, subst}
use Rattle.cs_tx_types.specs.declared.transaction.Tx.{Tx}
use Rattle.cs_tx_types.specs.Transaction.{TxFits}
use Rattle.cs_proc.specs.declared.call.Call.{Call}
use Rattle.cs_proc.specs.Calling.{ran}
use Rattle.cs_proc.specs.Answering.{AnswersCall}
use Rattle.cs_client.specs.Calls.{call_on}
use Rattle.cs_client.proofs.Given.{given-taken, run-taken}
use Rattle.cs_client.proofs.calling.run_on.Goals as goal

pub returns-in-Some : goal.returns-in-Some
returns-in-Some c =
    let e = c.args.errand.now in
    given-taken e (call_on e.call c.args.objects.inputs c.args.objects.reads) c.in-Some.tx (sym c.in_ok-tx.ensures.given ∙ c.in-Some.is)
    (subst (λ (tx : Option Tx). IfSome tx TxFits) c.in-Some.is c.in_ok-tx.ensures.fits)

pub returns : goal.returns
returns c =
    let e = c.args.errand.now in
    run-taken e (call_on e.call c.args.objects.inputs c.args.objects.reads) c.run_method.result (sym c.in_ok-tx.ensures.given ∙ c.in_default.is)
    (subst (λ (call : Call). AnswersCall e.book (ran e.book call) c.run_method.result) c.in_ok-call.ensures c.run_method.ensures)
