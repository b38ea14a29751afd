-- The transaction that a call file has in place of a call.
use Rattle.std.specs.Prelude.{◌≡◌, Option, Some, None, Result, Ok, Err}
use Rattle.std.proofs.Common.{refl, sym, subst}
use Rattle.cs_tx_types.specs.declared.transaction.Tx.{Tx}
use Rattle.cs_tx_types.specs.Transaction.{TxFits}
use Rattle.cs_proc.specs.declared.call.Call.{Call}
use Rattle.cs_proc.specs.declared.error.ProcError.{ProcError}
use Rattle.cs_proc.specs.Calling.{ran}
use Rattle.cs_proc.specs.Answering.{AnswersCall}
use Rattle.cs_client.specs.Calls.{given_tx, unless_given, ran_with}
use Rattle.cs_client.specs.Seen.{IsTaken, TakesTransaction}
use Rattle.cs_client.specs.declared.errand.Errand.{Errand}

module _ (e : Errand) (call : Call) where
  -- it is taken as it stands
  pub given-taken : (tx : Tx) → given_tx e.call ≡ Some tx → TxFits tx → TakesTransaction e (ran_with e call) (Ok tx)
  given-taken tx is fits = subst (λ (g : Option Tx). IsTaken g e.book tx (unless_given g (ran e.book call))) (sym is) (refl, fits)

  -- where there is none, the method is run
  pub run-taken : (r : Result Tx ProcError) → given_tx e.call ≡ None → AnswersCall e.book (ran e.book call) r → TakesTransaction e (ran_with e call) r
  run-taken (Ok tx) is made = subst (λ (g : Option Tx). IsTaken g e.book tx (unless_given g (ran e.book call))) (sym is) made
  run-taken (Err cause) is refused = subst (λ (g : Option Tx). AnswersCall e.book (unless_given g (ran e.book call)) (Err cause)) (sym is) refused
