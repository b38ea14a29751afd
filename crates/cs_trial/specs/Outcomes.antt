-- What is told of a case: what its procedure makes, and what the checks say of that or of a trace that is given.
use Rattle.std.specs.Prelude.{◌≡◌, ◌⊎◌, ℕ, ◌+◌, List, [], ◌∷◌, Ok, Err}
use Rattle.cs_tx_value.specs.declared.object.Object.{Object}
use Rattle.cs_tx_value.specs.declared.value.Value.{Value}
use Rattle.cs_tx_types.specs.declared.trace.Trace.{Trace}
use Rattle.cs_tx_types.specs.Transaction.{TxFits, tx_of}
use Rattle.cs_types_kinds.specs.Lookups.{method_number}
use Rattle.cs_types.specs.Accepted.{Accepted}
use Rattle.cs_eval_law.specs.Checks.{check_cost}
use Rattle.cs_eval_place.specs.declared.verdict.Verdict.{Verdict}
use Rattle.cs_eval_place.specs.declared.verdict.Verdict.TheVariants as verdict
use Rattle.cs_eval_place.specs.Locating.{verdict_of_check}
use Rattle.cs_approve.specs.Seen.{view_of_trace}
use Rattle.cs_proc.specs.declared.call.Call.{Call}
use Rattle.cs_proc.specs.declared.error.ProcError.TheVariants as error
use Rattle.cs_proc.specs.Calling.{CallRan, numbered_ran}
use Rattle.cs_cases.specs.declared.case.Case.{Case}
use Rattle.cs_cases.specs.declared.case.Asked.{Asked}
use Rattle.cs_cases.specs.declared.case.Asked.TheVariants.{Shown, Made, Given}
use Rattle.cs_trial.specs.declared.outcome.Outcome.{Outcome}
use Rattle.cs_trial.specs.declared.outcome.Outcome.TheVariants.{Yes, No, Trap, Args, Large}

-- ---- the checks of traces

abbrev pub by_verdict : Verdict → Outcome → Outcome
by_verdict verdict.Yes others = others
by_verdict (verdict.No place) others = No place
by_verdict (verdict.Trap place) others = Trap place

-- the first trace that isn't said yes to; or what all their checks may cost, and so much before
abbrev pub checks_say : Accepted → List Trace → ℕ → List Trace → Outcome
checks_say a all cost [] = Yes cost
checks_say a all cost (t ∷ ts) =
    by_verdict (verdict_of_check a.contract t.method (view_of_trace all t))
    (checks_say a all (cost + check_cost a t.method) ts)

-- Traces that could be a transaction are asked of, and are what is shown.
abbrev pub TracesTell : Accepted → List Trace → Outcome → List Trace → Type 0
TracesTell a traces outcome made =
    (TxFits (tx_of traces) × (outcome ≡ checks_say a traces 0 traces) × (made ≡ traces))
    ⊎ ((TxFits (tx_of traces) → ⊥) × (outcome ≡ Large) × (made ≡ []))

-- ---- what the procedure makes

-- a case as a call of the contract with this id
abbrev pub call_of : List ℕ → Case → Call
call_of id c = record {
  contract = id;
  method = c.method;
  inputs = c.inputs;
  reads = c.references;
  args = c.arguments;
}

-- what the run of the procedure comes to
abbrev pub case_ran : Accepted → List ℕ → Case → CallRan
case_ran a id c = numbered_ran a.contract (call_of id c) (method_number c.method a.contract.methods)

-- it traps, or makes traces; else objects or arguments don't fit
abbrev pub RunTells : Accepted → CallRan → Outcome → List Trace → Type 0
RunTells a (Ok traces) outcome made = TracesTell a traces outcome made
RunTells a (Err (error.Trap place)) outcome made = (outcome ≡ Trap place) × (made ≡ [])
RunTells a (Err e) outcome made = (outcome ≡ Args) × (made ≡ [])

-- ---- cases

-- a trace that is given stands on none
abbrev pub given_trace : List ℕ → Case → List Object → List Value → Trace
given_trace id c outputs returns = record {
  contract = id;
  method = c.method;
  inputs = c.inputs;
  references = c.references;
  parameters = c.arguments;
  outputs = outputs;
  returns = returns;
  deps = [];
}

abbrev pub AskedTells : Accepted → List ℕ → Case → Asked → Outcome → List Trace → Type 0
AskedTells a id c Shown outcome made = RunTells a (case_ran a id c) outcome made
AskedTells a id c (Made wanted) outcome made = RunTells a (case_ran a id c) outcome made
AskedTells a id c (Given outputs returns wanted) outcome made =
    TracesTell a (given_trace id c outputs returns ∷ []) outcome made

-- what a case comes to, and the traces that were asked of
abbrev pub CaseTells : Accepted → List ℕ → Case → Outcome → List Trace → Type 0
CaseTells a id c outcome made = AskedTells a id c c.asked outcome made
