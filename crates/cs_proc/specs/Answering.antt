-- What is answered to a call.
use Rattle.std.specs.Prelude.{◌≡◌, ℕ, ◌+◌, true, List, [], ◌∷◌, Option, Some, None, Result, Ok, Err, if◌then◌else◌}
use Rattle.cs_tx_types.specs.declared.trace.Trace.{Trace}
use Rattle.cs_tx_types.specs.declared.transaction.Tx.{Tx}
use Rattle.cs_tx_types.specs.Transaction.{TxFits, tx_of}
use Rattle.cs_proc_parts.specs.declared.ending.Halt.{Halt}
use Rattle.cs_proc_parts.specs.declared.progress.Progress.{Progress}
use Rattle.cs_proc_parts.specs.Courses.{ProcedureCourse, CourseComes}
use Rattle.cs_approve.specs.Books.{Contracts}
use Rattle.cs_approve.specs.Approval.{is_trace_approved, is_approved}
use Rattle.cs_proc.specs.declared.error.ProcError.{ProcError}
use Rattle.cs_proc.specs.declared.error.ProcError.TheVariants as error
use Rattle.cs_proc.specs.Calling.{CallRan, call_ran_of}

-- the number of the first of these traces that isn't approved, among all, where theirs begin with this one
abbrev pub first_no_from : Contracts → List Trace → ℕ → List Trace → Option ℕ
first_no_from contracts all number [] = None
first_no_from contracts all number (t ∷ ts) =
    if is_trace_approved contracts all t then first_no_from contracts all (number + 1) ts else Some number

-- the first trace whose check says no
abbrev pub first_no : Contracts → List Trace → Option ℕ
first_no contracts traces = first_no_from contracts traces 0 traces

-- traces that are too much for a transaction
pub record IsTooLarge (run : CallRan) : Type 0 where
  pub traces : List Trace
  pub ran : run ≡ Ok traces
  pub large : TxFits (tx_of traces) → ⊥

-- traces that could be a transaction, and the first of them that isn't approved
pub record IsRefusedAt (contracts : Contracts) (place : ℕ) (run : CallRan) : Type 0 where
  pub traces : List Trace
  pub ran : run ≡ Ok traces
  pub fits : TxFits (tx_of traces)
  pub refused : first_no contracts traces ≡ Some place

-- a transaction of just these traces, which the book approves
pub record IsMadeTransaction (contracts : Contracts) (tx : Tx) (run : CallRan) : Type 0 where
  pub ran : run ≡ Ok tx.traces
  pub fits : TxFits tx
  pub approved : is_approved contracts tx ≡ true

-- The size is tested before the checks; the run before both. Memory may run out.
abbrev pub AnswersCall : Contracts → CallRan → Result Tx ProcError → Type 0
AnswersCall contracts run (Ok tx) = IsMadeTransaction contracts tx run
AnswersCall contracts run (Err error.TooLarge) = IsTooLarge run
AnswersCall contracts run (Err (error.CheckerNo place)) = IsRefusedAt contracts place run
AnswersCall contracts run (Err error.Memory) = Unit {0}
AnswersCall contracts run (Err e) = run ≡ Err e

-- what a run answers; memory may run out
abbrev pub RunAnswers : CallRan → CallRan → Type 0
RunAnswers run (Ok traces) = run ≡ Ok traces
RunAnswers run (Err error.Memory) = Unit {0}
RunAnswers run (Err e) = run ≡ Err e

-- what is told of a run, whatever course it comes to with whatever it spent
abbrev pub TellsRun : Result Progress Halt → CallRan → Type 0
TellsRun run told =
    (n : ℕ) → (course : ProcedureCourse Progress) → CourseComes run n course → RunAnswers (call_ran_of course) told
