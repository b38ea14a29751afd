-- What the run of the method that is called comes to.
use Rattle.std.specs.Prelude.{ℕ, bytes_eq, codes, List, [], slice_get, Option, Some, None, Result, Ok, Err, if◌then◌else◌}
use Rattle.cs_lang.specs.declared.tree.ContractTree.{ContractTree}
use Rattle.cs_lang.specs.declared.tree.Method.{Method}
use Rattle.cs_tx_types.specs.declared.trace.Trace.{Trace}
use Rattle.cs_tx.specs.Token.{token_id}
use Rattle.cs_types_kinds.specs.Lookups.{method_number}
use Rattle.cs_types.specs.Accepted.{Accepted}
use Rattle.cs_eval_values.specs.declared.view.View.{View}
use Rattle.cs_proc_parts.specs.declared.ending.Ending.{Ending}
use Rattle.cs_proc_parts.specs.declared.ending.Ending.TheVariants as ending
use Rattle.cs_proc_parts.specs.declared.progress.Progress.{Progress}
use Rattle.cs_proc_parts.specs.Courses.{ProcedureCourse, Went, Ended}
use Rattle.cs_proc_parts.specs.Closing.{is_used_up}
use Rattle.cs_proc.specs.Methods.{method_run, called}
use Rattle.cs_approve.specs.Books.{Contracts, contract_under}
use Rattle.cs_proc.specs.declared.call.Call.{Call}
use Rattle.cs_proc.specs.declared.error.ProcError.{ProcError}
use Rattle.cs_proc.specs.declared.error.ProcError.TheVariants as error
use Rattle.cs_proc.specs.Transfer.{transferred}

-- what the run of a method is told: its traces, or why there are none
abbrev pub CallRan : Type 0
CallRan = Result (List Trace) ProcError

abbrev pub refusal_of : Ending → ProcError
refusal_of (ending.Trap why place) = error.Trap place
refusal_of (ending.Filled place) = error.Trap place
refusal_of (ending.Unfilled place) = error.Trap place
refusal_of ending.Missing = error.BadArgs

abbrev pub call_ran_of : ProcedureCourse Progress → CallRan
call_ran_of (Went p n) = if is_used_up p then Ok p.traces else Err error.BadArgs
call_ran_of (Ended why n) = Err (refusal_of why)

-- ---- the contracts of a book

-- A view that has nothing but the id of this contract: no expression of a procedure asks for more.
abbrev pub view_under : List ℕ → View
view_under id =
    record { contract = id; inputs = []; reads = []; params = []; outputs = []; returns = []; deps = [] }

abbrev pub before_all : Call → Progress
before_all call = record { inputs = call.inputs; reads = call.reads; traces = [] }

-- a method that stands below so many others, which it can call
abbrev pub method_ran : ContractTree → Call → ℕ → Option Method → CallRan
method_ran contract call number None = Err error.NoMethod
method_ran contract call number (Some m) =
    let view = view_under call.contract in
    call_ran_of (method_run contract view (called contract view number) m call.args (before_all call))

abbrev pub numbered_ran : ContractTree → Call → Option ℕ → CallRan
numbered_ran contract call None = Err error.NoMethod
numbered_ran contract call (Some number) = method_ran contract call number (slice_get contract.methods number)

abbrev pub contract_ran : Call → Option Accepted → CallRan
contract_ran call None = Err error.NoMethod
contract_ran call (Some a) = numbered_ran a.contract call (method_number call.method a.contract.methods)

-- ---- `token`

abbrev pub or_bad : Option (List Trace) → CallRan
or_bad None = Err error.BadArgs
or_bad (Some traces) = Ok traces

abbrev pub token_ran : Call → CallRan
token_ran call = if bytes_eq call.method (codes "transfer") then or_bad (transferred call) else Err error.NoMethod

-- `token` is always there under its id
abbrev pub ran : Contracts → Call → CallRan
ran contracts call =
    if bytes_eq call.contract token_id then token_ran call
    else contract_ran call (contract_under call.contract contracts)
