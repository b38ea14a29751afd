-- What a method makes of its arguments, and which methods it can call.
use Rattle.std.specs.Prelude.{ℕ, zero, suc, List, slice_get, Option, Some, None, if◌then◌else◌}
use Rattle.cs_lang.specs.declared.tree.ContractTree.{ContractTree}
use Rattle.cs_lang.specs.declared.tree.Method.{Method}
use Rattle.cs_types_kinds.specs.Lookups.{is_method}
use Rattle.cs_eval_values.specs.declared.view.View.{View}
use Rattle.cs_proc_parts.specs.declared.ending.Ending.TheVariants as ending
use Rattle.cs_proc_parts.specs.declared.progress.Progress.{Progress}
use Rattle.cs_proc_parts.specs.declared.progress.Opened.{Opened}
use Rattle.cs_proc_parts.specs.Courses.{ProcedureCourse, or_ends, ◌>>=◌}
use Rattle.cs_proc_parts.specs.Beginning.{opened_method}
use Rattle.cs_proc_parts.specs.Closing.{closed}
use Rattle.cs_proc.specs.Acting.{Procedure, Callee, Calls, block_does}

module _ (contract : ContractTree) (view : View) where
  -- its procedure, from the slots that are filled to the trace that is added
  abbrev pub opened_run : Calls → Method → Opened → ProcedureCourse Progress
  opened_run calls m o = block_does contract view calls m.procedure o.doing >>= closed view.contract m o.front

  -- a method takes its objects from the front of those that are left, and runs its procedure
  abbrev pub method_run : Calls → Method → Procedure
  method_run calls m arguments p =
      or_ends ending.Missing (opened_method view.contract contract.types m arguments p) >>= opened_run calls m

  abbrev pub callee : Calls → Method → Callee
  callee calls m = record { method = m; run = method_run calls m }

  abbrev pub callee_here : Calls → List ℕ → Option Method → Option Callee
  callee_here calls name None = calls name
  callee_here calls name (Some m) = if is_method name m then Some (callee calls m) else calls name

  -- The first so many methods can be called, each of which can call those above it. Names of methods are distinct.
  unfoldable pub called : ℕ → Calls
  called zero = λ name. None
  called (suc n) = λ name. callee_here (called n) name (slice_get contract.methods n)
