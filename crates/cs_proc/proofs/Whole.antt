-- A whole procedure, from its beginning to its end.
use Rattle.std.proofs.Common.{◌≡◌, ℕ, List, [], Option, Some, Result, sym, ap, ◌∙◌, arith}
use Rattle.cs_lang.specs.declared.tree.Method.{Method}
use Rattle.cs_tx_value.specs.declared.value.Value.{Value}
use Rattle.cs_eval.specs.declared.scene.Scene.{Scene}
use Rattle.cs_eval_check.specs.declared.task.Task.{Task}
use Rattle.cs_proc_parts.specs.declared.ending.Ending.TheVariants as ending
use Rattle.cs_proc_parts.specs.declared.ending.Halt.{Halt}
use Rattle.cs_proc_parts.specs.declared.progress.Progress.{Progress}
use Rattle.cs_proc_parts.specs.declared.progress.Doing.{Doing}
use Rattle.cs_proc_parts.specs.declared.progress.Opened.{Opened}
use Rattle.cs_proc_parts.specs.Courses.{ProcedureCourse, Went, spending, ◌>>=◌, or_ends, CourseComes}
use Rattle.cs_proc_parts.specs.Beginning.{opened_method}
use Rattle.cs_proc_parts.specs.Closing.{closed}
use Rattle.cs_proc.specs.Acting.{block_does}
use Rattle.cs_proc.specs.Methods.{opened_run, method_run}
use Rattle.cs_proc.specs.Tasks.{calls_at, rest_of_procedure, then_rest_of_procedure}
use Rattle.cs_proc.proofs.Laws.{spending_none, went_bind, bind_goes, comes_spent}

module _ (scene : Scene) (above : ℕ) (m : Method) (arguments : List Value) (p : Progress) where
  whole : ProcedureCourse Progress
  whole = method_run scene.contract.now scene.view.now (calls_at scene above) m arguments p

  block : Opened → ProcedureCourse Doing
  block o = block_does scene.contract.now scene.view.now (calls_at scene above) m.procedure o.doing

  begun : (o : Opened) → opened_method scene.view.now.contract scene.contract.now.types m arguments p ≡ Some o
      → whole ≡ (block o >>= closed scene.view.now.contract m o.front)
  unfolding whole block
  begun o is =
      ap (λ (q : Option Opened). or_ends ending.Missing q >>= opened_run scene.contract.now scene.view.now (calls_at scene above) m) is
      ∙ spending_none (opened_run scene.contract.now scene.view.now (calls_at scene above) m o)

  -- what is left to do of the block is all of it
  left_is : (o : Opened) (before tasks : List Task) (s : Doing) → before ≡ [] → then_rest_of_procedure scene above before (block o) ≡ spending 0 (rest_of_procedure scene above tasks s)
      → block o ≡ rest_of_procedure scene above tasks s
  left_is o before tasks s none is =
      sym (bind_goes (block o)) ∙ ap (λ (ts : List Task). then_rest_of_procedure scene above ts (block o)) (sym none) ∙ is ∙ spending_none (rest_of_procedure scene above tasks s)

  pub procedure_comes : (answer : Result Progress Halt) (o : Opened) (before tasks : List Task) (s t : Doing) (n : ℕ) → opened_method scene.view.now.contract scene.contract.now.types m arguments p ≡ Some o → before ≡ []
      → then_rest_of_procedure scene above before (block_does scene.contract.now scene.view.now (calls_at scene above) m.procedure o.doing) ≡ spending 0 (rest_of_procedure scene above tasks s)
      → rest_of_procedure scene above tasks s ≡ Went t n → CourseComes answer 0 (closed scene.view.now.contract m o.front t)
      → CourseComes answer n (method_run scene.contract.now scene.view.now (calls_at scene above) m arguments p)
  unfolding whole block
  procedure_comes answer o before tasks s t n is none left went h =
      comes_spent answer n 0 n whole (closed scene.view.now.contract m o.front t) (omega arith)
      (begun o is ∙ went_bind (block o) t n (closed scene.view.now.contract m o.front) (left_is o before tasks s none left ∙ went)) h
