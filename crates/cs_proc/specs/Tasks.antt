-- What is left to do of a procedure, and what that comes to.
use denote.Ref.{Bor}
use Rattle.std.specs.Prelude.{◌≡◌, ℕ, ◌<◌, List, [], ◌∷◌, map, take, Option, Some, None, Result, Ok, Err}
use Rattle.cs_lang.specs.declared.tree.ContractTree.{ContractTree}
use Rattle.cs_lang.specs.declared.tree.Expr.{Expr}
use Rattle.cs_lang.specs.declared.tree.Block.{Block}
use Rattle.cs_lang.specs.declared.tree.Method.{Method}
use Rattle.cs_eval_values.specs.declared.view.View.{View}
use Rattle.cs_eval_values.specs.Runs.{Run, Gave}
use Rattle.cs_eval.specs.declared.scene.Scene.{Scene}
use Rattle.cs_eval.specs.declared.frame.Frame.{Frame}
use Rattle.cs_eval_check.specs.declared.task.Loop.{Loop}
use Rattle.cs_eval_check.specs.declared.task.Task.{Task}
use Rattle.cs_eval_check.specs.declared.task.Task.TheVariants as task
use Rattle.cs_eval_check.specs.Tasks.{left_in}
use Rattle.cs_proc_parts.specs.declared.ending.Halt.{Halt}
use Rattle.cs_proc_parts.specs.declared.progress.Doing.{Doing}
use Rattle.cs_proc_parts.specs.Courses.{ProcedureCourse, Went, goes, spending, ◌>>=◌, evaluated, Halts}
use Rattle.cs_proc.specs.declared.procedures_running.Running.{Running}
use Rattle.cs_proc.specs.Acting.{ProcedureStep, Calls, with_names, if_does, turns_do, all_do, block_does, statement_does}
use Rattle.cs_proc.specs.Methods.{callee, called}

-- ---- what the tasks make of what a procedure works on

module _ (contract : ContractTree) (view : View) (calls : Calls) where
  abbrev pub loop_does : Loop → ProcedureStep
  loop_does l =
      turns_do contract view l.name.now l.kind (block_does contract view calls l.each.now) (left_in l.source l.at)

  abbrev pub finished : List Task → ProcedureStep
  finished [] s = goes s
  finished (task.Statements ss ∷ ts) s =
      all_do contract view calls (map (statement_does contract view calls) ss.now) s >>= finished ts
  finished (task.Leave n ∷ ts) s = finished ts (with_names s (take n s.names))
  finished (task.Loop l ∷ ts) s = loop_does l s >>= finished ts

  -- one block, or another one that needn't be there
  abbrev pub other_does : Option (Bor Block) → ProcedureStep
  other_does None = goes
  other_does (Some b) = block_does contract view calls b.now

  abbrev pub choice_does : Expr → Block → Option (Bor Block) → ℕ → ProcedureStep
  choice_does e block other = if_does contract view e (block_does contract view calls block) (other_does other)

-- the methods that can be called, below so many
abbrev pub calls_at : Scene → ℕ → Calls
calls_at scene above = called scene.contract.now scene.view.now above

-- what is left to do comes to this
abbrev pub rest_of_procedure : Scene → ℕ → List Task → ProcedureStep
rest_of_procedure scene above = finished scene.contract.now scene.view.now (calls_at scene above)

-- it is done after something
abbrev pub then_rest_of_procedure : Scene → ℕ → List Task → ProcedureCourse Doing → ProcedureCourse Doing
then_rest_of_procedure scene above tasks course = course >>= rest_of_procedure scene above tasks

-- ---- what calls answer

-- what a run gives, with nothing left to do of an expression
abbrev pub RunGivesValue : {X : Type 0} → Result X Halt → ℕ → Run X → List Frame → Type 0
RunGivesValue (Ok x) units run fs = (run ≡ Gave x units) × (fs ≡ [])
RunGivesValue (Err e) units run fs = Halts e units (evaluated run)

-- so much was spent, and this is what the procedure works on
abbrev pub TasksDo : Result Unit Halt → ℕ → ProcedureCourse Doing → Running → Type 0
TasksDo (Ok done) units course r = (course ≡ Went r.doing units) × (r.frames.items ≡ [])
TasksDo (Err e) units course r = Halts e units course

-- so much was spent, and the rest is what the tasks make of it
abbrev pub Acts : Scene → ℕ → Result Unit Halt → ℕ → ProcedureCourse Doing → Running → Type 0
Acts scene above (Ok done) units course r =
    (course ≡ spending units (rest_of_procedure scene above r.tasks.items r.doing)) × (r.frames.items ≡ [])
Acts scene above (Err e) units course r = Halts e units course

-- the method above so many that is called by a name, and how many stand above it
abbrev pub FindsMethod : Scene → ℕ → List ℕ → Option (ℕ × Bor Method) → Type 0
FindsMethod scene above name None = calls_at scene above name ≡ None
FindsMethod scene above name (Some found) =
    (found.0 < above)
    × (calls_at scene above name ≡ Some (callee scene.contract.now scene.view.now (calls_at scene found.0) found.1.now))
