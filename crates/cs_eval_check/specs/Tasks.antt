-- What is left to do of statements, and what that comes to.
use denote.Ref.{Bor}
use Rattle.std.specs.Prelude.{◌≡◌, ℕ, ◌-◌, Bool, List, [], ◌∷◌, map, take, drop, Option, Some, None, Result, Ok, Err}
use Rattle.cs_lang_token.specs.declared.limits.TheConstants.{MOST_ITEMS}
use Rattle.cs_lang.specs.declared.tree.ContractTree.{ContractTree}
use Rattle.cs_lang.specs.declared.tree.Expr.{Expr}
use Rattle.cs_lang.specs.declared.tree.Block.{Block}
use Rattle.cs_eval_values.specs.declared.stop.Stop.{Stop}
use Rattle.cs_eval_values.specs.declared.view.View.{View}
use Rattle.cs_eval_values.specs.Answers.{Stops}
use Rattle.cs_eval_values.specs.Runs.{Run, Gave, gives, spend, ◌>>=◌}
use Rattle.cs_eval_values.specs.Datums.{Datum, items_of}
use Rattle.cs_eval_values.specs.Namings.{Named}
use Rattle.cs_eval.specs.declared.scene.Scene.{Scene}
use Rattle.cs_eval.specs.declared.frame.Frame.{Frame}
use Rattle.cs_eval_check.specs.declared.task.Source.{Source}
use Rattle.cs_eval_check.specs.declared.task.Source.TheVariants as source
use Rattle.cs_eval_check.specs.declared.task.Loop.{Loop}
use Rattle.cs_eval_check.specs.declared.task.Task.{Task}
use Rattle.cs_eval_check.specs.declared.task.Task.TheVariants as task
use Rattle.cs_eval_check.specs.declared.running.Running.{Running}
use Rattle.cs_eval_law.specs.Acting.{numbers, if_run, turns_run, all_run, block_run, statement_run}

-- ---- loops

abbrev pub left_of : ℕ → Option (List Datum) → List Datum
left_of at None = []
left_of at (Some items) = drop at (take MOST_ITEMS items)

-- what a loop is still to go over before a turn
abbrev pub left_in : Source → ℕ → List Datum
left_in (source.Numbers end) at = numbers (end - at) at
left_in (source.Items d) at = left_of at (items_of d)

abbrev pub first_datum : List Datum → Option Datum
first_datum [] = None
first_datum (d ∷ ds) = Some d

-- ---- what the tasks make of the names

module _ (contract : ContractTree) (view : View) where
  abbrev pub loop_run : Loop → List Named → Run (List Named)
  loop_run l = turns_run contract view l.name.now l.kind (block_run contract view l.each.now) (left_in l.source l.at)

  abbrev pub finished : List Task → List Named → Run (List Named)
  finished [] names = gives names
  finished (task.Statements ss ∷ ts) names =
      all_run contract view (map (statement_run contract view) ss.now) names >>= finished ts
  finished (task.Leave n ∷ ts) names = finished ts (take n names)
  finished (task.Loop l ∷ ts) names = loop_run l names >>= finished ts

  -- one block, or another one that needn't be there
  abbrev pub other_run : Option (Bor Block) → List Named → Run (List Named)
  other_run None = gives
  other_run (Some b) = block_run contract view b.now

  abbrev pub choice_run : Expr → Block → Option (Bor Block) → ℕ → List Named → Run (List Named)
  choice_run e block other = if_run contract view e (block_run contract view block) (other_run other)

-- what is left to do comes to this
abbrev pub left_to : Scene → List Task → List Named → Run (List Named)
left_to scene tasks names = finished scene.contract.now scene.view.now tasks names

-- it is done after something that gives names
abbrev pub then_left : Scene → List Task → Run (List Named) → Run (List Named)
then_left scene tasks run = run >>= left_to scene tasks

-- ---- what calls answer

-- a condition, with nothing left to do of it
abbrev pub Decides : Result Bool Stop → ℕ → Run Bool → List Frame → Type 0
Decides (Ok b) units run fs = (run ≡ Gave b units) × (fs ≡ [])
Decides (Err e) units run fs = Stops e units run

-- so much was spent, and the rest is what the tasks make of the names
abbrev pub TasksAct : Scene → Result Unit Stop → ℕ → Run (List Named) → Running → Type 0
TasksAct scene (Ok done) units run r = (run ≡ spend units (left_to scene r.tasks.items r.names)) × (r.frames.items ≡ [])
TasksAct scene (Err e) units run r = Stops e units run

-- all is done
abbrev pub TasksRan : Result Unit Stop → ℕ → Run (List Named) → Running → Type 0
TasksRan (Ok done) units run r = run ≡ Gave r.names units
TasksRan (Err e) units run r = Stops e units run
