-- How much is left to do of statements at most: each turn of the machine lowers it.
use denote.Ref.{Bor}
use Rattle.std.specs.Prelude.{ℕ, ◌+◌, ◌-◌, ◌*◌, min, List, [], ◌∷◌, map, Option, Some, None}
use Rattle.cs_lang_token.specs.declared.limits.TheConstants.{MOST_ITEMS, MOST_TURNS}
use Rattle.cs_lang.specs.declared.tree.Block.{Block}
use Rattle.cs_lang.specs.declared.tree.Statement.{Statement}
use Rattle.cs_lang.specs.declared.tree.Action.{Action}
use Rattle.cs_lang.specs.declared.tree.Action.TheOpen.{Block-F, Statement-F, Action-F}
use Rattle.cs_lang.specs.declared.tree.Action.TheFolds.{fold-Block, fold-Statement, fold-Action}
use Rattle.cs_eval.specs.Work.{all_work}
use Rattle.cs_eval_check.specs.declared.task.Source.{Source}
use Rattle.cs_eval_check.specs.declared.task.Source.TheVariants as source
use Rattle.cs_eval_check.specs.declared.task.Loop.{Loop}
use Rattle.cs_eval_check.specs.declared.task.Task.{Task}
use Rattle.cs_eval_check.specs.declared.task.Task.TheVariants as task

-- of so many turns
abbrev pub turns_work : ℕ → ℕ → ℕ
turns_work count each = count * (each + 1) + 1

abbrev pub action_work : Action-F ℕ ℕ ℕ → ℕ
action_work (Action-F.If e block) = block + 1
action_work (Action-F.IfElse e block other) = block + other + 1
action_work (Action-F.ForIn name list each) = turns_work MOST_ITEMS each + 1
action_work (Action-F.ForTo name count each) = turns_work (min count MOST_TURNS) each + 1
action_work action = 1

abbrev pub statement_work : Statement-F ℕ ℕ ℕ → ℕ
statement_work s = s.action

-- the statements, and the end of their names
abbrev pub block_work : Block-F ℕ ℕ ℕ → ℕ
block_work b = all_work b.statements + 1

unfoldable pub work_of_block : Block → ℕ
work_of_block = fold-Block ℕ ℕ ℕ action_work block_work statement_work

unfoldable pub work_of_statement : Statement → ℕ
work_of_statement = fold-Statement ℕ ℕ ℕ action_work block_work statement_work

unfoldable pub work_of_action : Action → ℕ
work_of_action = fold-Action ℕ ℕ ℕ action_work block_work statement_work

abbrev pub work_of_other : Option (Bor Block) → ℕ
work_of_other None = 0
work_of_other (Some b) = work_of_block b.now

-- the turns that a loop has at most
abbrev pub most_turns : Source → ℕ
most_turns (source.Numbers end) = end
most_turns (source.Items d) = MOST_ITEMS

abbrev pub loop_work : Loop → ℕ
loop_work l = turns_work (most_turns l.source - l.at) (work_of_block l.each.now)

abbrev pub task_work : Task → ℕ
task_work (task.Statements ss) = all_work (map work_of_statement ss.now)
task_work (task.Leave n) = 1
task_work (task.Loop l) = loop_work l

abbrev pub tasks_work : List Task → ℕ
tasks_work [] = 0
tasks_work (t ∷ ts) = task_work t + tasks_work ts
