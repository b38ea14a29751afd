-- How many places the tasks of a check fill at most, and the frames of each of its expressions.
use denote.Ref.{Bor}
use Rattle.std.specs.Prelude.{◌≡◌, ℕ, ◌+◌, ◌≤◌, max, List, [], ◌∷◌, map, length, Option, Some, None}
use Rattle.cs_lang.specs.declared.tree.Block.{Block}
use Rattle.cs_eval.specs.Blocks.{one_by_one, turns_places, places_of_block, places_of_statement}
use Rattle.cs_eval_check.specs.declared.task.Loop.{Loop}
use Rattle.cs_eval_check.specs.declared.task.Task.{Task}
use Rattle.cs_eval_check.specs.declared.task.Task.TheVariants as task
use Rattle.cs_eval_check.specs.declared.running.Running.{Running}
use Rattle.cs_eval_check.specs.TaskWork.{most_turns}

abbrev pub loop_places : Loop → ℕ
loop_places l = turns_places (most_turns l.source) (places_of_block l.each.now)

abbrev pub places_of_other : Option (Bor Block) → ℕ
places_of_other None = 0
places_of_other (Some b) = places_of_block b.now

-- from where it stands until it is done
abbrev pub task_places : Task → ℕ
task_places (task.Statements ss) = one_by_one (map places_of_statement ss.now)
task_places (task.Leave n) = 1
task_places (task.Loop l) = loop_places l

-- the most that are filled at once until all is done
abbrev pub tasks_places : List Task → ℕ
tasks_places [] = 0
tasks_places (t ∷ ts) = max (length ts + task_places t) (tasks_places ts)

-- with so many above them first
abbrev pub task_places_above : ℕ → List Task → ℕ
task_places_above more ts = max (length ts + more) (tasks_places ts)

-- there is room for so many above what stands there, and for all that is left to do then; the
-- frames have as much
abbrev pub TasksHaveRoom : ℕ → Running → Type 0
TasksHaveRoom more r = (task_places_above more r.tasks.items ≤ r.tasks.most) × (r.frames.most ≡ r.tasks.most)
