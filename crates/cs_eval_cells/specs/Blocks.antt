-- How many cells a block makes at most: those of its values, and of what stands under its names.
use Rattle.std.specs.Prelude.{ℕ, ◌+◌, ◌*◌, max}
use Rattle.cs_lang_token.specs.declared.limits.TheConstants.{MOST_ITEMS}
use Rattle.cs_lang.specs.declared.tree.Block.{Block}
use Rattle.cs_lang.specs.declared.tree.Statement.{Statement}
use Rattle.cs_lang.specs.declared.tree.Action.{Action}
use Rattle.cs_lang.specs.declared.tree.Action.TheOpen.{Block-F, Statement-F, Action-F}
use Rattle.cs_lang.specs.declared.tree.Action.TheFolds.{fold-Block, fold-Statement, fold-Action}
use Rattle.cs_eval_cells.specs.Cells.{together, cells}

-- a name, its kind and what it stands for
abbrev pub name_cells : ℕ
name_cells = 4

-- each turn of a loop has a name
abbrev pub turns_cells : ℕ → ℕ → ℕ
turns_cells count each = count * (each + name_cells)

-- a check makes no objects and calls no methods
abbrev pub action_cells : Action-F ℕ ℕ ℕ → ℕ
action_cells (Action-F.Let name value) = cells value + name_cells
action_cells (Action-F.Set name value) = cells value
action_cells (Action-F.If e block) = cells e + block
action_cells (Action-F.IfElse e block other) = cells e + max block other
action_cells (Action-F.ForIn name list each) = cells list + turns_cells MOST_ITEMS each
action_cells (Action-F.ForTo name count each) = turns_cells count each
action_cells (Action-F.Answer e) = cells e
action_cells action = 0

abbrev pub statement_cells : Statement-F ℕ ℕ ℕ → ℕ
statement_cells s = s.action

abbrev pub block_cells : Block-F ℕ ℕ ℕ → ℕ
block_cells b = together b.statements

unfoldable pub cells_of_block : Block → ℕ
cells_of_block = fold-Block ℕ ℕ ℕ action_cells block_cells statement_cells

unfoldable pub cells_of_statement : Statement → ℕ
cells_of_statement = fold-Statement ℕ ℕ ℕ action_cells block_cells statement_cells

unfoldable pub cells_of_action : Action → ℕ
cells_of_action = fold-Action ℕ ℕ ℕ action_cells block_cells statement_cells
