-- How many places a block takes at most: of its expressions on one stack, and of its statements on another.
use Rattle.std.specs.Prelude.{ℕ, zero, suc, ◌+◌, max, List, [], ◌∷◌}
use Rattle.cs_lang.specs.declared.tree.Block.{Block}
use Rattle.cs_lang.specs.declared.tree.Statement.{Statement}
use Rattle.cs_lang.specs.declared.tree.Action.{Action}
use Rattle.cs_lang.specs.declared.tree.Action.TheOpen.{Block-F, Statement-F, Action-F}
use Rattle.cs_lang.specs.declared.tree.Action.TheFolds.{fold-Block, fold-Statement, fold-Action}
use Rattle.cs_eval.specs.Places.{places}

-- statements one after the other: those that are left wait in a place, also when there are none
abbrev pub one_by_one : List ℕ → ℕ
one_by_one [] = 1
one_by_one (p ∷ ps) = max (p + 1) (one_by_one ps)

-- a loop waits in a place, and a block that it never enters takes none
abbrev pub turns_places : ℕ → ℕ → ℕ
turns_places zero each = 1
turns_places (suc n) each = each + 1

-- a check makes no objects and calls no methods
abbrev pub action_places : Action-F ℕ ℕ ℕ → ℕ
action_places (Action-F.Let name value) = places value
action_places (Action-F.Set name value) = places value
action_places (Action-F.If e block) = max (places e) block
action_places (Action-F.IfElse e block other) = max (max (places e) block) other
action_places (Action-F.ForIn name list each) = max (places list) (each + 1)
action_places (Action-F.ForTo name count each) = turns_places count each
action_places (Action-F.Answer e) = places e
action_places action = 0

abbrev pub statement_places : Statement-F ℕ ℕ ℕ → ℕ
statement_places s = s.action

-- the end of its names waits below its statements
abbrev pub block_places : Block-F ℕ ℕ ℕ → ℕ
block_places b = one_by_one b.statements + 1

unfoldable pub places_of_block : Block → ℕ
places_of_block = fold-Block ℕ ℕ ℕ action_places block_places statement_places

unfoldable pub places_of_statement : Statement → ℕ
places_of_statement = fold-Statement ℕ ℕ ℕ action_places block_places statement_places

unfoldable pub places_of_action : Action → ℕ
places_of_action = fold-Action ℕ ℕ ℕ action_places block_places statement_places
