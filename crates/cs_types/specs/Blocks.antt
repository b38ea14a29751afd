-- What is told of whole statements and blocks.
use Rattle.std.specs.Prelude.{ℕ, List, map}
use Rattle.cs_lang.specs.declared.tree.Expr.{Expr}
use Rattle.cs_lang.specs.declared.tree.Block.{Block}
use Rattle.cs_lang.specs.declared.tree.Statement.{Statement}
use Rattle.cs_lang.specs.declared.tree.Action.{Action}
use Rattle.cs_lang.specs.declared.tree.Action.TheOpen.{Block-F, Statement-F, Action-F}
use Rattle.cs_lang.specs.declared.tree.Action.TheFolds.{fold-Block, fold-Statement, fold-Action}
use Rattle.cs_types_kinds.specs.Told.{Told}
use Rattle.cs_types_kinds.specs.Scopes.{InSight}
use Rattle.cs_types_kinds.specs.Judging.{JudgedPart}
use Rattle.cs_types_kinds.specs.Parts.{part_of}
use Rattle.cs_types.specs.Stating.{Added, Blocked, Stated, block_judged, let_judged, set_judged, if_judged, if_else_judged, for_in_judged, for_to_judged, make_judged, call_judged, answer_judged, stated}

-- what is told of an expression, wherever it stands
abbrev pub part : Expr → InSight → JudgedPart
part e sight = part_of sight e

abbrev pub parts : List Expr → InSight → List JudgedPart
parts es sight = map (part_of sight) es

-- what is told of a statement with its word there
abbrev pub Acted : Type 0
Acted = ℕ → Stated

abbrev pub action_from_parts : Action-F Acted Blocked Stated → Acted
action_from_parts (Action-F.Let name value) place = let_judged name (part value)
action_from_parts (Action-F.Set name value) place = set_judged name (part value)
action_from_parts (Action-F.If condition block) place = if_judged (part condition) block
action_from_parts (Action-F.IfElse condition block other) place = if_else_judged (part condition) block other
action_from_parts (Action-F.ForIn name list each) place = for_in_judged name (part list) each
action_from_parts (Action-F.ForTo name count each) place = for_to_judged name count each place
action_from_parts (Action-F.Make slot object values) place = make_judged slot object (parts values) place
action_from_parts (Action-F.Call names method arguments) place = call_judged names method (parts arguments) place
action_from_parts (Action-F.Answer value) place = answer_judged (part value) place

abbrev pub statement_from_parts : Statement-F Acted Blocked Stated → Stated
statement_from_parts s sight = stated (s.action s.place sight)

abbrev pub block_from_parts : Block-F Acted Blocked Stated → Blocked
block_from_parts b = block_judged b.statements

-- what is told of a block, where it stands
unfoldable pub block_told : Block → InSight → Told ℕ
block_told = fold-Block Acted Blocked Stated action_from_parts block_from_parts statement_from_parts

unfoldable pub statement_told : Statement → InSight → Told Added
statement_told = fold-Statement Acted Blocked Stated action_from_parts block_from_parts statement_from_parts

unfoldable pub action_told : Action → ℕ → InSight → Told Added
action_told = fold-Action Acted Blocked Stated action_from_parts block_from_parts statement_from_parts
