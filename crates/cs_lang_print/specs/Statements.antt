-- Printed statements: one on a line.
use Rattle.std.specs.Prelude.{ℕ, List, [], ◌∷◌, ◌++◌, codes}
use Rattle.std.specs.Fmt.{decimal}
use Rattle.cs_lang_token.specs.declared.token.Text.{Text}
use Rattle.cs_lang.specs.declared.tree.Expr.{Expr}
use Rattle.cs_lang.specs.declared.tree.Block.{Block}
use Rattle.cs_lang.specs.declared.tree.Statement.{Statement}
use Rattle.cs_lang.specs.declared.tree.Action.{Action}
use Rattle.cs_lang.specs.declared.tree.Action.TheOpen.{Block-F, Statement-F, Action-F}
use Rattle.cs_lang.specs.declared.tree.Action.TheFolds.{fold-Block, fold-Statement, fold-Action}
use Rattle.cs_lang_print.specs.Words.{word, ending, each_text, with_commas}
use Rattle.cs_lang_print.specs.Expressions.{expr_text}

abbrev pub name_text : Text → List ℕ
name_text name = word name.bytes

abbrev pub arguments_text : List Expr → List ℕ
arguments_text es = word (codes "(") ++ (with_commas expr_text es ++ word (codes ")"))

-- a block, from its statements; its brace ends a line, except before `else`
abbrev pub block_until : List ℕ → List ℕ → List ℕ
block_until closing statements = ending (codes "{") ++ (statements ++ closing)

abbrev pub block_text : List ℕ → List ℕ
block_text = block_until (ending (codes "}"))

-- the names that a call binds
abbrev pub bound_text : List Text → List ℕ
bound_text [] = []
bound_text (n ∷ ns) = with_commas name_text (n ∷ ns) ++ word (codes "=")

abbrev pub assigned : List ℕ → Text → Expr → List ℕ
assigned first name value =
    word first ++ (name_text name ++ (word (codes "=") ++ (expr_text value ++ ending (codes ";"))))

abbrev pub make_text : Text → Text → List Expr → List ℕ
make_text slot object values =
    word (codes "make") ++ (name_text slot ++ (word (codes "=")
    ++ (name_text object ++ (arguments_text values ++ ending (codes ";")))))

abbrev pub call_text : List Text → Text → List Expr → List ℕ
call_text names method arguments =
    word (codes "call") ++ (bound_text names
    ++ (name_text method ++ (arguments_text arguments ++ ending (codes ";"))))

abbrev pub answer_text : Expr → List ℕ
answer_text value = word (codes "answer") ++ (expr_text value ++ ending (codes ";"))

-- a block is given by its statements; a statement and an action by their text
abbrev pub layer_action : Action-F (List ℕ) (List ℕ) (List ℕ) → List ℕ
layer_action (Action-F.Let name value) = assigned (codes "let") name value
layer_action (Action-F.Set name value) = assigned (codes "set") name value
layer_action (Action-F.If condition block) = word (codes "if") ++ (expr_text condition ++ block_text block)
layer_action (Action-F.IfElse condition block other) =
    word (codes "if") ++ (expr_text condition ++ (block_until (word (codes "}")) block
    ++ (word (codes "else") ++ block_text other)))
layer_action (Action-F.ForIn name list block) =
    word (codes "for") ++ (name_text name ++ ((word (codes "in") ++ expr_text list) ++ block_text block))
layer_action (Action-F.ForTo name count block) =
    word (codes "for") ++ (name_text name ++ ((word (codes "to") ++ word (decimal count)) ++ block_text block))
layer_action (Action-F.Make slot object values) = make_text slot object values
layer_action (Action-F.Call names method arguments) = call_text names method arguments
layer_action (Action-F.Answer value) = answer_text value

abbrev pub layer_statement : Statement-F (List ℕ) (List ℕ) (List ℕ) → List ℕ
layer_statement s = s.action

abbrev pub layer_block : Block-F (List ℕ) (List ℕ) (List ℕ) → List ℕ
layer_block b = each_text (λ s. s) b.statements

-- the statements of a block
unfoldable pub statements_text : Block → List ℕ
statements_text = fold-Block (List ℕ) (List ℕ) (List ℕ) layer_action layer_block layer_statement

unfoldable pub statement_text : Statement → List ℕ
statement_text = fold-Statement (List ℕ) (List ℕ) (List ℕ) layer_action layer_block layer_statement

unfoldable pub action_text : Action → List ℕ
action_text = fold-Action (List ℕ) (List ℕ) (List ℕ) layer_action layer_block layer_statement
