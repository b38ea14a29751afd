-- The texts of statements, one equation for each kind.
use Rattle.std.proofs.Common.{◌≡◌, ℕ, List, ◌++◌, map, sym, ap, ◌∙◌}
use Rattle.std.specs.Prelude.{codes}
use Rattle.std.specs.Fmt.{decimal}
use Rattle.cs_lang_token.specs.declared.token.Text.{Text}
use Rattle.cs_lang.specs.declared.tree.Expr.{Expr}
use Rattle.cs_lang.specs.declared.tree.Block.{Block, out-Block}
use Rattle.cs_lang.specs.declared.tree.Statement.{Statement, out-Statement}
use Rattle.cs_lang.specs.declared.tree.Action.TheVariants as action
use Rattle.cs_lang.specs.declared.tree.Action.TheVariants.{rolls-Let, rolls-Set, rolls-If, rolls-IfElse, rolls-ForIn, rolls-ForTo, rolls-Make, rolls-Call, rolls-Answer}
use Rattle.cs_lang.specs.declared.tree.Action.TheOpen.{Action-F}
use Rattle.cs_lang.specs.declared.tree.Action.TheFolds.{fold-roll-Action, fold_out-Block, fold_out-Statement}
use Rattle.cs_lang_print.specs.Words.{word, ending, each_text}
use Rattle.cs_lang_print.specs.Expressions.{expr_text}
use Rattle.cs_lang_print.specs.Statements.{name_text, arguments_text, bound_text, assigned, block_until, block_text, layer_action, layer_statement, layer_block, statements_text, statement_text, action_text}
use Rattle.cs_lang_print.proofs.RunTexts.{each-map}

pub statement_is : (s : Statement) → statement_text s ≡ action_text (out-Statement s).action
unfolding statement_text action_text
statement_is s = fold_out-Statement (List ℕ) (List ℕ) (List ℕ) layer_action layer_block layer_statement s

block_is : (b : Block) → statements_text b ≡ each_text (λ (t : List ℕ). t) (map statement_text (out-Block b).statements)
unfolding statements_text statement_text
block_is b = fold_out-Block (List ℕ) (List ℕ) (List ℕ) layer_action layer_block layer_statement b

pub statements_are : (b : Block) → statements_text b ≡ each_text statement_text (out-Block b).statements
statements_are b = block_is b ∙ each-map (λ (t : List ℕ). t) statement_text (out-Block b).statements

pub action_let : (name : Text) (value : Expr) → action_text (action.Let name value) ≡ assigned (codes "let") name value
unfolding action_text statements_text
action_let name value = ap action_text (sym (rolls-Let name value)) ∙ fold-roll-Action (List ℕ) (List ℕ) (List ℕ) layer_action layer_block layer_statement (Action-F.Let name value)

pub text_let : (s : Statement) (name : Text) (value : Expr) → (out-Statement s).action ≡ action.Let name value → statement_text s ≡ assigned (codes "let") name value
text_let s name value is = statement_is s ∙ ap action_text is ∙ action_let name value

pub action_set : (name : Text) (value : Expr) → action_text (action.Set name value) ≡ assigned (codes "set") name value
unfolding action_text statements_text
action_set name value = ap action_text (sym (rolls-Set name value)) ∙ fold-roll-Action (List ℕ) (List ℕ) (List ℕ) layer_action layer_block layer_statement (Action-F.Set name value)

pub text_set : (s : Statement) (name : Text) (value : Expr) → (out-Statement s).action ≡ action.Set name value → statement_text s ≡ assigned (codes "set") name value
text_set s name value is = statement_is s ∙ ap action_text is ∙ action_set name value

pub action_if : (condition : Expr) (block : Block) → action_text (action.If condition block) ≡ word (codes "if") ++ (expr_text condition ++ block_text (statements_text block))
unfolding action_text statements_text
action_if condition block = ap action_text (sym (rolls-If condition block)) ∙ fold-roll-Action (List ℕ) (List ℕ) (List ℕ) layer_action layer_block layer_statement (Action-F.If condition block)

pub text_if : (s : Statement) (condition : Expr) (block : Block) → (out-Statement s).action ≡ action.If condition block → statement_text s ≡ word (codes "if") ++ (expr_text condition ++ block_text (statements_text block))
text_if s condition block is = statement_is s ∙ ap action_text is ∙ action_if condition block

pub action_ifelse : (condition : Expr) (block other : Block) → action_text (action.IfElse condition block other) ≡ word (codes "if") ++ (expr_text condition ++ (block_until (word (codes "}")) (statements_text block) ++ (word (codes "else") ++ block_text (statements_text other))))
unfolding action_text statements_text
action_ifelse condition block other = ap action_text (sym (rolls-IfElse condition block other)) ∙ fold-roll-Action (List ℕ) (List ℕ) (List ℕ) layer_action layer_block layer_statement (Action-F.IfElse condition block other)

pub text_ifelse : (s : Statement) (condition : Expr) (block other : Block) → (out-Statement s).action ≡ action.IfElse condition block other → statement_text s ≡ word (codes "if") ++ (expr_text condition ++ (block_until (word (codes "}")) (statements_text block) ++ (word (codes "else") ++ block_text (statements_text other))))
text_ifelse s condition block other is = statement_is s ∙ ap action_text is ∙ action_ifelse condition block other

pub action_forin : (name : Text) (list : Expr) (block : Block) → action_text (action.ForIn name list block) ≡ word (codes "for") ++ (name_text name ++ ((word (codes "in") ++ expr_text list) ++ block_text (statements_text block)))
unfolding action_text statements_text
action_forin name list block = ap action_text (sym (rolls-ForIn name list block)) ∙ fold-roll-Action (List ℕ) (List ℕ) (List ℕ) layer_action layer_block layer_statement (Action-F.ForIn name list block)

pub text_forin : (s : Statement) (name : Text) (list : Expr) (block : Block) → (out-Statement s).action ≡ action.ForIn name list block → statement_text s ≡ word (codes "for") ++ (name_text name ++ ((word (codes "in") ++ expr_text list) ++ block_text (statements_text block)))
text_forin s name list block is = statement_is s ∙ ap action_text is ∙ action_forin name list block

pub action_forto : (name : Text) (count : ℕ) (block : Block) → action_text (action.ForTo name count block) ≡ word (codes "for") ++ (name_text name ++ ((word (codes "to") ++ word (decimal count)) ++ block_text (statements_text block)))
unfolding action_text statements_text
action_forto name count block = ap action_text (sym (rolls-ForTo name count block)) ∙ fold-roll-Action (List ℕ) (List ℕ) (List ℕ) layer_action layer_block layer_statement (Action-F.ForTo name count block)

pub text_forto : (s : Statement) (name : Text) (count : ℕ) (block : Block) → (out-Statement s).action ≡ action.ForTo name count block → statement_text s ≡ word (codes "for") ++ (name_text name ++ ((word (codes "to") ++ word (decimal count)) ++ block_text (statements_text block)))
text_forto s name count block is = statement_is s ∙ ap action_text is ∙ action_forto name count block

pub action_make : (slot object : Text) (values : List Expr) → action_text (action.Make slot object values) ≡ word (codes "make") ++ (name_text slot ++ (word (codes "=") ++ (name_text object ++ (arguments_text values ++ ending (codes ";")))))
unfolding action_text statements_text
action_make slot object values = ap action_text (sym (rolls-Make slot object values)) ∙ fold-roll-Action (List ℕ) (List ℕ) (List ℕ) layer_action layer_block layer_statement (Action-F.Make slot object values)

pub text_make : (s : Statement) (slot object : Text) (values : List Expr) → (out-Statement s).action ≡ action.Make slot object values → statement_text s ≡ word (codes "make") ++ (name_text slot ++ (word (codes "=") ++ (name_text object ++ (arguments_text values ++ ending (codes ";")))))
text_make s slot object values is = statement_is s ∙ ap action_text is ∙ action_make slot object values

pub action_call : (names : List Text) (method : Text) (arguments : List Expr) → action_text (action.Call names method arguments) ≡ word (codes "call") ++ (bound_text names ++ (name_text method ++ (arguments_text arguments ++ ending (codes ";"))))
unfolding action_text statements_text
action_call names method arguments = ap action_text (sym (rolls-Call names method arguments)) ∙ fold-roll-Action (List ℕ) (List ℕ) (List ℕ) layer_action layer_block layer_statement (Action-F.Call names method arguments)

pub text_call : (s : Statement) (names : List Text) (method : Text) (arguments : List Expr) → (out-Statement s).action ≡ action.Call names method arguments → statement_text s ≡ word (codes "call") ++ (bound_text names ++ (name_text method ++ (arguments_text arguments ++ ending (codes ";"))))
text_call s names method arguments is = statement_is s ∙ ap action_text is ∙ action_call names method arguments

pub action_answer : (value : Expr) → action_text (action.Answer value) ≡ word (codes "answer") ++ (expr_text value ++ ending (codes ";"))
unfolding action_text statements_text
action_answer value = ap action_text (sym (rolls-Answer value)) ∙ fold-roll-Action (List ℕ) (List ℕ) (List ℕ) layer_action layer_block layer_statement (Action-F.Answer value)

pub text_answer : (s : Statement) (value : Expr) → (out-Statement s).action ≡ action.Answer value → statement_text s ≡ word (codes "answer") ++ (expr_text value ++ ending (codes ";"))
text_answer s value is = statement_is s ∙ ap action_text is ∙ action_answer value

pub ruleset blocks = (statements_are)

pub ruleset actions = (text_let, text_set, text_if, text_ifelse, text_forin, text_forto, text_make, text_call, text_answer)
