-- How much is left to do of statements, one equation for each kind.
use Rattle.std.proofs.Common.{◌≡◌, ℕ, ◌+◌, min, List, map, sym, ap, ◌∙◌}
use Rattle.cs_lang_token.specs.declared.limits.TheConstants.{MOST_ITEMS, MOST_TURNS}
use Rattle.cs_lang_token.specs.declared.token.Text.{Text}
use Rattle.cs_lang.specs.declared.tree.Expr.{Expr}
use Rattle.cs_lang.specs.declared.tree.Block.{Block, out-Block}
use Rattle.cs_lang.specs.declared.tree.Statement.{Statement, out-Statement}
use Rattle.cs_lang.specs.declared.tree.Action.{Action, roll-Action, map-Action}
use Rattle.cs_lang.specs.declared.tree.Action.TheVariants as action
use Rattle.cs_lang.specs.declared.tree.Action.TheVariants.{rolls-Let, rolls-Set, rolls-If, rolls-IfElse, rolls-ForIn, rolls-ForTo, rolls-Make, rolls-Call, rolls-Answer}
use Rattle.cs_lang.specs.declared.tree.Action.TheOpen.{Action-F}
use Rattle.cs_lang.specs.declared.tree.Action.TheFolds.{fold-roll-Action, fold_out-Block, fold_out-Statement}
use Rattle.cs_eval.specs.Work.{all_work}
use Rattle.cs_eval_check.specs.TaskWork.{turns_work, action_work, block_work, statement_work, work_of_action, work_of_block, work_of_statement}

pub statement_left : (s : Statement) → work_of_statement s ≡ work_of_action (out-Statement s).action
unfolding work_of_statement work_of_action
statement_left s = fold_out-Statement ℕ ℕ ℕ action_work block_work statement_work s

pub block_left : (b : Block) → work_of_block b ≡ all_work (map work_of_statement (out-Block b).statements) + 1
unfolding work_of_block work_of_statement
block_left b = fold_out-Block ℕ ℕ ℕ action_work block_work statement_work b

work_is : (x : Action-F Action Block Statement) (a : Action) → a ≡ roll-Action x
    → work_of_action a ≡ action_work (map-Action Action Block Statement ℕ ℕ ℕ work_of_action work_of_block work_of_statement x)
unfolding work_of_action work_of_block work_of_statement
work_is x a is = ap work_of_action is ∙ fold-roll-Action ℕ ℕ ℕ action_work block_work statement_work x

pub work_let : (a : Action) (name : Text) (value : Expr) → a ≡ action.Let name value → work_of_action a ≡ 1
work_let a name value is = work_is (Action-F.Let name value) a (is ∙ sym (rolls-Let name value))

pub work_set : (a : Action) (name : Text) (value : Expr) → a ≡ action.Set name value → work_of_action a ≡ 1
work_set a name value is = work_is (Action-F.Set name value) a (is ∙ sym (rolls-Set name value))

pub work_if : (a : Action) (e : Expr) (block : Block) → a ≡ action.If e block → work_of_action a ≡ work_of_block block + 1
work_if a e block is = work_is (Action-F.If e block) a (is ∙ sym (rolls-If e block))

pub work_if_else : (a : Action) (e : Expr) (block : Block) (other : Block) → a ≡ action.IfElse e block other → work_of_action a ≡ work_of_block block + work_of_block other + 1
work_if_else a e block other is = work_is (Action-F.IfElse e block other) a (is ∙ sym (rolls-IfElse e block other))

pub work_for_in : (a : Action) (name : Text) (list : Expr) (each : Block) → a ≡ action.ForIn name list each → work_of_action a ≡ turns_work MOST_ITEMS (work_of_block each) + 1
work_for_in a name list each is = work_is (Action-F.ForIn name list each) a (is ∙ sym (rolls-ForIn name list each))

pub work_for_to : (a : Action) (name : Text) (count : ℕ) (each : Block) → a ≡ action.ForTo name count each → work_of_action a ≡ turns_work (min count MOST_TURNS) (work_of_block each) + 1
work_for_to a name count each is = work_is (Action-F.ForTo name count each) a (is ∙ sym (rolls-ForTo name count each))

pub work_make : (a : Action) (slot : Text) (object : Text) (values : List Expr) → a ≡ action.Make slot object values → work_of_action a ≡ 1
work_make a slot object values is = work_is (Action-F.Make slot object values) a (is ∙ sym (rolls-Make slot object values))

pub work_call : (a : Action) (bound : List Text) (method : Text) (arguments : List Expr) → a ≡ action.Call bound method arguments → work_of_action a ≡ 1
work_call a bound method arguments is = work_is (Action-F.Call bound method arguments) a (is ∙ sym (rolls-Call bound method arguments))

pub work_answer : (a : Action) (e : Expr) → a ≡ action.Answer e → work_of_action a ≡ 1
work_answer a e is = work_is (Action-F.Answer e) a (is ∙ sym (rolls-Answer e))

pub ruleset works = (work_let, work_set, work_if, work_if_else, work_for_in, work_for_to, work_make, work_call, work_answer)
