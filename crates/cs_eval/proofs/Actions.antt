-- Places of statements, one equation for each kind.
use Rattle.std.proofs.Common.{◌≡◌, ℕ, ◌+◌, ◌≤◌, max, List, [], ◌∷◌, map, refl, sym, ap, ◌∙◌, arith}
use Rattle.cs_lang_token.specs.declared.token.Text.{Text}
use Rattle.cs_lang.specs.declared.tree.Expr.{Expr}
use Rattle.cs_lang.specs.declared.tree.Block.{Block, out-Block}
use Rattle.cs_lang.specs.declared.tree.Statement.{Statement, out-Statement}
use Rattle.cs_lang.specs.declared.tree.Action.{Action, roll-Action, map-Action}
use Rattle.cs_lang.specs.declared.tree.Action.TheVariants as action
use Rattle.cs_lang.specs.declared.tree.Action.TheVariants.{rolls-Let, rolls-Set, rolls-If, rolls-IfElse, rolls-ForIn, rolls-ForTo, rolls-Make, rolls-Call, rolls-Answer}
use Rattle.cs_lang.specs.declared.tree.Action.TheOpen.{Action-F}
use Rattle.cs_lang.specs.declared.tree.Action.TheFolds.{fold-roll-Action, fold_out-Block, fold_out-Statement}
use Rattle.cs_eval.specs.Places.{places}
use Rattle.cs_eval.specs.Blocks.{one_by_one, turns_places, action_places, block_places, statement_places, places_of_action, places_of_block, places_of_statement}

pub statement_is : (s : Statement) → places_of_statement s ≡ places_of_action (out-Statement s).action
unfolding places_of_statement places_of_action
statement_is s = fold_out-Statement ℕ ℕ ℕ action_places block_places statement_places s

some_at_least : (ps : List ℕ) → 1 ≤ one_by_one ps
some_at_least [] = omega arith
some_at_least (p ∷ ps) = omega (arith, some_at_least ps)

-- a place is taken where there are no statements too
pub one_at_least : (ps : List ℕ) → max 1 (one_by_one ps) ≡ one_by_one ps
one_at_least ps = omega (arith, some_at_least ps)

pub block_is : (b : Block) → places_of_block b ≡ one_by_one (map places_of_statement (out-Block b).statements) + 1
unfolding places_of_block places_of_statement
block_is b = fold_out-Block ℕ ℕ ℕ action_places block_places statement_places b

action_at : (x : Action-F Action Block Statement) (a : Action) → a ≡ roll-Action x
    → places_of_action a ≡ action_places (map-Action Action Block Statement ℕ ℕ ℕ places_of_action places_of_block places_of_statement x)
unfolding places_of_action places_of_block places_of_statement
action_at x a is = ap places_of_action is ∙ fold-roll-Action ℕ ℕ ℕ action_places block_places statement_places x

pub places_let : (a : Action) (name : Text) (value : Expr) → a ≡ action.Let name value → places_of_action a ≡ places value
places_let a name value is = action_at (Action-F.Let name value) a (is ∙ sym (rolls-Let name value))

pub places_set : (a : Action) (name : Text) (value : Expr) → a ≡ action.Set name value → places_of_action a ≡ places value
places_set a name value is = action_at (Action-F.Set name value) a (is ∙ sym (rolls-Set name value))

pub places_if : (a : Action) (e : Expr) (block : Block) → a ≡ action.If e block → places_of_action a ≡ max (places e) (places_of_block block)
places_if a e block is = action_at (Action-F.If e block) a (is ∙ sym (rolls-If e block))

pub places_if_else : (a : Action) (e : Expr) (block : Block) (other : Block) → a ≡ action.IfElse e block other → places_of_action a ≡ max (max (places e) (places_of_block block)) (places_of_block other)
places_if_else a e block other is = action_at (Action-F.IfElse e block other) a (is ∙ sym (rolls-IfElse e block other))

pub places_for_in : (a : Action) (name : Text) (list : Expr) (each : Block) → a ≡ action.ForIn name list each → places_of_action a ≡ max (places list) (places_of_block each + 1)
places_for_in a name list each is = action_at (Action-F.ForIn name list each) a (is ∙ sym (rolls-ForIn name list each))

pub places_for_to : (a : Action) (name : Text) (count : ℕ) (each : Block) → a ≡ action.ForTo name count each → places_of_action a ≡ turns_places count (places_of_block each)
places_for_to a name count each is = action_at (Action-F.ForTo name count each) a (is ∙ sym (rolls-ForTo name count each))

pub places_make : (a : Action) (slot : Text) (object : Text) (values : List Expr) → a ≡ action.Make slot object values → places_of_action a ≡ 0
places_make a slot object values is = action_at (Action-F.Make slot object values) a (is ∙ sym (rolls-Make slot object values))

pub places_call : (a : Action) (bound : List Text) (method : Text) (arguments : List Expr) → a ≡ action.Call bound method arguments → places_of_action a ≡ 0
places_call a bound method arguments is = action_at (Action-F.Call bound method arguments) a (is ∙ sym (rolls-Call bound method arguments))

pub places_answer : (a : Action) (e : Expr) → a ≡ action.Answer e → places_of_action a ≡ places e
places_answer a e is = action_at (Action-F.Answer e) a (is ∙ sym (rolls-Answer e))

pub ruleset actions = (places_let, places_set, places_if, places_if_else, places_for_in, places_for_to, places_make, places_call, places_answer)
