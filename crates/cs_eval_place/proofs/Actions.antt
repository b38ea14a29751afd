-- What statements come to, one equation for each kind.
use Rattle.std.proofs.Common.{◌≡◌, ℕ, List, map, take, length, sym, ap, ◌∙◌}
use Rattle.cs_lang_token.specs.declared.token.Text.{Text}
use Rattle.cs_lang.specs.declared.tree.ContractTree.{ContractTree}
use Rattle.cs_lang.specs.declared.tree.Expr.{Expr}
use Rattle.cs_lang.specs.declared.tree.Block.{Block, out-Block}
use Rattle.cs_lang.specs.declared.tree.Statement.{Statement, out-Statement}
use Rattle.cs_lang.specs.declared.tree.Action.{Action, roll-Action, map-Action}
use Rattle.cs_lang.specs.declared.tree.Action.TheVariants as action
use Rattle.cs_lang.specs.declared.tree.Action.TheVariants.{rolls-Let, rolls-Set, rolls-If, rolls-IfElse, rolls-ForIn, rolls-ForTo, rolls-Make, rolls-Call, rolls-Answer}
use Rattle.cs_lang.specs.declared.tree.Action.TheOpen.{Action-F}
use Rattle.cs_lang.specs.declared.tree.Action.TheFolds.{fold-roll-Action, fold_out-Block, fold_out-Statement}
use Rattle.cs_eval_values.specs.declared.view.View.{View}
use Rattle.cs_eval_values.specs.Namings.{Named}
use Rattle.cs_eval_law.specs.Acting.{let_run, set_run}
use Rattle.cs_eval_place.specs.Located.{Onward, TrappedAt, located, ◌>>=◌}
use Rattle.cs_eval_place.specs.Locating.{Locating, if_located, for_in_located, for_to_located, answer_located, all_located, action_locates, block_locates, statement_locates, action_located, block_located, statement_located}

module _ (contract : ContractTree) (view : View) where
  pub statement_is : (s : Statement) (names : List Named)
      → statement_located contract view s names ≡ action_located contract view (out-Statement s).action (out-Statement s).place names
  unfolding statement_located action_located
  statement_is s names = ap (λ (f : Locating). f names) (fold_out-Statement (ℕ → Locating) Locating Locating (action_locates contract view) (block_locates contract view) (statement_locates contract view) s)

  pub block_is : (b : Block) (names : List Named)
      → block_located contract view b names ≡ (all_located contract view (map (statement_located contract view) (out-Block b).statements) names >>= λ after. Onward (take (length names) after))
  unfolding block_located statement_located
  block_is b names = ap (λ (f : Locating). f names) (fold_out-Block (ℕ → Locating) Locating Locating (action_locates contract view) (block_locates contract view) (statement_locates contract view) b)

  -- what an action comes to, from what its parts come to
  action_is : (x : Action-F Action Block Statement) (a : Action) (place : ℕ) (names : List Named) → a ≡ roll-Action x
      → action_located contract view a place names ≡ action_locates contract view (map-Action Action Block Statement (ℕ → Locating) Locating Locating (action_located contract view) (block_located contract view) (statement_located contract view) x) place names
  unfolding action_located block_located statement_located
  action_is x a place names is =
      ap (λ (b : Action). action_located contract view b place names) is
      ∙ ap (λ (f : ℕ → Locating). f place names) (fold-roll-Action (ℕ → Locating) Locating Locating (action_locates contract view) (block_locates contract view) (statement_locates contract view) x)

  pub act_let : (a : Action) (name : Text) (value : Expr) (place : ℕ) (names : List Named) → a ≡ action.Let name value
      → action_located contract view a place names ≡ located (let_run contract view name value names)
  act_let a name value place names is = action_is (Action-F.Let name value) a place names (is ∙ sym (rolls-Let name value))

  pub act_set : (a : Action) (name : Text) (value : Expr) (place : ℕ) (names : List Named) → a ≡ action.Set name value
      → action_located contract view a place names ≡ located (set_run contract view name value names)
  act_set a name value place names is = action_is (Action-F.Set name value) a place names (is ∙ sym (rolls-Set name value))

  pub act_if : (a : Action) (e : Expr) (block : Block) (place : ℕ) (names : List Named) → a ≡ action.If e block
      → action_located contract view a place names ≡ if_located contract view e (block_located contract view block) Onward place names
  act_if a e block place names is = action_is (Action-F.If e block) a place names (is ∙ sym (rolls-If e block))

  pub act_if_else : (a : Action) (e : Expr) (block : Block) (other : Block) (place : ℕ) (names : List Named) → a ≡ action.IfElse e block other
      → action_located contract view a place names ≡ if_located contract view e (block_located contract view block) (block_located contract view other) place names
  act_if_else a e block other place names is = action_is (Action-F.IfElse e block other) a place names (is ∙ sym (rolls-IfElse e block other))

  pub act_for_in : (a : Action) (name : Text) (list : Expr) (each : Block) (place : ℕ) (names : List Named) → a ≡ action.ForIn name list each
      → action_located contract view a place names ≡ for_in_located contract view name list (block_located contract view each) names
  act_for_in a name list each place names is = action_is (Action-F.ForIn name list each) a place names (is ∙ sym (rolls-ForIn name list each))

  pub act_for_to : (a : Action) (name : Text) (count : ℕ) (each : Block) (place : ℕ) (names : List Named) → a ≡ action.ForTo name count each
      → action_located contract view a place names ≡ for_to_located contract view name count (block_located contract view each) names
  act_for_to a name count each place names is = action_is (Action-F.ForTo name count each) a place names (is ∙ sym (rolls-ForTo name count each))

  pub act_make : (a : Action) (slot : Text) (object : Text) (values : List Expr) (place : ℕ) (names : List Named) → a ≡ action.Make slot object values
      → action_located contract view a place names ≡ TrappedAt place
  act_make a slot object values place names is = action_is (Action-F.Make slot object values) a place names (is ∙ sym (rolls-Make slot object values))

  pub act_call : (a : Action) (bound : List Text) (method : Text) (arguments : List Expr) (place : ℕ) (names : List Named) → a ≡ action.Call bound method arguments
      → action_located contract view a place names ≡ TrappedAt place
  act_call a bound method arguments place names is = action_is (Action-F.Call bound method arguments) a place names (is ∙ sym (rolls-Call bound method arguments))

  pub act_answer : (a : Action) (e : Expr) (place : ℕ) (names : List Named) → a ≡ action.Answer e
      → action_located contract view a place names ≡ answer_located contract view e place names
  act_answer a e place names is = action_is (Action-F.Answer e) a place names (is ∙ sym (rolls-Answer e))

pub ruleset actions = (act_let, act_set, act_if, act_if_else, act_for_in, act_for_to, act_make, act_call, act_answer)
