-- What statements of a procedure mean, one equation for each kind.
use Rattle.std.proofs.Common.{◌≡◌, ℕ, List, map, take, length, sym, ap, ◌∙◌}
use Rattle.cs_lang_token.specs.declared.token.Text.{Text}
use Rattle.cs_lang.specs.declared.tree.ContractTree.{ContractTree}
use Rattle.cs_lang.specs.declared.tree.Expr.{Expr}
use Rattle.cs_lang.specs.declared.tree.Block.{Block, out-Block}
use Rattle.cs_lang.specs.declared.tree.Statement.{Statement, out-Statement}
use Rattle.cs_lang.specs.declared.tree.Action.{Action}
use Rattle.cs_lang.specs.declared.tree.Action.TheVariants as action
use Rattle.cs_lang.specs.declared.tree.Action.TheVariants.{rolls-Let, rolls-Set, rolls-If, rolls-IfElse, rolls-ForIn, rolls-ForTo, rolls-Make, rolls-Call, rolls-Answer}
use Rattle.cs_lang.specs.declared.tree.Action.TheOpen.{Action-F}
use Rattle.cs_lang.specs.declared.tree.Action.TheFolds.{fold-roll-Action, fold_out-Block, fold_out-Statement}
use Rattle.cs_eval_values.specs.declared.stop.Cause.TheVariants as cause
use Rattle.cs_eval_values.specs.declared.view.View.{View}
use Rattle.cs_proc_parts.specs.declared.ending.Ending.TheVariants as ending
use Rattle.cs_proc_parts.specs.declared.progress.Doing.{Doing}
use Rattle.cs_proc_parts.specs.Courses.{goes, ends, spending, ◌>>=◌}
use Rattle.cs_proc.specs.Acting.{ProcedureStep, Calls, with_names, all_do, let_does, set_does, if_does, for_in_does, for_to_does, make_does, call_does, action_means, block_means, statement_means, action_does, block_does, statement_does}

module _ (contract : ContractTree) (view : View) (calls : Calls) where
  pub statement_is : (one : Statement) (s : Doing)
      → statement_does contract view calls one s ≡ spending 1 (action_does contract view calls (out-Statement one).action (out-Statement one).place s)
  unfolding statement_does action_does
  statement_is one s = ap (λ (f : ProcedureStep). f s) (fold_out-Statement (ℕ → ProcedureStep) ProcedureStep ProcedureStep (action_means contract view calls) (block_means contract view calls) (statement_means contract view calls) one)

  pub block_is : (b : Block) (s : Doing)
      → block_does contract view calls b s ≡ (all_do contract view calls (map (statement_does contract view calls) (out-Block b).statements) s >>= λ t. goes (with_names t (take (length s.names) t.names)))
  unfolding block_does statement_does
  block_is b s = ap (λ (f : ProcedureStep). f s) (fold_out-Block (ℕ → ProcedureStep) ProcedureStep ProcedureStep (action_means contract view calls) (block_means contract view calls) (statement_means contract view calls) b)

  let_is : (name : Text) (value : Expr) (place : ℕ) → action_does contract view calls (action.Let name value) place ≡ action_means contract view calls (Action-F.Let name value) place
  unfolding action_does block_does
  let_is name value place = ap (λ (a : Action). action_does contract view calls a place) (sym (rolls-Let name value)) ∙ ap (λ (f : ℕ → ProcedureStep). f place) (fold-roll-Action (ℕ → ProcedureStep) ProcedureStep ProcedureStep (action_means contract view calls) (block_means contract view calls) (statement_means contract view calls) (Action-F.Let name value))

  pub act_let : (a : Action) (name : Text) (value : Expr) (place : ℕ) (s : Doing) → a ≡ action.Let name value
      → action_does contract view calls a place s ≡ let_does contract view name value s
  act_let a name value place s is = ap (λ (b : Action). action_does contract view calls b place s) is ∙ ap (λ (f : ProcedureStep). f s) (let_is name value place)

  set_is : (name : Text) (value : Expr) (place : ℕ) → action_does contract view calls (action.Set name value) place ≡ action_means contract view calls (Action-F.Set name value) place
  unfolding action_does block_does
  set_is name value place = ap (λ (a : Action). action_does contract view calls a place) (sym (rolls-Set name value)) ∙ ap (λ (f : ℕ → ProcedureStep). f place) (fold-roll-Action (ℕ → ProcedureStep) ProcedureStep ProcedureStep (action_means contract view calls) (block_means contract view calls) (statement_means contract view calls) (Action-F.Set name value))

  pub act_set : (a : Action) (name : Text) (value : Expr) (place : ℕ) (s : Doing) → a ≡ action.Set name value
      → action_does contract view calls a place s ≡ set_does contract view name value s
  act_set a name value place s is = ap (λ (b : Action). action_does contract view calls b place s) is ∙ ap (λ (f : ProcedureStep). f s) (set_is name value place)

  if_is : (e : Expr) (block : Block) (place : ℕ) → action_does contract view calls (action.If e block) place ≡ action_means contract view calls (Action-F.If e (block_does contract view calls block)) place
  unfolding action_does block_does
  if_is e block place = ap (λ (a : Action). action_does contract view calls a place) (sym (rolls-If e block)) ∙ ap (λ (f : ℕ → ProcedureStep). f place) (fold-roll-Action (ℕ → ProcedureStep) ProcedureStep ProcedureStep (action_means contract view calls) (block_means contract view calls) (statement_means contract view calls) (Action-F.If e block))

  pub act_if : (a : Action) (e : Expr) (block : Block) (place : ℕ) (s : Doing) → a ≡ action.If e block
      → action_does contract view calls a place s ≡ if_does contract view e (block_does contract view calls block) goes place s
  act_if a e block place s is = ap (λ (b : Action). action_does contract view calls b place s) is ∙ ap (λ (f : ProcedureStep). f s) (if_is e block place)

  if_else_is : (e : Expr) (block : Block) (other : Block) (place : ℕ) → action_does contract view calls (action.IfElse e block other) place ≡ action_means contract view calls (Action-F.IfElse e (block_does contract view calls block) (block_does contract view calls other)) place
  unfolding action_does block_does
  if_else_is e block other place = ap (λ (a : Action). action_does contract view calls a place) (sym (rolls-IfElse e block other)) ∙ ap (λ (f : ℕ → ProcedureStep). f place) (fold-roll-Action (ℕ → ProcedureStep) ProcedureStep ProcedureStep (action_means contract view calls) (block_means contract view calls) (statement_means contract view calls) (Action-F.IfElse e block other))

  pub act_if_else : (a : Action) (e : Expr) (block : Block) (other : Block) (place : ℕ) (s : Doing) → a ≡ action.IfElse e block other
      → action_does contract view calls a place s ≡ if_does contract view e (block_does contract view calls block) (block_does contract view calls other) place s
  act_if_else a e block other place s is = ap (λ (b : Action). action_does contract view calls b place s) is ∙ ap (λ (f : ProcedureStep). f s) (if_else_is e block other place)

  for_in_is : (name : Text) (list : Expr) (each : Block) (place : ℕ) → action_does contract view calls (action.ForIn name list each) place ≡ action_means contract view calls (Action-F.ForIn name list (block_does contract view calls each)) place
  unfolding action_does block_does
  for_in_is name list each place = ap (λ (a : Action). action_does contract view calls a place) (sym (rolls-ForIn name list each)) ∙ ap (λ (f : ℕ → ProcedureStep). f place) (fold-roll-Action (ℕ → ProcedureStep) ProcedureStep ProcedureStep (action_means contract view calls) (block_means contract view calls) (statement_means contract view calls) (Action-F.ForIn name list each))

  pub act_for_in : (a : Action) (name : Text) (list : Expr) (each : Block) (place : ℕ) (s : Doing) → a ≡ action.ForIn name list each
      → action_does contract view calls a place s ≡ for_in_does contract view name list (block_does contract view calls each) s
  act_for_in a name list each place s is = ap (λ (b : Action). action_does contract view calls b place s) is ∙ ap (λ (f : ProcedureStep). f s) (for_in_is name list each place)

  for_to_is : (name : Text) (count : ℕ) (each : Block) (place : ℕ) → action_does contract view calls (action.ForTo name count each) place ≡ action_means contract view calls (Action-F.ForTo name count (block_does contract view calls each)) place
  unfolding action_does block_does
  for_to_is name count each place = ap (λ (a : Action). action_does contract view calls a place) (sym (rolls-ForTo name count each)) ∙ ap (λ (f : ℕ → ProcedureStep). f place) (fold-roll-Action (ℕ → ProcedureStep) ProcedureStep ProcedureStep (action_means contract view calls) (block_means contract view calls) (statement_means contract view calls) (Action-F.ForTo name count each))

  pub act_for_to : (a : Action) (name : Text) (count : ℕ) (each : Block) (place : ℕ) (s : Doing) → a ≡ action.ForTo name count each
      → action_does contract view calls a place s ≡ for_to_does contract view name count (block_does contract view calls each) s
  act_for_to a name count each place s is = ap (λ (b : Action). action_does contract view calls b place s) is ∙ ap (λ (f : ProcedureStep). f s) (for_to_is name count each place)

  make_is : (slot : Text) (object : Text) (values : List Expr) (place : ℕ) → action_does contract view calls (action.Make slot object values) place ≡ action_means contract view calls (Action-F.Make slot object values) place
  unfolding action_does block_does
  make_is slot object values place = ap (λ (a : Action). action_does contract view calls a place) (sym (rolls-Make slot object values)) ∙ ap (λ (f : ℕ → ProcedureStep). f place) (fold-roll-Action (ℕ → ProcedureStep) ProcedureStep ProcedureStep (action_means contract view calls) (block_means contract view calls) (statement_means contract view calls) (Action-F.Make slot object values))

  pub act_make : (a : Action) (slot : Text) (object : Text) (values : List Expr) (place : ℕ) (s : Doing) → a ≡ action.Make slot object values
      → action_does contract view calls a place s ≡ make_does contract view slot object values place s
  act_make a slot object values place s is = ap (λ (b : Action). action_does contract view calls b place s) is ∙ ap (λ (f : ProcedureStep). f s) (make_is slot object values place)

  call_is : (bound : List Text) (method : Text) (arguments : List Expr) (place : ℕ) → action_does contract view calls (action.Call bound method arguments) place ≡ action_means contract view calls (Action-F.Call bound method arguments) place
  unfolding action_does block_does
  call_is bound method arguments place = ap (λ (a : Action). action_does contract view calls a place) (sym (rolls-Call bound method arguments)) ∙ ap (λ (f : ℕ → ProcedureStep). f place) (fold-roll-Action (ℕ → ProcedureStep) ProcedureStep ProcedureStep (action_means contract view calls) (block_means contract view calls) (statement_means contract view calls) (Action-F.Call bound method arguments))

  pub act_call : (a : Action) (bound : List Text) (method : Text) (arguments : List Expr) (place : ℕ) (s : Doing) → a ≡ action.Call bound method arguments
      → action_does contract view calls a place s ≡ call_does contract view calls bound method arguments place s
  act_call a bound method arguments place s is = ap (λ (b : Action). action_does contract view calls b place s) is ∙ ap (λ (f : ProcedureStep). f s) (call_is bound method arguments place)

  answer_is : (e : Expr) (place : ℕ) → action_does contract view calls (action.Answer e) place ≡ action_means contract view calls (Action-F.Answer e) place
  unfolding action_does block_does
  answer_is e place = ap (λ (a : Action). action_does contract view calls a place) (sym (rolls-Answer e)) ∙ ap (λ (f : ℕ → ProcedureStep). f place) (fold-roll-Action (ℕ → ProcedureStep) ProcedureStep ProcedureStep (action_means contract view calls) (block_means contract view calls) (statement_means contract view calls) (Action-F.Answer e))

  pub act_answer : (a : Action) (e : Expr) (place : ℕ) (s : Doing) → a ≡ action.Answer e
      → action_does contract view calls a place s ≡ ends (ending.Trap cause.Misfit place)
  act_answer a e place s is = ap (λ (b : Action). action_does contract view calls b place s) is ∙ ap (λ (f : ProcedureStep). f s) (answer_is e place)

pub ruleset actions = (act_let, act_set, act_if, act_if_else, act_for_in, act_for_to, act_make, act_call, act_answer)
