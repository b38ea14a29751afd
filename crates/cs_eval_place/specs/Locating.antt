-- What checks come to, and where: as they run, with the place of the answer.
use Rattle.std.specs.Prelude.{◌≡◌, ℕ, Bool, true, false, min, List, [], take, length, Option, Some, None, Result, Ok, Err, if◌then◌else◌, option_and_then}
use Rattle.cs_lang_token.specs.declared.limits.TheConstants.{MOST_ITEMS, MOST_TURNS}
use Rattle.cs_lang_token.specs.declared.token.Text.{Text}
use Rattle.cs_lang.specs.declared.tree.ContractTree.{ContractTree}
use Rattle.cs_lang.specs.declared.tree.Expr.{Expr}
use Rattle.cs_lang.specs.declared.tree.Block.{Block}
use Rattle.cs_lang.specs.declared.tree.Statement.{Statement}
use Rattle.cs_lang.specs.declared.tree.Method.{Method}
use Rattle.cs_lang.specs.declared.tree.Action.{Action}
use Rattle.cs_lang.specs.declared.tree.Action.TheOpen.{Block-F, Statement-F, Action-F}
use Rattle.cs_lang.specs.declared.tree.Action.TheFolds.{fold-Block, fold-Statement, fold-Action}
use Rattle.cs_types_kinds.specs.declared.kind.Kind.{Kind}
use Rattle.cs_types_kinds.specs.Kinds.{int_kind as int_kind, item_kind as item_kind}
use Rattle.cs_eval_values.specs.declared.stop.Cause.TheVariants as cause
use Rattle.cs_eval_values.specs.declared.view.View.{View}
use Rattle.cs_eval_values.specs.Runs.{Run, gives, or_trap, ◌>>=◌ as ◌then◌}
use Rattle.cs_eval_values.specs.Datums.{Datum, items_of}
use Rattle.cs_eval_values.specs.Namings.{Named, with_named}
use Rattle.cs_eval_values.specs.Filling.{filled}
use Rattle.cs_eval_law.specs.Acting.{numbers, value_run, value_kind, let_run, set_run, condition}
use Rattle.cs_eval_law.specs.Checks.{method_named}
use Rattle.cs_eval_check.specs.declared.task.Source.TheVariants as source
use Rattle.cs_eval_check.specs.Tasks.{left_in}
use Rattle.cs_eval_place.specs.declared.ended.Ended.{Ended}
use Rattle.cs_eval_place.specs.declared.ended.Ended.TheVariants as ended
use Rattle.cs_eval_place.specs.declared.verdict.Verdict.{Verdict}
use Rattle.cs_eval_place.specs.declared.verdict.Verdict.TheVariants.{Yes, No, Trap}
use Rattle.cs_eval_place.specs.Located.{Located, Onward, AnsweredAt, TrappedAt, located, ◌>>=◌, located_through}

-- what something makes of the names in sight
abbrev pub Locating : Type 0
Locating = List Named → Located (List Named)

-- ---- statements

module _ (contract : ContractTree) (view : View) where
  abbrev pub chosen : Locating → Locating → List Named → Bool → Located (List Named)
  chosen block other names holds = if holds then block names else other names

  abbrev pub if_located : Expr → Locating → Locating → ℕ → Locating
  if_located e block other place names = located (condition contract view e place names) >>= chosen block other names

  -- the answer, at the place of its statement
  abbrev pub answered_at : ℕ → Bool → Located (List Named)
  answered_at place truth = AnsweredAt truth place

  abbrev pub answer_located : Expr → ℕ → Locating
  answer_located e place names = located (condition contract view e place names) >>= answered_at place

  -- the name of a turn ends with it
  abbrev pub turn_located : List ℕ → Kind → Locating → List Named → Datum → Located (List Named)
  turn_located name k each names d =
      each (with_named names name k d) >>= λ after. Onward (take (length names) after)

  abbrev pub turns_located : List ℕ → Kind → Locating → List Datum → Locating
  turns_located name k each items names = located_through (turn_located name k each) names items

  -- what a loop goes over, which is no more than a list has, and the kind of its items
  abbrev pub looped_over : Text → Expr → List Named → Run (Kind × List Datum)
  looped_over name list names =
      or_trap cause.Misfit name.place (option_and_then item_kind (value_kind contract view list names)) then λ k.
      value_run contract view list names then λ d.
      or_trap cause.Misfit name.place (items_of d) then λ items. gives (k, take MOST_ITEMS items)

  abbrev pub for_in_located : Text → Expr → Locating → Locating
  for_in_located name list each names =
      located (looped_over name list names) >>= λ over. turns_located name.bytes over.0 each over.1 names

  abbrev pub for_to_located : Text → ℕ → Locating → Locating
  for_to_located name count each = turns_located name.bytes int_kind each (numbers (min count MOST_TURNS) 0)

  -- only procedures make objects and call methods
  abbrev pub action_locates : Action-F (ℕ → Locating) Locating Locating → ℕ → Locating
  action_locates (Action-F.Let name value) place = λ names. located (let_run contract view name value names)
  action_locates (Action-F.Set name value) place = λ names. located (set_run contract view name value names)
  action_locates (Action-F.If e block) place = if_located e block Onward place
  action_locates (Action-F.IfElse e block other) place = if_located e block other place
  action_locates (Action-F.ForIn name list each) place = for_in_located name list each
  action_locates (Action-F.ForTo name count each) place = for_to_located name count each
  action_locates (Action-F.Make slot object values) place = λ names. TrappedAt place
  action_locates (Action-F.Call bound method arguments) place = λ names. TrappedAt place
  action_locates (Action-F.Answer e) place = answer_located e place

  abbrev pub statement_locates : Statement-F (ℕ → Locating) Locating Locating → Locating
  statement_locates s = s.action s.place

  abbrev pub one_located : List Named → Locating → Located (List Named)
  one_located names statement = statement names

  -- one after the other
  abbrev pub all_located : List Locating → Locating
  all_located statements names = located_through one_located names statements

  -- the names of a block end with it
  abbrev pub block_locates : Block-F (ℕ → Locating) Locating Locating → Locating
  block_locates b names = all_located b.statements names >>= λ after. Onward (take (length names) after)

  unfoldable pub block_located : Block → Locating
  block_located = fold-Block (ℕ → Locating) Locating Locating action_locates block_locates statement_locates

  unfoldable pub statement_located : Statement → Locating
  statement_located = fold-Statement (ℕ → Locating) Locating Locating action_locates block_locates statement_locates

  unfoldable pub action_located : Action → ℕ → Locating
  action_located = fold-Action (ℕ → Locating) Locating Locating action_locates block_locates statement_locates

-- ---- checks

-- a view that doesn't fit runs nothing
abbrev pub fitted_located : ContractTree → Method → View → Option (List Named) → Located (List Named)
fitted_located contract m view None = Onward []
fitted_located contract m view (Some names) = block_located contract view m.check names

-- nor does a method that isn't there
abbrev pub method_located : ContractTree → View → Option Method → Located (List Named)
method_located contract view None = Onward []
method_located contract view (Some m) = fitted_located contract m view (filled contract m view)

-- the check of a method on a view
abbrev pub check_located : ContractTree → List ℕ → View → Located (List Named)
check_located contract method view = method_located contract view (method_named contract.methods method)

-- ---- verdicts

-- Yes, where it answers so. The place is that of the answer, if there is one, or of the trap.
abbrev pub verdict_at : {X : Type 0} → Located X → Verdict
verdict_at (Onward x) = No None
verdict_at (AnsweredAt true place) = Yes
verdict_at (AnsweredAt false place) = No (Some place)
verdict_at (TrappedAt place) = Trap place

abbrev pub is_yes : Verdict → Bool
is_yes Yes = true
is_yes (No place) = false
is_yes (Trap place) = false

-- what the check of a method says of a view, and where
abbrev pub verdict_of_check : ContractTree → List ℕ → View → Verdict
verdict_of_check contract method view = verdict_at (check_located contract method view)

-- ---- what calls answer

-- it ended so; memory may run out
abbrev pub EndsSo : {X : Type 0} → Ended → Located X → Type 0
EndsSo (ended.Answer b place) at = at ≡ AnsweredAt b place
EndsSo (ended.Trap place) at = at ≡ TrappedAt place
EndsSo ended.Memory at = Unit {0}

abbrev pub Locates : {X : Type 0} → Result X Ended → Located X → Type 0
Locates (Ok x) at = at ≡ Onward x
Locates (Err e) at = EndsSo e at

-- these are the names then
abbrev pub LocatesNames : Result Unit Ended → List Named → Located (List Named) → Type 0
LocatesNames (Ok done) names at = at ≡ Onward names
LocatesNames (Err e) names at = EndsSo e at

-- a loop goes over the items of this, of this kind
abbrev pub LoopsOver : Result (Kind × Datum) Ended → Located (Kind × List Datum) → Type 0
LoopsOver (Ok found) at = at ≡ Onward (found.0, left_in (source.Items found.1) 0)
LoopsOver (Err e) at = EndsSo e at
