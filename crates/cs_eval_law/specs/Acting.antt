-- What statements mean: the names behind them, an answer or a trap, and what they spend.
use Rattle.std.specs.Prelude.{ℕ, zero, suc, ◌+◌, pos, min, List, [], ◌∷◌, take, length, Bool, Option, if◌then◌else◌, option_and_then}
use Rattle.cs_lang_token.specs.declared.limits.TheConstants.{MOST_ITEMS, MOST_TURNS}
use Rattle.cs_lang_token.specs.declared.token.Text.{Text}
use Rattle.cs_lang.specs.declared.tree.ContractTree.{ContractTree}
use Rattle.cs_lang.specs.declared.tree.Expr.{Expr}
use Rattle.cs_lang.specs.declared.tree.Block.{Block}
use Rattle.cs_lang.specs.declared.tree.Statement.{Statement}
use Rattle.cs_lang.specs.declared.tree.Action.{Action}
use Rattle.cs_lang.specs.declared.tree.Action.TheOpen.{Block-F, Statement-F, Action-F}
use Rattle.cs_lang.specs.declared.tree.Action.TheFolds.{fold-Block, fold-Statement, fold-Action}
use Rattle.cs_types_kinds.specs.declared.kind.Kind.{Kind}
use Rattle.cs_types_kinds.specs.Kinds.{int_kind as int_kind, item_kind as item_kind}
use Rattle.cs_eval_values.specs.declared.stop.Cause.TheVariants as cause
use Rattle.cs_eval_values.specs.declared.view.View.{View}
use Rattle.cs_eval_values.specs.Runs.{Run, gives, answers, traps, spend, ◌>>=◌, through, or_trap}
use Rattle.cs_eval_values.specs.Datums.{Datum, items_of}
use Rattle.cs_eval_values.specs.Operators.{int, given_bool}
use Rattle.cs_eval_values.specs.Namings.{Named, with_named, with_datum}
use Rattle.cs_eval.specs.Meaning.{Environment, meaning, kind_given}

-- what something makes of the names in sight
abbrev pub Naming : Type 0
Naming = List Named → Run (List Named)

-- so many numbers, from one on
abbrev pub numbers : ℕ → ℕ → List Datum
numbers zero from = []
numbers (suc n) from = int (pos from) ∷ numbers n (from + 1)

-- ---- statements

module _ (contract : ContractTree) (view : View) where
  abbrev pub seen_with : List Named → Environment
  seen_with names = record { contract = contract; view = view; names = names }

  abbrev pub value_run : Expr → List Named → Run Datum
  value_run e names = meaning (seen_with names) e

  abbrev pub value_kind : Expr → List Named → Option Kind
  value_kind e names = kind_given (seen_with names) e

  -- a new name; its place is told where its value has no kind
  abbrev pub let_run : Text → Expr → Naming
  let_run name value names =
      or_trap cause.Misfit name.place (value_kind value names) >>= λ k.
      value_run value names >>= λ d. gives (with_named names name.bytes k d)

  abbrev pub set_run : Text → Expr → Naming
  set_run name value names = value_run value names >>= λ d. gives (with_datum name.bytes d names)

  abbrev pub condition : Expr → ℕ → List Named → Run Bool
  condition e place names = value_run e names >>= given_bool place

  abbrev pub if_run : Expr → Naming → Naming → ℕ → Naming
  if_run e block other place names = condition e place names >>= λ holds. if holds then block names else other names

  abbrev pub answer_run : Expr → ℕ → Naming
  answer_run e place names = condition e place names >>= answers

  -- ---- loops

  -- a turn spends 1, and its name ends with it
  abbrev pub turn_run : List ℕ → Kind → Naming → List Named → Datum → Run (List Named)
  turn_run name k each names d =
      spend 1 (each (with_named names name k d) >>= λ after. gives (take (length names) after))

  abbrev pub turns_run : List ℕ → Kind → Naming → List Datum → Naming
  turns_run name k each items names = through (turn_run name k each) names items

  -- over the items of a list or objects, of which there are no more than a list has
  abbrev pub for_in_run : Text → Expr → Naming → Naming
  for_in_run name list each names =
      or_trap cause.Misfit name.place (option_and_then item_kind (value_kind list names)) >>= λ k.
      value_run list names >>= λ d.
      or_trap cause.Misfit name.place (items_of d) >>= λ items.
      turns_run name.bytes k each (take MOST_ITEMS items) names

  -- over the numbers from 0 on, of which there are no more than the most turns
  abbrev pub for_to_run : Text → ℕ → Naming → Naming
  for_to_run name count each = turns_run name.bytes int_kind each (numbers (min count MOST_TURNS) 0)

  -- ---- whole statements

  -- only procedures make objects and call methods
  abbrev pub action_means : Action-F (ℕ → Naming) Naming Naming → ℕ → Naming
  action_means (Action-F.Let name value) place = let_run name value
  action_means (Action-F.Set name value) place = set_run name value
  action_means (Action-F.If e block) place = if_run e block gives place
  action_means (Action-F.IfElse e block other) place = if_run e block other place
  action_means (Action-F.ForIn name list each) place = for_in_run name list each
  action_means (Action-F.ForTo name count each) place = for_to_run name count each
  action_means (Action-F.Make slot object values) place = λ names. traps cause.Misfit place
  action_means (Action-F.Call bound method arguments) place = λ names. traps cause.Misfit place
  action_means (Action-F.Answer e) place = answer_run e place

  -- a statement spends 1 before its parts
  abbrev pub statement_means : Statement-F (ℕ → Naming) Naming Naming → Naming
  statement_means s names = spend 1 (s.action s.place names)

  abbrev pub one_run : List Named → Naming → Run (List Named)
  one_run names statement = statement names

  -- one after the other
  abbrev pub all_run : List Naming → Naming
  all_run statements names = through one_run names statements

  -- the names of a block end with it
  abbrev pub block_means : Block-F (ℕ → Naming) Naming Naming → Naming
  block_means b names = all_run b.statements names >>= λ after. gives (take (length names) after)

  unfoldable pub block_run : Block → Naming
  block_run = fold-Block (ℕ → Naming) Naming Naming action_means block_means statement_means

  unfoldable pub statement_run : Statement → Naming
  statement_run = fold-Statement (ℕ → Naming) Naming Naming action_means block_means statement_means

  unfoldable pub action_run : Action → ℕ → Naming
  action_run = fold-Action (ℕ → Naming) Naming Naming action_means block_means statement_means
