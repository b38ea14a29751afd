-- What statements of a procedure mean: what it works on behind them, or how it ends, and what they spend.
use Rattle.std.specs.Prelude.{ℕ, ◌+◌, ◌-◌, min, List, [], ◌∷◌, ◌++◌, take, length, slice_get, Bool, Option, Some, None, if◌then◌else◌, option_and_then}
use Rattle.cs_base.specs.Fields.{◌>>=◌ as ◌and◌}
use Rattle.cs_lang_token.specs.declared.limits.TheConstants.{MOST_ITEMS, MOST_TURNS}
use Rattle.cs_lang_token.specs.declared.token.Text.{Text}
use Rattle.cs_lang.specs.declared.tree.ContractTree.{ContractTree}
use Rattle.cs_lang.specs.declared.tree.Expr.{Expr}
use Rattle.cs_lang.specs.declared.tree.Field.{Field}
use Rattle.cs_lang.specs.declared.tree.Method.{Method}
use Rattle.cs_lang.specs.declared.tree.Block.{Block}
use Rattle.cs_lang.specs.declared.tree.Statement.{Statement}
use Rattle.cs_lang.specs.declared.tree.Action.{Action}
use Rattle.cs_lang.specs.declared.tree.Action.TheOpen.{Block-F, Statement-F, Action-F}
use Rattle.cs_lang.specs.declared.tree.Action.TheFolds.{fold-Block, fold-Statement, fold-Action}
use Rattle.cs_tx_value.specs.declared.object.Object.{Object}
use Rattle.cs_tx_value.specs.declared.value.Value.{Value}
use Rattle.cs_tx_types.specs.declared.trace.Trace.{Trace}
use Rattle.cs_types_kinds.specs.declared.kind.Kind.{Kind}
use Rattle.cs_types_kinds.specs.Kinds.{int_kind as int_kind, item_kind as item_kind, spelled_kind}
use Rattle.cs_eval_values.specs.declared.stop.Cause.TheVariants as cause
use Rattle.cs_eval_values.specs.declared.view.View.{View}
use Rattle.cs_eval_values.specs.Runs.{Run, gives, or_trap, ◌>>=◌ as ◌then◌, through as one_by_one}
use Rattle.cs_eval_values.specs.Datums.{Datum, Plain, items_of}
use Rattle.cs_eval_values.specs.Operators.{with_item}
use Rattle.cs_eval_values.specs.Namings.{Named, with_named}
use Rattle.cs_eval_law.specs.Acting.{Naming, numbers, value_run, value_kind, let_run, set_run, condition}
use Rattle.cs_proc_parts.specs.declared.ending.Ending.TheVariants as ending
use Rattle.cs_proc_parts.specs.declared.progress.Progress.{Progress}
use Rattle.cs_proc_parts.specs.declared.progress.Doing.{Doing}
use Rattle.cs_proc_parts.specs.Courses.{ProcedureCourse, goes, ends, spending, ◌>>=◌, course_through, or_ends, evaluated}
use Rattle.cs_proc_parts.specs.Creating.{room_for, with_made}

-- what something makes of what a procedure works on
abbrev pub ProcedureStep : Type 0
ProcedureStep = Doing → ProcedureCourse Doing

-- what a method makes of its arguments and of how far the transaction has come
abbrev pub Procedure : Type 0
Procedure = List Value → Progress → ProcedureCourse Progress

-- a method that is called, and its procedure
pub record Callee : Type 0 where
  pub method : Method
  pub run : Procedure

-- which methods can be called, by their names
abbrev pub Calls : Type 0
Calls = List ℕ → Option Callee

abbrev pub with_names : Doing → List Named → Doing
with_names s names = record { names = names; made = s.made; deps = s.deps; progress = s.progress }

-- ---- what a method that was called leaves to its caller

-- the number of the last trace
abbrev pub last_number : List Trace → ℕ
last_number traces = length traces - 1

-- As a dep. No transaction of so many traces that a number takes more than a byte is small enough.
abbrev pub dep_number_of : ℕ → ℕ
dep_number_of number = min number 255

abbrev pub returns_of : Option Trace → List Value
returns_of None = []
returns_of (Some t) = t.returns

-- what the method of the last trace returned
abbrev pub last_returns : List Trace → List Value
last_returns traces = returns_of (slice_get traces (last_number traces))

-- a name for a returned value of the field's kind
abbrev pub name_bound : Text → Option Field → Option Value → List Named → Option (List Named)
name_bound name (Some f) (Some v) names =
    spelled_kind f.kind and λ k. Some (with_named names name.bytes k (Plain v))
name_bound name f v names = None

-- names for returned values, of which the first stands at this place
abbrev pub names_bound : List Field → List Value → ℕ → List Text → List Named → Option (List Named)
names_bound fields values at [] names = Some names
names_bound fields values at (name ∷ more) names =
    name_bound name (slice_get fields at) (slice_get values at) names and names_bound fields values (at + 1) more

abbrev pub with_dep : Doing → Progress → List Named → Doing
with_dep s p names =
    record { names = names; made = s.made; deps = s.deps ++ dep_number_of (last_number p.traces) ∷ []; progress = p }

-- the caller goes on: its names are bound, and the last trace is one more that it stands on
abbrev pub called_back : List Text → List Field → ℕ → Doing → Progress → ProcedureCourse Doing
called_back names fields place s p =
    or_ends (ending.Trap cause.Misfit place) (names_bound fields (last_returns p.traces) 0 names s.names) >>= λ more.
    goes (with_dep s p more)

-- ---- statements

module _ (contract : ContractTree) (view : View) where
  -- what changes names alone
  abbrev pub naming_does : Naming → ProcedureStep
  naming_does f s = evaluated (f s.names) >>= λ names. goes (with_names s names)

  abbrev pub let_does : Text → Expr → ProcedureStep
  let_does name value = naming_does (let_run contract view name value)

  abbrev pub set_does : Text → Expr → ProcedureStep
  set_does name value = naming_does (set_run contract view name value)

  abbrev pub if_does : Expr → ProcedureStep → ProcedureStep → ℕ → ProcedureStep
  if_does e block other place s =
      evaluated (condition contract view e place s.names) >>= λ holds. if holds then block s else other s

  -- ---- loops

  -- a turn spends 1, and its name ends with it
  abbrev pub turn_does : List ℕ → Kind → ProcedureStep → Doing → Datum → ProcedureCourse Doing
  turn_does name k each s d =
      spending 1 (each (with_names s (with_named s.names name k d)) >>= λ t.
      goes (with_names t (take (length s.names) t.names)))

  abbrev pub turns_do : List ℕ → Kind → ProcedureStep → List Datum → ProcedureStep
  turns_do name k each items s = course_through (turn_does name k each) s items

  -- what a loop goes over, which is no more than a list has, and the kind of its items
  abbrev pub gone_over : Text → Expr → List Named → Run (Kind × List Datum)
  gone_over name list names =
      or_trap cause.Misfit name.place (option_and_then item_kind (value_kind contract view list names)) then λ k.
      value_run contract view list names then λ d.
      or_trap cause.Misfit name.place (items_of d) then λ items. gives (k, take MOST_ITEMS items)

  abbrev pub for_in_does : Text → Expr → ProcedureStep → ProcedureStep
  for_in_does name list each s =
      evaluated (gone_over name list s.names) >>= λ over. turns_do name.bytes over.0 each over.1 s

  abbrev pub for_to_does : Text → ℕ → ProcedureStep → ProcedureStep
  for_to_does name count each = turns_do name.bytes int_kind each (numbers (min count MOST_TURNS) 0)

  -- ---- objects and calls

  abbrev pub argument_run : ℕ → List Named → List Value → Expr → Run (List Value)
  argument_run place names values e = value_run contract view e names then with_item place values

  -- the values of expressions, from the left
  abbrev pub arguments_run : List Expr → ℕ → List Named → Run (List Value)
  arguments_run es place names = one_by_one (argument_run place names) [] es

  -- an object of this contract
  abbrev pub object_of : Text → List Value → Object
  object_of name values = record { contract = view.contract; type_name = name.bytes; values = values }

  -- a slot for one object takes one alone
  abbrev pub put_does : Text → Object → ℕ → Bool → ProcedureStep
  put_does slot o place room s =
      if room
      then goes (record { names = s.names; made = with_made slot.bytes o s.made; deps = s.deps; progress = s.progress })
      else ends (ending.Filled place)

  -- the values come first
  abbrev pub make_does : Text → Text → List Expr → ℕ → ProcedureStep
  make_does slot object values place s =
      evaluated (arguments_run values place s.names) >>= λ vs.
      or_ends (ending.Trap cause.Misfit place) (room_for slot.bytes s.made) >>= λ room.
      put_does slot (object_of object vs) place room s

  module _ (calls : Calls) where
    -- the arguments come first; the method takes its objects when it runs
    abbrev pub call_does : List Text → Text → List Expr → ℕ → ProcedureStep
    call_does names method arguments place s =
        evaluated (arguments_run arguments place s.names) >>= λ vs.
        or_ends (ending.Trap cause.Misfit method.place) (calls method.bytes) >>= λ c.
        c.run vs s.progress >>= called_back names c.method.returns place s

    -- ---- whole statements

    -- only checks answer
    abbrev pub action_means : Action-F (ℕ → ProcedureStep) ProcedureStep ProcedureStep → ℕ → ProcedureStep
    action_means (Action-F.Let name value) place = let_does name value
    action_means (Action-F.Set name value) place = set_does name value
    action_means (Action-F.If e block) place = if_does e block goes place
    action_means (Action-F.IfElse e block other) place = if_does e block other place
    action_means (Action-F.ForIn name list each) place = for_in_does name list each
    action_means (Action-F.ForTo name count each) place = for_to_does name count each
    action_means (Action-F.Make slot object values) place = make_does slot object values place
    action_means (Action-F.Call names method arguments) place = call_does names method arguments place
    action_means (Action-F.Answer e) place = λ s. ends (ending.Trap cause.Misfit place)

    -- a statement spends 1 before its parts
    abbrev pub statement_means : Statement-F (ℕ → ProcedureStep) ProcedureStep ProcedureStep → ProcedureStep
    statement_means one s = spending 1 (one.action one.place s)

    abbrev pub one_does : Doing → ProcedureStep → ProcedureCourse Doing
    one_does s statement = statement s

    -- one after the other
    abbrev pub all_do : List ProcedureStep → ProcedureStep
    all_do statements s = course_through one_does s statements

    -- the names of a block end with it
    abbrev pub block_means : Block-F (ℕ → ProcedureStep) ProcedureStep ProcedureStep → ProcedureStep
    block_means b s = all_do b.statements s >>= λ t. goes (with_names t (take (length s.names) t.names))

    unfoldable pub block_does : Block → ProcedureStep
    block_does = fold-Block (ℕ → ProcedureStep) ProcedureStep ProcedureStep action_means block_means statement_means

    unfoldable pub statement_does : Statement → ProcedureStep
    statement_does =
        fold-Statement (ℕ → ProcedureStep) ProcedureStep ProcedureStep action_means block_means statement_means

    unfoldable pub action_does : Action → ℕ → ProcedureStep
    action_does = fold-Action (ℕ → ProcedureStep) ProcedureStep ProcedureStep action_means block_means statement_means
