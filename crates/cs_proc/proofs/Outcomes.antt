-- Statements that call no method: what each comes to where its expressions are evaluated.
use Rattle.std.proofs.Common.{◌≡◌, ℕ, min, Bool, true, false, cond, List, ◌∷◌, take, Option, Some, None, Result, Bor, refl, sym, ap, ◌∙◌, arith, add-zero}
use Rattle.std.specs.Prelude.{is_some, option_and_then}
use Rattle.cs_lang_token.specs.declared.limits.TheConstants.{MOST_ITEMS, MOST_TURNS}
use Rattle.cs_lang_token.specs.declared.token.Text.{Text}
use Rattle.cs_lang.specs.declared.tree.ContractTree.{ContractTree}
use Rattle.cs_lang.specs.declared.tree.Expr.{Expr}
use Rattle.cs_lang.specs.declared.tree.Block.{Block}
use Rattle.cs_tx_value.specs.declared.value.Value.{Value}
use Rattle.cs_types_kinds.specs.declared.kind.Kind.{Kind}
use Rattle.cs_types_kinds.specs.Kinds.{int_kind as int_kind, item_kind as item_kind}
use Rattle.cs_eval_values.specs.declared.stop.Cause.TheVariants as cause
use Rattle.cs_eval_values.specs.declared.view.View.{View}
use Rattle.cs_eval_values.specs.Runs.{Run, Gave, Trapped, gives, spend, ◌>>=◌ as ◌then◌, or_trap}
use Rattle.cs_eval_values.specs.Datums.{Datum, bool_of, items_of}
use Rattle.cs_eval_values.specs.Operators.{given_bool}
use Rattle.cs_eval_values.specs.Namings.{with_named, with_datum}
use Rattle.cs_eval.specs.declared.scene.Scene.{Scene}
use Rattle.cs_eval.proofs.RunLaws.{spend_none}
use Rattle.cs_eval_law.specs.Acting.{numbers, value_run, value_kind, let_run, set_run, condition}
use Rattle.cs_eval_check.specs.declared.task.Source.{Source}
use Rattle.cs_eval_check.specs.declared.task.Source.TheVariants as source
use Rattle.cs_eval_check.specs.declared.task.Loop.{Loop}
use Rattle.cs_eval_check.specs.declared.task.Task.{Task}
use Rattle.cs_eval_check.specs.declared.task.Task.TheVariants as task
use Rattle.cs_eval_check.specs.Tasks.{left_of, left_in, first_datum}
use Rattle.cs_eval_check.proofs.Turns.{condition_holds, condition_misfits, no_more}
use Rattle.cs_proc_parts.specs.declared.ending.Ending.TheVariants as ending
use Rattle.cs_proc_parts.specs.declared.ending.Halt.{Halt}
use Rattle.cs_proc_parts.specs.declared.progress.Doing.{Doing}
use Rattle.cs_proc_parts.specs.Courses.{ProcedureCourse, Went, Ended, goes, spending, ◌>>=◌, or_ends, evaluated, Halts}
use Rattle.cs_proc_parts.specs.Creating.{room_for, with_made}
use Rattle.cs_proc.specs.declared.procedures_running.Running.{Running}
use Rattle.cs_proc.specs.Acting.{ProcedureStep, Calls, with_names, let_does, set_does, turns_do, gone_over, for_in_does, for_to_does, arguments_run, object_of, put_does, make_does, block_does}
use Rattle.cs_proc.specs.Tasks.{finished, other_does, choice_does, calls_at, rest_of_procedure, then_rest_of_procedure, Acts}
use Rattle.cs_proc.proofs.Laws.{spending_none, went_bind, went_on, went_last, halts_is, halts_bind, evaluated_gave, halts_part}
use Rattle.cs_proc.proofs.Turns.{acts_spent}

-- ---- runs of expressions

gives_through : {A B : Type 0} (r : Run A) (x : A) (n : ℕ) (g : A → B) → r ≡ Gave x n → (r then λ y. gives (g y)) ≡ Gave (g x) n
gives_through r x n g is = ap (λ q. q then λ y. gives (g y)) is ∙ ap (λ (j : ℕ). Gave (g x) j) (add-zero n)

module _ (contract : ContractTree) (view : View) (s : Doing) where
  -- ---- names and values

  let_is : (name : Text) (value : Expr) (k : Kind) → value_kind contract view value s.names ≡ Some k
      → let_run contract view name value s.names ≡ (value_run contract view value s.names then λ d. gives (with_named s.names name.bytes k d))
  let_is name value k is =
      ap (λ (o : Option Kind). or_trap cause.Misfit name.place o then λ j. value_run contract view value s.names then λ d. gives (with_named s.names name.bytes j d)) is
      ∙ spend_none (value_run contract view value s.names then λ d. gives (with_named s.names name.bytes k d))

  pub let_kindless : (name : Text) (value : Expr) → value_kind contract view value s.names ≡ None
      → let_does contract view name value s ≡ Ended (ending.Trap cause.Misfit name.place) 0
  let_kindless name value is =
      ap (λ (o : Option Kind). evaluated (or_trap cause.Misfit name.place o then λ j. value_run contract view value s.names then λ d. gives (with_named s.names name.bytes j d))
      >>= λ names. goes (with_names s names)) is

  pub let_halts : (name : Text) (value : Expr) (k : Kind) (e : Halt) (n : ℕ) → value_kind contract view value s.names ≡ Some k
      → Halts e n (evaluated (value_run contract view value s.names)) → Halts e n (let_does contract view name value s)
  let_halts name value k e n is h =
      halts_bind e n (evaluated (let_run contract view name value s.names)) (λ names. goes (with_names s names))
      (halts_is e n (evaluated (let_run contract view name value s.names)) _ (ap (λ r. evaluated r) (let_is name value k is))
      (halts_part e n (value_run contract view value s.names) (λ d. gives (with_named s.names name.bytes k d)) h))

  pub let_done : (name : Text) (value : Expr) (k : Kind) (d : Datum) (n : ℕ) → value_kind contract view value s.names ≡ Some k
      → value_run contract view value s.names ≡ Gave d n → let_does contract view name value s ≡ Went (with_names s (with_named s.names name.bytes k d)) n
  let_done name value k d n is gave =
      went_last (evaluated (let_run contract view name value s.names)) (with_named s.names name.bytes k d) n (λ names. goes (with_names s names)) (with_names s (with_named s.names name.bytes k d))
      (evaluated_gave (let_run contract view name value s.names) (with_named s.names name.bytes k d) n
      (let_is name value k is ∙ gives_through (value_run contract view value s.names) d n (with_named s.names name.bytes k) gave)) refl

  pub set_halts : (name : Text) (value : Expr) (e : Halt) (n : ℕ) → Halts e n (evaluated (value_run contract view value s.names)) → Halts e n (set_does contract view name value s)
  set_halts name value e n h =
      halts_bind e n (evaluated (set_run contract view name value s.names)) (λ names. goes (with_names s names))
      (halts_part e n (value_run contract view value s.names) (λ d. gives (with_datum name.bytes d s.names)) h)

  pub set_done : (name : Text) (value : Expr) (d : Datum) (n : ℕ) → value_run contract view value s.names ≡ Gave d n
      → set_does contract view name value s ≡ Went (with_names s (with_datum name.bytes d s.names)) n
  set_done name value d n gave =
      went_last (evaluated (set_run contract view name value s.names)) (with_datum name.bytes d s.names) n (λ names. goes (with_names s names)) (with_names s (with_datum name.bytes d s.names))
      (evaluated_gave (set_run contract view name value s.names) (with_datum name.bytes d s.names) n
      (gives_through (value_run contract view value s.names) d n (λ d. with_datum name.bytes d s.names) gave)) refl

  -- ---- conditions

  pub holds_halts : (c : Expr) (place : ℕ) (e : Halt) (n : ℕ) → Halts e n (evaluated (value_run contract view c s.names)) → Halts e n (evaluated (condition contract view c place s.names))
  holds_halts c place e n h = halts_part e n (value_run contract view c s.names) (given_bool place) h

  pub holds_misfits : (c : Expr) (place : ℕ) (d : Datum) (n : ℕ) → value_run contract view c s.names ≡ Gave d n → bool_of d ≡ None
      → evaluated (condition contract view c place s.names) ≡ Ended (ending.Trap cause.Misfit place) n
  holds_misfits c place d n gave is = ap (λ r. evaluated r) (condition_misfits contract view c place s.names d n gave is)

  -- ---- objects that are made

  module _ (slot object : Text) (values : List Expr) (place : ℕ) where
    after_values : List Value → ProcedureCourse Doing
    after_values vs = or_ends (ending.Trap cause.Misfit place) (room_for slot.bytes s.made) >>= λ room. put_does contract view slot (object_of contract view object vs) place room s

    made_of : (vs : List Value) (n : ℕ) → arguments_run contract view values place s.names ≡ Gave vs n → make_does contract view slot object values place s ≡ spending n (after_values vs)
    unfolding after_values
    made_of vs n gave =
        went_bind (evaluated (arguments_run contract view values place s.names)) vs n after_values (evaluated_gave (arguments_run contract view values place s.names) vs n gave)

    pub make_halts : (e : Halt) (n : ℕ) → Halts e n (evaluated (arguments_run contract view values place s.names)) → Halts e n (make_does contract view slot object values place s)
    unfolding after_values
    make_halts e n h = halts_bind e n (evaluated (arguments_run contract view values place s.names)) after_values h

    roomed : (vs : List Value) (o : Option Bool) → room_for slot.bytes s.made ≡ o
        → after_values vs ≡ (or_ends (ending.Trap cause.Misfit place) o >>= λ room. put_does contract view slot (object_of contract view object vs) place room s)
    unfolding after_values
    roomed vs o is = ap (λ (q : Option Bool). or_ends (ending.Trap cause.Misfit place) q >>= λ room. put_does contract view slot (object_of contract view object vs) place room s) is

    pub make_unknown : (vs : List Value) (n : ℕ) → arguments_run contract view values place s.names ≡ Gave vs n → None ≡ room_for slot.bytes s.made
        → make_does contract view slot object values place s ≡ Ended (ending.Trap cause.Misfit place) n
    make_unknown vs n gave is = made_of vs n gave ∙ ap (spending n) (roomed vs None (sym is)) ∙ ap (λ (j : ℕ). Ended (ending.Trap cause.Misfit place) j) (add-zero n)

    pub make_full : (vs : List Value) (n : ℕ) → arguments_run contract view values place s.names ≡ Gave vs n → Some false ≡ room_for slot.bytes s.made
        → make_does contract view slot object values place s ≡ Ended (ending.Filled place) n
    make_full vs n gave is = made_of vs n gave ∙ ap (spending n) (roomed vs (Some false) (sym is)) ∙ ap (λ (j : ℕ). Ended (ending.Filled place) j) (omega arith)

    pub make_done : (vs : List Value) (n : ℕ) → arguments_run contract view values place s.names ≡ Gave vs n → Some true ≡ room_for slot.bytes s.made
        → make_does contract view slot object values place s
        ≡ Went (record { names = s.names; made = with_made slot.bytes (object_of contract view object vs) s.made; deps = s.deps; progress = s.progress }) n
    make_done vs n gave is =
        made_of vs n gave ∙ ap (spending n) (roomed vs (Some true) (sym is))
        ∙ ap (λ (j : ℕ). Went (record { names = s.names; made = with_made slot.bytes (object_of contract view object vs) s.made; deps = s.deps; progress = s.progress }) j) (omega arith)

-- ---- choices

module _ (contract : ContractTree) (view : View) (calls : Calls) (c : Expr) (b : Block) (other : Option (Bor Block)) (place : ℕ) (s : Doing) (ts : List Task) where
  chosen : Bool → ProcedureCourse Doing
  chosen holds = cond holds (block_does contract view calls b s) (other_does contract view calls other s)

  choice_halts : (e : Halt) (n : ℕ) → Halts e n (evaluated (condition contract view c place s.names)) → Halts e n (choice_does contract view calls c b other place s >>= finished contract view calls ts)
  unfolding chosen
  choice_halts e n h =
      halts_bind e n (choice_does contract view calls c b other place s) (finished contract view calls ts)
      (halts_bind e n (evaluated (condition contract view c place s.names)) chosen h)

  choice_made : (holds : Bool) (n : ℕ) → condition contract view c place s.names ≡ Gave holds n
      → (choice_does contract view calls c b other place s >>= finished contract view calls ts) ≡ spending n (chosen holds >>= finished contract view calls ts)
  unfolding chosen
  choice_made holds n gave =
      went_on (evaluated (condition contract view c place s.names)) holds n chosen (finished contract view calls ts)
      (evaluated_gave (condition contract view c place s.names) holds n gave)

  choice_one : (n : ℕ) → condition contract view c place s.names ≡ Gave true n
      → (choice_does contract view calls c b other place s >>= finished contract view calls ts) ≡ spending n (block_does contract view calls b s >>= finished contract view calls ts)
  unfolding chosen
  choice_one n gave = choice_made true n gave

  choice_other : (o : Bor Block) (n : ℕ) → other ≡ Some o → condition contract view c place s.names ≡ Gave false n
      → (choice_does contract view calls c b other place s >>= finished contract view calls ts) ≡ spending n (block_does contract view calls o.now s >>= finished contract view calls ts)
  unfolding chosen
  choice_other o n is gave =
      choice_made false n gave ∙ ap (λ (p : Option (Bor Block)). spending n (other_does contract view calls p s >>= finished contract view calls ts)) is

  choice_none : (n : ℕ) → other ≡ None → condition contract view c place s.names ≡ Gave false n
      → (choice_does contract view calls c b other place s >>= finished contract view calls ts) ≡ spending n (finished contract view calls ts s)
  unfolding chosen
  choice_none n is gave =
      choice_made false n gave ∙ ap (λ (p : Option (Bor Block)). spending n (other_does contract view calls p s >>= finished contract view calls ts)) is
      ∙ ap (spending n) (spending_none (finished contract view calls ts s))

module _ (scene : Scene) (above : ℕ) (c : Expr) (b : Block) (other : Option (Bor Block)) (place n : ℕ) (before mid after : Running) where
  pub none_decided : (e : Halt) → Halts e n (evaluated (condition scene.contract.now scene.view.now c place before.doing.names))
      → Halts e n (then_rest_of_procedure scene above before.tasks.items (choice_does scene.contract.now scene.view.now (calls_at scene above) c b other place before.doing))
  none_decided e h = choice_halts scene.contract.now scene.view.now (calls_at scene above) c b other place before.doing before.tasks.items e n h

  -- one of two blocks is done next
  pub one_chosen : (answer : Result Unit Halt) → condition scene.contract.now scene.view.now c place before.doing.names ≡ Gave true n → mid.doing ≡ before.doing → mid.tasks.items ≡ before.tasks.items
      → Acts scene above answer 0 (then_rest_of_procedure scene above mid.tasks.items (block_does scene.contract.now scene.view.now (calls_at scene above) b mid.doing)) after
      → Acts scene above answer n (then_rest_of_procedure scene above before.tasks.items (choice_does scene.contract.now scene.view.now (calls_at scene above) c b other place before.doing)) after
  one_chosen answer holds doing tasks h =
      acts_spent scene above answer n 0 n _ (then_rest_of_procedure scene above mid.tasks.items (block_does scene.contract.now scene.view.now (calls_at scene above) b mid.doing)) after (omega arith)
      (choice_one scene.contract.now scene.view.now (calls_at scene above) c b other place before.doing before.tasks.items n holds
      ∙ ap (λ (ts : List Task). spending n (block_does scene.contract.now scene.view.now (calls_at scene above) b before.doing >>= rest_of_procedure scene above ts)) (sym tasks)
      ∙ ap (λ (s : Doing). spending n (block_does scene.contract.now scene.view.now (calls_at scene above) b s >>= rest_of_procedure scene above mid.tasks.items)) (sym doing)) h

  pub other_chosen : (answer : Result Unit Halt) (o : Bor Block) → other ≡ Some o → condition scene.contract.now scene.view.now c place before.doing.names ≡ Gave false n → mid.doing ≡ before.doing → mid.tasks.items ≡ before.tasks.items
      → Acts scene above answer 0 (then_rest_of_procedure scene above mid.tasks.items (block_does scene.contract.now scene.view.now (calls_at scene above) o.now mid.doing)) after
      → Acts scene above answer n (then_rest_of_procedure scene above before.tasks.items (choice_does scene.contract.now scene.view.now (calls_at scene above) c b other place before.doing)) after
  other_chosen answer o is holds doing tasks h =
      acts_spent scene above answer n 0 n _ (then_rest_of_procedure scene above mid.tasks.items (block_does scene.contract.now scene.view.now (calls_at scene above) o.now mid.doing)) after (omega arith)
      (choice_other scene.contract.now scene.view.now (calls_at scene above) c b other place before.doing before.tasks.items o n is holds
      ∙ ap (λ (ts : List Task). spending n (block_does scene.contract.now scene.view.now (calls_at scene above) o.now before.doing >>= rest_of_procedure scene above ts)) (sym tasks)
      ∙ ap (λ (s : Doing). spending n (block_does scene.contract.now scene.view.now (calls_at scene above) o.now s >>= rest_of_procedure scene above mid.tasks.items)) (sym doing)) h

  pub none_chosen : other ≡ None → condition scene.contract.now scene.view.now c place before.doing.names ≡ Gave false n → after.doing ≡ before.doing → after.tasks.items ≡ before.tasks.items
      → then_rest_of_procedure scene above before.tasks.items (choice_does scene.contract.now scene.view.now (calls_at scene above) c b other place before.doing) ≡ spending n (rest_of_procedure scene above after.tasks.items after.doing)
  none_chosen is holds doing tasks =
      choice_none scene.contract.now scene.view.now (calls_at scene above) c b other place before.doing before.tasks.items n is holds
      ∙ ap (λ (ts : List Task). spending n (rest_of_procedure scene above ts before.doing)) (sym tasks)
      ∙ ap (λ (s : Doing). spending n (rest_of_procedure scene above after.tasks.items s)) (sym doing)

-- ---- loops

module _ (contract : ContractTree) (view : View) (calls : Calls) (s : Doing) (ts : List Task) where
  -- a loop that is over
  pub loop_over : (l : Loop) → None ≡ first_datum (left_in l.source l.at) → finished contract view calls (task.Loop l ∷ ts) s ≡ spending 0 (finished contract view calls ts s)
  loop_over l is =
      ap (λ (ds : List Datum). turns_do contract view l.name.now l.kind (block_does contract view calls l.each.now) ds s >>= finished contract view calls ts) (no_more l.source l.at is)

  over_is : (name : Text) (list : Expr) (k : Kind) → option_and_then item_kind (value_kind contract view list s.names) ≡ Some k
      → gone_over contract view name list s.names
      ≡ (value_run contract view list s.names then λ d. or_trap cause.Misfit name.place (items_of d) then λ items. gives (k, take MOST_ITEMS items))
  over_is name list k is =
      ap (λ (o : Option Kind). or_trap cause.Misfit name.place o then λ j. value_run contract view list s.names then λ d. or_trap cause.Misfit name.place (items_of d) then λ items. gives (j, take MOST_ITEMS items)) is
      ∙ spend_none (value_run contract view list s.names then λ d. or_trap cause.Misfit name.place (items_of d) then λ items. gives (k, take MOST_ITEMS items))

  over_given : (name : Text) (list : Expr) (k : Kind) (d : Datum) (n : ℕ) → option_and_then item_kind (value_kind contract view list s.names) ≡ Some k → value_run contract view list s.names ≡ Gave d n
      → gone_over contract view name list s.names ≡ spend n (or_trap cause.Misfit name.place (items_of d) then λ items. gives (k, take MOST_ITEMS items))
  over_given name list k d n is gave =
      over_is name list k is ∙ ap (λ r. r then λ e. or_trap cause.Misfit name.place (items_of e) then λ items. gives (k, take MOST_ITEMS items)) gave

  on : Text → ProcedureStep → Kind × List Datum → ProcedureCourse Doing
  on name each over = turns_do contract view name.bytes over.0 each over.1 s

  -- by the kind of its items, if they have one
  over_by : Text → Expr → Option Kind → Run (Kind × List Datum)
  over_by name list o =
      or_trap cause.Misfit name.place o then λ k. value_run contract view list s.names then λ d. or_trap cause.Misfit name.place (items_of d) then λ items. gives (k, take MOST_ITEMS items)

  pub in_kindless : (name : Text) (list : Expr) (each : ProcedureStep) → option_and_then item_kind (value_kind contract view list s.names) ≡ None
      → (for_in_does contract view name list each s >>= finished contract view calls ts) ≡ Ended (ending.Trap cause.Misfit name.place) 0
  unfolding over_by on
  in_kindless name list each is =
      ap (λ (o : Option Kind). (evaluated (over_by name list o) >>= on name each) >>= finished contract view calls ts) is

  pub in_halts : (name : Text) (list : Expr) (each : ProcedureStep) (k : Kind) (e : Halt) (n : ℕ) → option_and_then item_kind (value_kind contract view list s.names) ≡ Some k
      → Halts e n (evaluated (value_run contract view list s.names)) → Halts e n (for_in_does contract view name list each s >>= finished contract view calls ts)
  unfolding on
  in_halts name list each k e n is h =
      halts_bind e n (for_in_does contract view name list each s) (finished contract view calls ts)
      (halts_bind e n (evaluated (gone_over contract view name list s.names)) (on name each)
      (halts_is e n (evaluated (gone_over contract view name list s.names)) _ (ap (λ r. evaluated r) (over_is name list k is))
      (halts_part e n (value_run contract view list s.names) (λ d. or_trap cause.Misfit name.place (items_of d) then λ items. gives (k, take MOST_ITEMS items)) h)))

  pub in_misfits : (name : Text) (list : Expr) (each : ProcedureStep) (k : Kind) (d : Datum) (n : ℕ) → option_and_then item_kind (value_kind contract view list s.names) ≡ Some k → value_run contract view list s.names ≡ Gave d n
      → false ≡ is_some (items_of d) → (for_in_does contract view name list each s >>= finished contract view calls ts) ≡ Ended (ending.Trap cause.Misfit name.place) n
  unfolding on
  in_misfits name list each k d n is gave none =
      ap (λ r. (evaluated r >>= on name each) >>= finished contract view calls ts)
      (over_given name list k d n is gave
      ∙ ap (λ (o : Option (List Datum)). spend n (or_trap cause.Misfit name.place o then λ items. gives (k, take MOST_ITEMS items))) (is_none (items_of d) none)
      ∙ ap (λ (j : ℕ). Trapped cause.Misfit name.place j) (add-zero n))
    where
      is_none : (o : Option (List Datum)) → false ≡ is_some o → o ≡ None
      is_none None none = refl
      is_none (Some items) none = absurd cc

  items_by : Text → Kind → Option (List Datum) → Run (Kind × List Datum)
  items_by name k o = or_trap cause.Misfit name.place o then λ items. gives (k, take MOST_ITEMS items)

  items_whole : (name : Text) (k : Kind) (o : Option (List Datum)) → true ≡ is_some o → items_by name k o ≡ Gave (k, left_of 0 o) 0
  unfolding items_by
  items_whole name k None some = absurd cc
  items_whole name k (Some items) some = refl

  pub in_begun : (name : Text) (list : Expr) (l : Loop) (k : Kind) (d : Datum) (n : ℕ) → option_and_then item_kind (value_kind contract view list s.names) ≡ Some k → value_run contract view list s.names ≡ Gave d n
      → true ≡ is_some (items_of d) → l.source ≡ source.Items d → l.at ≡ 0 → l.kind ≡ k → l.name.now ≡ name.bytes
      → (for_in_does contract view name list (block_does contract view calls l.each.now) s >>= finished contract view calls ts) ≡ spending n (finished contract view calls (task.Loop l ∷ ts) s)
  unfolding on items_by
  in_begun name list l k d n is gave some from at kind called =
      went_on (evaluated (gone_over contract view name list s.names)) (k, left_of 0 (items_of d)) n (on name (block_does contract view calls l.each.now)) (finished contract view calls ts)
      (evaluated_gave (gone_over contract view name list s.names) (k, left_of 0 (items_of d)) n
      (over_given name list k d n is gave ∙ ap (spend n) (items_whole name k (items_of d) some) ∙ ap (λ (j : ℕ). Gave (k, left_of 0 (items_of d)) j) (add-zero n)))
      ∙ ap (λ (ds : List Datum). spending n (turns_do contract view name.bytes k (block_does contract view calls l.each.now) ds s >>= finished contract view calls ts))
      (ap (λ (i : ℕ). left_in (source.Items d) i) (sym at) ∙ ap (λ (q : Source). left_in q l.at) (sym from))
      ∙ ap (λ (j : Kind). spending n (turns_do contract view name.bytes j (block_does contract view calls l.each.now) (left_in l.source l.at) s >>= finished contract view calls ts)) (sym kind)
      ∙ ap (λ (t : List ℕ). spending n (turns_do contract view t l.kind (block_does contract view calls l.each.now) (left_in l.source l.at) s >>= finished contract view calls ts)) (sym called)

  pub to_begun : (name : Text) (count : ℕ) (l : Loop) → l.source ≡ source.Numbers (min count MOST_TURNS) → l.at ≡ 0 → l.kind ≡ int_kind → l.name.now ≡ name.bytes
      → (for_to_does contract view name count (block_does contract view calls l.each.now) s >>= finished contract view calls ts) ≡ spending 0 (finished contract view calls (task.Loop l ∷ ts) s)
  to_begun name count l from at kind called =
      let all : numbers (min count MOST_TURNS) 0 ≡ left_in l.source l.at =
      ap (λ (n : ℕ). numbers n 0) (omega arith) ∙ ap (λ (i : ℕ). left_in (source.Numbers (min count MOST_TURNS)) i) (sym at) ∙ ap (λ (q : Source). left_in q l.at) (sym from) in
      ap (λ (ds : List Datum). turns_do contract view name.bytes int_kind (block_does contract view calls l.each.now) ds s >>= finished contract view calls ts) all
      ∙ ap (λ (j : Kind). turns_do contract view name.bytes j (block_does contract view calls l.each.now) (left_in l.source l.at) s >>= finished contract view calls ts) (sym kind)
      ∙ ap (λ (t : List ℕ). turns_do contract view t l.kind (block_does contract view calls l.each.now) (left_in l.source l.at) s >>= finished contract view calls ts) (sym called)
      ∙ sym (spending_none (finished contract view calls (task.Loop l ∷ ts) s))

pub ruleset lets = (let_kindless, let_halts, let_done)

pub ruleset sets = (set_halts, set_done)

pub ruleset conditions = (condition_holds, holds_halts, holds_misfits)

pub ruleset makes = (make_halts, make_unknown, make_full, make_done)

pub ruleset choices = (none_decided, one_chosen, other_chosen, none_chosen)

pub ruleset in_loops = (in_kindless, in_halts, in_misfits, in_begun)
