-- Turns of the machine: what a part of a run gives goes on with what was left to do.
use Rattle.std.proofs.Common.{◌≡◌, ℕ, zero, suc, ◌+◌, ◌-◌, ◌<◌, ◌≤◌, ◌*◌, pos, min, Bool, true, false, cond, List, [], ◌∷◌, ◌++◌, map, take, drop, length, get_or, Option, None, Some, Result, Ok, Err, Bor, refl, sym, ap, ◌∙◌, subst, arith, add-zero, add-one, length-append}
use Rattle.std.specs.Prelude.{OnOk, is_some, slice_get, unwrap_or, option_and_then}
use Rattle.std.proofs.lemmas.List.{take_all}
use Rattle.std.proofs.Math.Nat.{suc-mul}
use Rattle.cs_lang_token.specs.declared.limits.TheConstants.{MOST_ITEMS, MOST_TURNS}
use Rattle.cs_lang_token.specs.declared.token.Text.{Text}
use Rattle.cs_lang.specs.declared.tree.ContractTree.{ContractTree}
use Rattle.cs_lang.specs.declared.tree.Expr.{Expr}
use Rattle.cs_lang.specs.declared.tree.Block.{Block, out-Block}
use Rattle.cs_lang.specs.declared.tree.Statement.{Statement, out-Statement}
use Rattle.cs_types_kinds.specs.declared.kind.Kind.{Kind}
use Rattle.cs_types_kinds.specs.Kinds.{int_kind as int_kind, item_kind as item_kind}
use Rattle.cs_eval_values.specs.declared.stop.Stop.{Stop}
use Rattle.cs_eval_values.specs.declared.stop.Stop.TheVariants as stop
use Rattle.cs_eval_values.specs.declared.stop.Cause.TheVariants as cause
use Rattle.cs_eval_values.specs.declared.view.View.{View}
use Rattle.cs_eval_values.specs.Answers.{Stops}
use Rattle.cs_eval_values.specs.Runs.{Run, Gave, Answered, Trapped, gives, answers, spend, ◌>>=◌, through, or_trap}
use Rattle.cs_tx_value.specs.declared.value.Value.{Value, out-Value}
use Rattle.cs_tx_value.specs.declared.value.Value.TheOpen.{Value-F}
use Rattle.cs_eval_shared.specs.Parts.{values_in}
use Rattle.cs_eval_values.specs.Datums.{Datum, Plain, One, Many, item_in, plain_each, items_of, item_of_datum, bool_of}
use Rattle.cs_eval_values.specs.Operators.{int, given_bool}
use Rattle.cs_eval_values.proofs.Items.{plain_at, object_at}
use Rattle.cs_eval_values.specs.Namings.{Named, named, with_named, with_datum}
use Rattle.cs_eval.specs.declared.scene.Scene.{Scene}
use Rattle.cs_eval.proofs.RunLaws.{spend_none, spend_spend, spend_bind, bind_bind, gives_bind, under}
use Rattle.cs_eval.proofs.Turns.{stops_bind, stops_is}
use Rattle.cs_eval_check.specs.declared.task.Source.{Source}
use Rattle.cs_eval_check.specs.declared.task.Source.TheVariants as source
use Rattle.cs_eval_check.specs.declared.task.Loop.{Loop}
use Rattle.cs_eval_check.specs.declared.task.Task.{Task}
use Rattle.cs_eval_check.specs.declared.task.Task.TheVariants as task
use Rattle.cs_eval_check.specs.declared.running.Running.{Running}
use Rattle.cs_eval_law.specs.Acting.{numbers, value_run, value_kind, let_run, set_run, condition, if_run, answer_run, turn_run, turns_run, for_in_run, for_to_run, one_run, all_run, block_run, statement_run, action_run}
use Rattle.cs_eval_check.specs.Tasks.{left_of, left_in, first_datum, loop_run, finished, other_run, choice_run, left_to, then_left, TasksAct}
use Rattle.cs_eval.specs.Work.{all_work}
use Rattle.cs_eval_check.specs.TaskWork.{turns_work, most_turns, loop_work, tasks_work, work_of_block, work_of_statement, work_of_action}
use Rattle.cs_eval_check.proofs.Actions.{statement_is, block_is}
use Rattle.cs_eval_check.proofs.ActionWork.{statement_left, block_left}

-- ---- runs

-- what was given goes on
pub given_bind : {A B : Type 0} (r : Run A) (x : A) (n : ℕ) (f : A → Run B) → r ≡ Gave x n → (r >>= f) ≡ spend n (f x)
given_bind r x n f is = ap (λ s. s >>= f) is

-- of which nothing more is spent
pub gives_more : {A B C : Type 0} (r : Run A) (x : A) (n : ℕ) (g : A → B) (f : B → Run C) → r ≡ Gave x n → (r >>= λ y. gives (g y) >>= f) ≡ spend n (f (g x))
gives_more r x n g f is =
    given_bind r x n (λ y. gives (g y) >>= f) is ∙ ap (spend n) (spend_none (f (g x)))

-- ---- what calls answer

module _ (scene : Scene) where
  pub acts_is : (answer : Result Unit Stop) (n : ℕ) (r s : Run (List Named)) (after : Running) → r ≡ s → TasksAct scene answer n s after → TasksAct scene answer n r after
  acts_is answer n r s after is h = let P : Run (List Named) → Type 0 = λ x. TasksAct scene answer n x after in subst P (sym is) h

  -- so much is spent before
  pub acts_spent : (answer : Result Unit Stop) (k m n : ℕ) (r s : Run (List Named)) (after : Running) → n ≡ k + m → r ≡ spend k s → TasksAct scene answer m s after → TasksAct scene answer n r after
  acts_spent (Ok done) k m n r s after more is h = (
    is ∙ ap (spend k) h.0 ∙ spend_spend k m (left_to scene after.tasks.items after.names)
        ∙ ap (λ (j : ℕ). spend j (left_to scene after.tasks.items after.names)) (sym more),
    h.1,
  )
  acts_spent (Err (stop.Answer b)) k m n r s after more is h = is ∙ ap (spend k) h ∙ ap (λ (j : ℕ). Answered b j) (sym more)
  acts_spent (Err (stop.Trap why place)) k m n r s after more is h = is ∙ ap (spend k) h ∙ ap (λ (j : ℕ). Trapped why place j) (sym more)
  acts_spent (Err stop.Memory) k m n r s after more is h = tt

-- ---- names and values

module _ (contract : ContractTree) (view : View) (f : List Named → Run (List Named)) where
  let_is : (name : Text) (value : Expr) (names : List Named) (k : Kind) → value_kind contract view value names ≡ Some k
      → let_run contract view name value names ≡ (value_run contract view value names >>= λ d. gives (with_named names name.bytes k d))
  let_is name value names k is =
      ap (λ (o : Option Kind). or_trap cause.Misfit name.place o >>= λ j. value_run contract view value names >>= λ d. gives (with_named names name.bytes j d)) is
      ∙ spend_none (value_run contract view value names >>= λ d. gives (with_named names name.bytes k d))

  pub let_kindless : (name : Text) (value : Expr) (names : List Named) → value_kind contract view value names ≡ None
      → (let_run contract view name value names >>= f) ≡ Trapped cause.Misfit name.place 0
  let_kindless name value names is =
      ap (λ (o : Option Kind). (or_trap cause.Misfit name.place o >>= λ j. value_run contract view value names >>= λ d. gives (with_named names name.bytes j d)) >>= f) is

  pub let_stops : (name : Text) (value : Expr) (names : List Named) (k : Kind) (e : Stop) (n : ℕ) → value_kind contract view value names ≡ Some k
      → Stops e n (value_run contract view value names) → Stops e n (let_run contract view name value names >>= f)
  let_stops name value names k e n is h =
      stops_bind e n (let_run contract view name value names) f
      (stops_is e n _ _ (let_is name value names k is) (stops_bind e n (value_run contract view value names) (λ d. gives (with_named names name.bytes k d)) h))

  pub let_done : (name : Text) (value : Expr) (names : List Named) (k : Kind) (d : Datum) (n : ℕ) → value_kind contract view value names ≡ Some k
      → value_run contract view value names ≡ Gave d n
      → (let_run contract view name value names >>= f) ≡ spend n (f (with_named names name.bytes k d))
  let_done name value names k d n is gave =
      ap (λ r. r >>= f) (let_is name value names k is)
      ∙ bind_bind (value_run contract view value names) (λ e. gives (with_named names name.bytes k e)) f
      ∙ gives_more (value_run contract view value names) d n (with_named names name.bytes k) f gave

  pub set_stops : (name : Text) (value : Expr) (names : List Named) (e : Stop) (n : ℕ)
      → Stops e n (value_run contract view value names) → Stops e n (set_run contract view name value names >>= f)
  set_stops name value names e n h =
      stops_bind e n (set_run contract view name value names) f
      (stops_bind e n (value_run contract view value names) (λ d. gives (with_datum name.bytes d names)) h)

  pub set_done : (name : Text) (value : Expr) (names : List Named) (d : Datum) (n : ℕ) → value_run contract view value names ≡ Gave d n
      → (set_run contract view name value names >>= f) ≡ spend n (f (with_datum name.bytes d names))
  set_done name value names d n gave =
      bind_bind (value_run contract view value names) (λ e. gives (with_datum name.bytes e names)) f
      ∙ gives_more (value_run contract view value names) d n (λ e. with_datum name.bytes e names) f gave

-- ---- conditions

module _ (contract : ContractTree) (view : View) where
  pub condition_stops : (e : Expr) (place : ℕ) (names : List Named) (s : Stop) (n : ℕ) → Stops s n (value_run contract view e names)
      → Stops s n (condition contract view e place names)
  condition_stops e place names s n h = stops_bind s n (value_run contract view e names) (given_bool place) h

  pub condition_holds : (e : Expr) (place : ℕ) (names : List Named) (d : Datum) (b : Bool) (n : ℕ) → value_run contract view e names ≡ Gave d n
      → bool_of d ≡ Some b → condition contract view e place names ≡ Gave b n
  condition_holds e place names d b n gave is =
      given_bind (value_run contract view e names) d n (given_bool place) gave
      ∙ ap (λ (o : Option Bool). spend n (or_trap cause.Misfit place o)) is
      ∙ ap (λ (k : ℕ). Gave b k) (add-zero n)

  pub condition_misfits : (e : Expr) (place : ℕ) (names : List Named) (d : Datum) (n : ℕ) → value_run contract view e names ≡ Gave d n
      → bool_of d ≡ None → condition contract view e place names ≡ Trapped cause.Misfit place n
  condition_misfits e place names d n gave is =
      given_bind (value_run contract view e names) d n (given_bool place) gave
      ∙ ap (λ (o : Option Bool). spend n (or_trap cause.Misfit place o)) is
      ∙ ap (λ (k : ℕ). Trapped cause.Misfit place k) (add-zero n)

  pub answer_stops : (e : Expr) (place : ℕ) (names : List Named) (s : Stop) (n : ℕ) → Stops s n (condition contract view e place names)
      → Stops s n (answer_run contract view e place names)
  answer_stops e place names s n h = stops_bind s n (condition contract view e place names) answers h

  pub answer_done : (e : Expr) (place : ℕ) (names : List Named) (b : Bool) (n : ℕ) → condition contract view e place names ≡ Gave b n
      → answer_run contract view e place names ≡ Answered b n
  answer_done e place names b n gave =
      given_bind (condition contract view e place names) b n answers gave ∙ ap (λ (k : ℕ). Answered b k) (add-zero n)

-- ---- blocks

take_take : (n m : ℕ) (xs : List Named) → n ≤ m → take n (take m xs) ≡ take n xs
take_take zero m xs le = refl
take_take (suc n) zero xs le = absurd (omega arith)
take_take (suc n) (suc m) [] le = refl
take_take (suc n) (suc m) (x ∷ xs) le = ap (λ (ys : List Named). x ∷ ys) (take_take n m xs (omega arith))

module _ (contract : ContractTree) (view : View) where
  -- a block whose names end, and some before them
  block_cut : (b : Block) (n : ℕ) (names : List Named) → n ≤ length names
      → (block_run contract view b names >>= λ after. gives (take n after))
      ≡ (all_run contract view (map (statement_run contract view) (out-Block b).statements) names >>= λ after. gives (take n after))
  block_cut b n names le =
      ap (λ r. r >>= λ after. gives (take n after)) (block_is contract view b names)
      ∙ bind_bind (all_run contract view (map (statement_run contract view) (out-Block b).statements) names) (λ after. gives (take (length names) after)) (λ after. gives (take n after))
      ∙ under (all_run contract view (map (statement_run contract view) (out-Block b).statements) names)
      (λ after. gives (take (length names) after) >>= λ more. gives (take n more)) (λ after. gives (take n after))
      (λ after. spend_none (gives (take n (take (length names) after))) ∙ ap (λ (more : List Named). gives more) (take_take n (length names) after le))

  -- its statements are done next, and then the names end
  cut_next : (ss : List Statement) (n : ℕ) (names : List Named) (ts : List Task)
      → ((all_run contract view (map (statement_run contract view) ss) names >>= λ after. gives (take n after)) >>= finished contract view ts)
      ≡ (all_run contract view (map (statement_run contract view) ss) names >>= λ after. finished contract view ts (take n after))
  cut_next ss n names ts =
      bind_bind (all_run contract view (map (statement_run contract view) ss) names) (λ after. gives (take n after)) (finished contract view ts)
      ∙ under (all_run contract view (map (statement_run contract view) ss) names) (λ after. gives (take n after) >>= finished contract view ts) (λ after. finished contract view ts (take n after))
      (λ after. spend_none (finished contract view ts (take n after)))

  pub entered : (b : Block) (ss : Bor (List Statement)) (names : List Named) (ts : List Task) → ss.now ≡ (out-Block b).statements
      → (block_run contract view b names >>= finished contract view ts)
      ≡ finished contract view (task.Statements ss ∷ task.Leave (length names) ∷ ts) names
  entered b ss names ts is =
      ap (λ r. r >>= finished contract view ts) (block_is contract view b names)
      ∙ cut_next (out-Block b).statements (length names) names ts
      ∙ ap (λ (more : List Statement). all_run contract view (map (statement_run contract view) more) names >>= λ after. finished contract view ts (take (length names) after)) (sym is)

  -- ---- choices

  choice : Block → Option (Bor Block) → List Named → Bool → Run (List Named)
  choice b other names holds = cond holds (block_run contract view b names) (other_run contract view other names)

  pub choice_stops : (e : Expr) (b : Block) (other : Option (Bor Block)) (place : ℕ) (names : List Named) (ts : List Task) (s : Stop) (n : ℕ)
      → Stops s n (condition contract view e place names) → Stops s n (choice_run contract view e b other place names >>= finished contract view ts)
  unfolding choice
  choice_stops e b other place names ts s n h =
      stops_bind s n (choice_run contract view e b other place names) (finished contract view ts)
      (stops_bind s n (condition contract view e place names) (choice b other names) h)

  choice_made : (e : Expr) (b : Block) (other : Option (Bor Block)) (place : ℕ) (names : List Named) (ts : List Task) (holds : Bool) (n : ℕ)
      → condition contract view e place names ≡ Gave holds n
      → (choice_run contract view e b other place names >>= finished contract view ts) ≡ spend n (choice b other names holds >>= finished contract view ts)
  unfolding choice
  choice_made e b other place names ts holds n gave =
      ap (λ r. r >>= finished contract view ts) (given_bind (condition contract view e place names) holds n (choice b other names) gave)
      ∙ spend_bind n (choice b other names holds) (finished contract view ts)

  pub choice_one : (e : Expr) (b : Block) (other : Option (Bor Block)) (place : ℕ) (names : List Named) (ts : List Task) (n : ℕ)
      → condition contract view e place names ≡ Gave true n
      → (choice_run contract view e b other place names >>= finished contract view ts) ≡ spend n (block_run contract view b names >>= finished contract view ts)
  unfolding choice
  choice_one e b other place names ts n gave = choice_made e b other place names ts true n gave

  pub choice_other : (e : Expr) (b : Block) (o : Bor Block) (other : Option (Bor Block)) (place : ℕ) (names : List Named) (ts : List Task) (n : ℕ)
      → other ≡ Some o → condition contract view e place names ≡ Gave false n
      → (choice_run contract view e b other place names >>= finished contract view ts) ≡ spend n (block_run contract view o.now names >>= finished contract view ts)
  unfolding choice
  choice_other e b o other place names ts n is gave =
      choice_made e b other place names ts false n gave
      ∙ ap (λ (p : Option (Bor Block)). spend n (other_run contract view p names >>= finished contract view ts)) is

  pub choice_none : (e : Expr) (b : Block) (other : Option (Bor Block)) (place : ℕ) (names : List Named) (ts : List Task) (n : ℕ)
      → other ≡ None → condition contract view e place names ≡ Gave false n
      → (choice_run contract view e b other place names >>= finished contract view ts) ≡ spend n (finished contract view ts names)
  unfolding choice
  choice_none e b other place names ts n is gave =
      choice_made e b other place names ts false n gave
      ∙ ap (λ (p : Option (Bor Block)). spend n (other_run contract view p names >>= finished contract view ts)) is
      ∙ ap (spend n) (spend_none (finished contract view ts names))

opened_front : {A : Type 0} (xs : List A) (x : A) → 1 ≤ length xs → x ≡ get_or xs 0 x → xs ≡ x ∷ take (length xs - 1) (drop 1 xs)
opened_front [] x some is = absurd (omega arith)
opened_front {A} (y ∷ ys) x some is =
    ap (λ (z : A). z ∷ ys) (sym is) ∙ ap (λ (zs : List A). x ∷ zs) (sym (take_all (length (y ∷ ys) - 1) ys (omega arith)))

-- ---- what loops go over

some_is : (x d : Datum) → Some x ≡ Some d → x ≡ d
some_is x d is = ap (λ (o : Option Datum). unwrap_or o x) is

head_next : (ds : List Datum) (d : Datum) → first_datum ds ≡ Some d → ds ≡ d ∷ drop 1 ds
head_next [] d is = absurd cc
head_next (x ∷ xs) d is = ap (λ (e : Datum). e ∷ xs) (some_is x d is)

head_none : (ds : List Datum) → first_datum ds ≡ None → ds ≡ []
head_none [] is = refl
head_none (x ∷ xs) is = absurd cc

abbrev no_data : List Datum
no_data = []

drop_more : (at : ℕ) (ds : List Datum) → drop 1 (drop at ds) ≡ drop (at + 1) ds
drop_more zero ds = refl
drop_more (suc at) [] = let e : suc (at + 1) ≡ suc at + 1 = omega arith in ap (λ (n : ℕ). drop n no_data) e
drop_more (suc at) (x ∷ xs) = let e : suc (at + 1) ≡ suc at + 1 = omega arith in drop_more at xs ∙ ap (λ (n : ℕ). drop n (x ∷ xs)) e

numbers_next : (n from : ℕ) (d : Datum) → first_datum (numbers n from) ≡ Some d → drop 1 (numbers n from) ≡ numbers (n - 1) (from + 1)
numbers_next zero from d is = absurd cc
numbers_next (suc n) from d is = let e : n ≡ suc n - 1 = omega arith in ap (λ (k : ℕ). numbers k (from + 1)) e

behind_items : (o : Option (List Datum)) (at : ℕ) → drop 1 (left_of at o) ≡ left_of (at + 1) o
behind_items None at = refl
behind_items (Some items) at = drop_more at (take MOST_ITEMS items)

behind : (s : Source) (at : ℕ) (d : Datum) → first_datum (left_in s at) ≡ Some d → drop 1 (left_in s at) ≡ left_in s (at + 1)
behind (source.Numbers end) at d is =
    numbers_next (end - at) at d is ∙ ap (λ (n : ℕ). numbers n (at + 1)) (omega arith)
behind (source.Items list) at d is = behind_items (items_of list) at

-- one more, and those behind it
pub one_more : (s : Source) (at : ℕ) (d : Datum) → Some d ≡ first_datum (left_in s at) → left_in s at ≡ d ∷ left_in s (at + 1)
one_more s at d is =
    head_next (left_in s at) d (sym is) ∙ ap (λ (ds : List Datum). d ∷ ds) (behind s at d (sym is))

pub no_more : (s : Source) (at : ℕ) → None ≡ first_datum (left_in s at) → left_in s at ≡ []
no_more s at is = head_none (left_in s at) (sym is)

-- the first of what is left is the one at the place
first_left : (xs : List Datum) (at most : ℕ) → at < most → first_datum (drop at (take most xs)) ≡ slice_get xs at
first_left xs at zero lt = absurd (omega arith)
first_left [] zero (suc most) lt = refl
first_left [] (suc at) (suc most) lt = refl
first_left (x ∷ xs) zero (suc most) lt = refl
first_left (x ∷ xs) (suc at) (suc most) lt = first_left xs at most (omega arith)

past_left : (xs : List Datum) (at most : ℕ) → most ≤ at → first_datum (drop at (take most xs)) ≡ None
past_left xs zero zero le = refl
past_left xs (suc at) zero le = refl
past_left [] zero (suc most) le = refl
past_left [] (suc at) (suc most) le = refl
past_left (x ∷ xs) zero (suc most) le = absurd (omega arith)
past_left (x ∷ xs) (suc at) (suc most) le = past_left xs at most (omega arith)

layer_item : (v : Value-F Value) (at : ℕ) → at < MOST_ITEMS → first_datum (left_of at (plain_each (values_in v))) ≡ item_in v at
layer_item (Value-F.Int n) at lt = refl
layer_item (Value-F.Bool b) at lt = refl
layer_item (Value-F.Bytes bytes) at lt = refl
layer_item (Value-F.List vs) at lt = first_left (map (λ v. Plain v) vs) at MOST_ITEMS lt ∙ plain_at vs at

-- the item at a place is the first of those that are left there
pub item_left : (d : Datum) (at : ℕ) → at < MOST_ITEMS → item_of_datum d at ≡ first_datum (left_of at (items_of d))
item_left (Plain v) at lt = sym (layer_item (out-Value v) at lt)
item_left (One o) at lt = refl
item_left (Many os) at lt = sym (first_left (map (λ o. One o) os) at MOST_ITEMS lt ∙ object_at os at)

none_past : (o : Option (List Datum)) (at : ℕ) → MOST_ITEMS ≤ at → None ≡ first_datum (left_of at o)
none_past None at le = refl
none_past (Some items) at le = sym (past_left items at MOST_ITEMS le)

pub no_item : (d : Datum) (at : ℕ) → MOST_ITEMS ≤ at → None ≡ first_datum (left_of at (items_of d))
no_item d at le = none_past (items_of d) at le

first_number : (n from : ℕ) → 0 < n → Some (int (pos from)) ≡ first_datum (numbers n from)
first_number zero from lt = absurd (omega arith)
first_number (suc n) from lt = refl

-- the number at a place
pub number_left : (end at : ℕ) → at < end → Some (int (pos at)) ≡ first_datum (numbers (end - at) at)
number_left end at lt = first_number (end - at) at (omega arith)

pub no_number : (end at : ℕ) → end ≤ at → None ≡ first_datum (numbers (end - at) at)
no_number end at le = let e : 0 ≡ end - at = omega arith in ap (λ (n : ℕ). first_datum (numbers n at)) e

-- ---- turns

module _ (contract : ContractTree) (view : View) where
  -- a loop that is over
  pub loop_over : (l : Loop) (names : List Named) (ts : List Task) → None ≡ first_datum (left_in l.source l.at)
      → finished contract view (task.Loop l ∷ ts) names ≡ spend 0 (finished contract view ts names)
  loop_over l names ts is =
      ap (λ (ds : List Datum). turns_run contract view l.name.now l.kind (block_run contract view l.each.now) ds names >>= finished contract view ts) (no_more l.source l.at is)

  turn_cut : (l : Loop) (names : List Named) (d : Datum)
      → turn_run contract view l.name.now l.kind (block_run contract view l.each.now) names d
      ≡ spend 1 (all_run contract view (map (statement_run contract view) (out-Block l.each.now).statements) (with_named names l.name.now l.kind d) >>= λ after. gives (take (length names) after))
  turn_cut l names d =
      ap (spend 1) (block_cut contract view l.each.now (length names) (with_named names l.name.now l.kind d)
      (omega (arith, length-append names (named l.name.now l.kind d ∷ []))))

  -- a turn with what comes next
  pub loop_turn : (l next : Loop) (ss : Bor (List Statement)) (d : Datum) (names : List Named) (ts : List Task)
      → Some d ≡ first_datum (left_in l.source l.at) → next ≡ record l { at = l.at + 1 } → ss.now ≡ (out-Block l.each.now).statements
      → finished contract view (task.Loop l ∷ ts) names
      ≡ spend 1 (finished contract view (task.Statements ss ∷ task.Leave (length names) ∷ task.Loop next ∷ ts) (with_named names l.name.now l.kind d))
  loop_turn l next ss d names ts is behind_it opened =
      let each : List Named → Run (List Named) = block_run contract view l.each.now in
      let go : List Named → Datum → Run (List Named) = turn_run contract view l.name.now l.kind each in
      let rest : List Datum = left_in l.source (l.at + 1) in
      ap (λ (ds : List Datum). turns_run contract view l.name.now l.kind each ds names >>= finished contract view ts) (one_more l.source l.at d is)
      ∙ bind_bind (go names d) (λ b. through go b rest) (finished contract view ts)
      ∙ ap (λ (n : Loop). go names d >>= finished contract view (task.Loop n ∷ ts)) (sym behind_it)
      ∙ ap (λ r. r >>= finished contract view (task.Loop next ∷ ts)) (turn_cut l names d)
      ∙ spend_bind 1 (all_run contract view (map (statement_run contract view) (out-Block l.each.now).statements) (with_named names l.name.now l.kind d) >>= λ after. gives (take (length names) after)) (finished contract view (task.Loop next ∷ ts))
      ∙ ap (spend 1) (cut_next contract view (out-Block l.each.now).statements (length names) (with_named names l.name.now l.kind d) (task.Loop next ∷ ts))
      ∙ ap (λ (more : List Statement). spend 1 (all_run contract view (map (statement_run contract view) more) (with_named names l.name.now l.kind d) >>= λ after. finished contract view (task.Loop next ∷ ts) (take (length names) after))) (sym opened)

  -- ---- loops that begin

  in_is : (name : Text) (list : Expr) (each : List Named → Run (List Named)) (names : List Named) (k : Kind)
      → option_and_then item_kind (value_kind contract view list names) ≡ Some k
      → for_in_run contract view name list each names
      ≡ (value_run contract view list names >>= λ d. or_trap cause.Misfit name.place (items_of d) >>= λ items. turns_run contract view name.bytes k each (take MOST_ITEMS items) names)
  in_is name list each names k is =
      ap (λ (o : Option Kind). or_trap cause.Misfit name.place o >>= λ j. value_run contract view list names >>= λ d. or_trap cause.Misfit name.place (items_of d) >>= λ items. turns_run contract view name.bytes j each (take MOST_ITEMS items) names) is
      ∙ spend_none (value_run contract view list names >>= λ d. or_trap cause.Misfit name.place (items_of d) >>= λ items. turns_run contract view name.bytes k each (take MOST_ITEMS items) names)

  pub in_kindless : (name : Text) (list : Expr) (each : List Named → Run (List Named)) (names : List Named) (f : List Named → Run (List Named))
      → option_and_then item_kind (value_kind contract view list names) ≡ None
      → (for_in_run contract view name list each names >>= f) ≡ Trapped cause.Misfit name.place 0
  in_kindless name list each names f is =
      ap (λ (o : Option Kind). (or_trap cause.Misfit name.place o >>= λ j. value_run contract view list names >>= λ d. or_trap cause.Misfit name.place (items_of d) >>= λ items. turns_run contract view name.bytes j each (take MOST_ITEMS items) names) >>= f) is

  pub in_stops : (name : Text) (list : Expr) (each : List Named → Run (List Named)) (names : List Named) (f : List Named → Run (List Named)) (k : Kind) (e : Stop) (n : ℕ)
      → option_and_then item_kind (value_kind contract view list names) ≡ Some k → Stops e n (value_run contract view list names)
      → Stops e n (for_in_run contract view name list each names >>= f)
  in_stops name list each names f k e n is h =
      stops_bind e n (for_in_run contract view name list each names) f
      (stops_is e n _ _ (in_is name list each names k is)
      (stops_bind e n (value_run contract view list names) (λ d. or_trap cause.Misfit name.place (items_of d) >>= λ items. turns_run contract view name.bytes k each (take MOST_ITEMS items) names) h))

  in_given : (name : Text) (list : Expr) (each : List Named → Run (List Named)) (names : List Named) (f : List Named → Run (List Named)) (k : Kind) (d : Datum) (n : ℕ)
      → option_and_then item_kind (value_kind contract view list names) ≡ Some k → value_run contract view list names ≡ Gave d n
      → (for_in_run contract view name list each names >>= f)
      ≡ spend n (or_trap cause.Misfit name.place (items_of d) >>= λ items. turns_run contract view name.bytes k each (take MOST_ITEMS items) names >>= f)
  in_given name list each names f k d n is gave =
      let on : Datum → Run (List Named) = λ e. or_trap cause.Misfit name.place (items_of e) >>= λ items. turns_run contract view name.bytes k each (take MOST_ITEMS items) names in
      ap (λ r. r >>= f) (in_is name list each names k is ∙ given_bind (value_run contract view list names) d n on gave)
      ∙ spend_bind n (on d) f
      ∙ ap (spend n) (bind_bind (or_trap cause.Misfit name.place (items_of d)) (λ items. turns_run contract view name.bytes k each (take MOST_ITEMS items) names) f)

  pub in_misfits : (name : Text) (list : Expr) (each : List Named → Run (List Named)) (names : List Named) (f : List Named → Run (List Named)) (k : Kind) (d : Datum) (n : ℕ)
      → option_and_then item_kind (value_kind contract view list names) ≡ Some k → value_run contract view list names ≡ Gave d n → false ≡ is_some (items_of d)
      → (for_in_run contract view name list each names >>= f) ≡ Trapped cause.Misfit name.place n
  in_misfits name list each names f k d n is gave none =
      in_given name list each names f k d n is gave
      ∙ ap (λ (o : Option (List Datum)). spend n (or_trap cause.Misfit name.place o >>= λ items. turns_run contract view name.bytes k each (take MOST_ITEMS items) names >>= f)) (is_none (items_of d) none)
      ∙ ap (λ (j : ℕ). Trapped cause.Misfit name.place j) (add-zero n)
    where
      is_none : (o : Option (List Datum)) → false ≡ is_some o → o ≡ None
      is_none None none = refl
      is_none (Some items) none = absurd cc

  pub in_begun : (name : Text) (list : Expr) (names : List Named) (ts : List Task) (l : Loop) (k : Kind) (d : Datum) (n : ℕ)
      → option_and_then item_kind (value_kind contract view list names) ≡ Some k → value_run contract view list names ≡ Gave d n → true ≡ is_some (items_of d)
      → l.source ≡ source.Items d → l.at ≡ 0 → l.kind ≡ k → l.name.now ≡ name.bytes
      → (for_in_run contract view name list (block_run contract view l.each.now) names >>= finished contract view ts)
      ≡ spend n (finished contract view (task.Loop l ∷ ts) names)
  in_begun name list names ts l k d n is gave some from at kind called =
      in_given name list (block_run contract view l.each.now) names (finished contract view ts) k d n is gave
      ∙ ap (spend n) (whole (items_of d) some)
      ∙ ap (λ (ds : List Datum). spend n (turns_run contract view name.bytes k (block_run contract view l.each.now) ds names >>= finished contract view ts))
      (ap (λ (i : ℕ). left_in (source.Items d) i) (sym at) ∙ ap (λ (s : Source). left_in s l.at) (sym from))
      ∙ ap (λ (j : Kind). spend n (turns_run contract view name.bytes j (block_run contract view l.each.now) (left_in l.source l.at) names >>= finished contract view ts)) (sym kind)
      ∙ ap (λ (text : List ℕ). spend n (turns_run contract view text l.kind (block_run contract view l.each.now) (left_in l.source l.at) names >>= finished contract view ts)) (sym called)
    where
      whole : (o : Option (List Datum)) → true ≡ is_some o
          → (or_trap cause.Misfit name.place o >>= λ items. turns_run contract view name.bytes k (block_run contract view l.each.now) (take MOST_ITEMS items) names >>= finished contract view ts)
          ≡ (turns_run contract view name.bytes k (block_run contract view l.each.now) (left_of 0 o) names >>= finished contract view ts)
      whole None some = absurd cc
      whole (Some items) some = spend_none (turns_run contract view name.bytes k (block_run contract view l.each.now) (take MOST_ITEMS items) names >>= finished contract view ts)

  pub to_begun : (name : Text) (count : ℕ) (names : List Named) (ts : List Task) (l : Loop)
      → l.source ≡ source.Numbers (min count MOST_TURNS) → l.at ≡ 0 → l.kind ≡ int_kind → l.name.now ≡ name.bytes
      → (for_to_run contract view name count (block_run contract view l.each.now) names >>= finished contract view ts)
      ≡ spend 0 (finished contract view (task.Loop l ∷ ts) names)
  to_begun name count names ts l from at kind called =
      ap (λ (ds : List Datum). turns_run contract view name.bytes int_kind (block_run contract view l.each.now) ds names >>= finished contract view ts)
      (ap (λ (n : ℕ). numbers n 0) (omega arith) ∙ ap (λ (i : ℕ). left_in (source.Numbers (min count MOST_TURNS)) i) (sym at) ∙ ap (λ (s : Source). left_in s l.at) (sym from))
      ∙ ap (λ (j : Kind). turns_run contract view name.bytes j (block_run contract view l.each.now) (left_in l.source l.at) names >>= finished contract view ts) (sym kind)
      ∙ ap (λ (text : List ℕ). turns_run contract view text l.kind (block_run contract view l.each.now) (left_in l.source l.at) names >>= finished contract view ts) (sym called)
      ∙ sym (spend_none (finished contract view (task.Loop l ∷ ts) names))

  -- ---- statements

  pub next_statement : (ss : List Statement) (s : Statement) (rest : Bor (List Statement)) (names : List Named) (ts : List Task)
      → 1 ≤ length ss → s ≡ get_or ss 0 s → rest.now ≡ take (length ss - 1) (drop 1 ss)
      → (all_run contract view (map (statement_run contract view) ss) names >>= finished contract view ts)
      ≡ spend 1 (action_run contract view (out-Statement s).action (out-Statement s).place names >>= finished contract view (task.Statements rest ∷ ts))
  next_statement ss s rest names ts some first behind_it =
      ap (λ (more : List Statement). all_run contract view (map (statement_run contract view) more) names >>= finished contract view ts)
      (opened_front ss s some first ∙ ap (λ (more : List Statement). s ∷ more) (sym behind_it))
      ∙ bind_bind (statement_run contract view s names) (λ b. all_run contract view (map (statement_run contract view) rest.now) b) (finished contract view ts)
      ∙ ap (λ r. r >>= finished contract view (task.Statements rest ∷ ts)) (statement_is contract view s names)
      ∙ spend_bind 1 (action_run contract view (out-Statement s).action (out-Statement s).place names) (finished contract view (task.Statements rest ∷ ts))

pub ruleset items_left = (item_left, no_item)

-- ---- calls

module _ (scene : Scene) where
  -- a block is done next
  pub block_acts : (done : Unit) (b : Block) (ss : Bor (List Statement)) (n : ℕ) (before after : Running) → before.frames.items ≡ [] → ss.now ≡ (out-Block b).statements → n ≡ length before.names
      → after.tasks.items ≡ task.Statements ss ∷ task.Leave n ∷ before.tasks.items → after.names ≡ before.names → after.frames.items ≡ before.frames.items
      → TasksAct scene (Ok done) 0 (then_left scene before.tasks.items (block_run scene.contract.now scene.view.now b before.names)) after
  block_acts done b ss n before after idle opened count tasks names frames = (
    entered scene.contract.now scene.view.now b ss before.names before.tasks.items opened
        ∙ ap (λ (i : ℕ). finished scene.contract.now scene.view.now (task.Statements ss ∷ task.Leave i ∷ before.tasks.items) before.names) (sym count)
        ∙ ap (λ (ts : List Task). finished scene.contract.now scene.view.now ts before.names) (sym tasks)
        ∙ ap (λ (ns : List Named). finished scene.contract.now scene.view.now after.tasks.items ns) (sym names)
        ∙ sym (spend_none (left_to scene after.tasks.items after.names)),
    frames ∙ idle,
  )

  -- one of two blocks is done next
  pub one_chosen : (answer : Result Unit Stop) (e : Expr) (b : Block) (other : Option (Bor Block)) (place n : ℕ) (before mid after : Running)
      → condition scene.contract.now scene.view.now e place before.names ≡ Gave true n → mid.names ≡ before.names → mid.tasks.items ≡ before.tasks.items
      → TasksAct scene answer 0 (then_left scene mid.tasks.items (block_run scene.contract.now scene.view.now b mid.names)) after
      → TasksAct scene answer n (then_left scene before.tasks.items (choice_run scene.contract.now scene.view.now e b other place before.names)) after
  one_chosen answer e b other place n before mid after holds names tasks h =
      acts_spent scene answer n 0 n _ (then_left scene mid.tasks.items (block_run scene.contract.now scene.view.now b mid.names)) after (omega arith)
      (choice_one scene.contract.now scene.view.now e b other place before.names before.tasks.items n holds
      ∙ ap (λ (ts : List Task). spend n (block_run scene.contract.now scene.view.now b before.names >>= finished scene.contract.now scene.view.now ts)) (sym tasks)
      ∙ ap (λ (ns : List Named). spend n (block_run scene.contract.now scene.view.now b ns >>= finished scene.contract.now scene.view.now mid.tasks.items)) (sym names)) h

  pub other_chosen : (answer : Result Unit Stop) (e : Expr) (b : Block) (o : Bor Block) (other : Option (Bor Block)) (place n : ℕ) (before mid after : Running)
      → other ≡ Some o → condition scene.contract.now scene.view.now e place before.names ≡ Gave false n → mid.names ≡ before.names → mid.tasks.items ≡ before.tasks.items
      → TasksAct scene answer 0 (then_left scene mid.tasks.items (block_run scene.contract.now scene.view.now o.now mid.names)) after
      → TasksAct scene answer n (then_left scene before.tasks.items (choice_run scene.contract.now scene.view.now e b other place before.names)) after
  other_chosen answer e b o other place n before mid after is holds names tasks h =
      acts_spent scene answer n 0 n _ (then_left scene mid.tasks.items (block_run scene.contract.now scene.view.now o.now mid.names)) after (omega arith)
      (choice_other scene.contract.now scene.view.now e b o other place before.names before.tasks.items n is holds
      ∙ ap (λ (ts : List Task). spend n (block_run scene.contract.now scene.view.now o.now before.names >>= finished scene.contract.now scene.view.now ts)) (sym tasks)
      ∙ ap (λ (ns : List Named). spend n (block_run scene.contract.now scene.view.now o.now ns >>= finished scene.contract.now scene.view.now mid.tasks.items)) (sym names)) h

  pub none_chosen : (e : Expr) (b : Block) (other : Option (Bor Block)) (place n : ℕ) (before after : Running)
      → other ≡ None → condition scene.contract.now scene.view.now e place before.names ≡ Gave false n → after.names ≡ before.names → after.tasks.items ≡ before.tasks.items
      → then_left scene before.tasks.items (choice_run scene.contract.now scene.view.now e b other place before.names) ≡ spend n (left_to scene after.tasks.items after.names)
  none_chosen e b other place n before after is holds names tasks =
      choice_none scene.contract.now scene.view.now e b other place before.names before.tasks.items n is holds
      ∙ ap (λ (ts : List Task). spend n (finished scene.contract.now scene.view.now ts before.names)) (sym tasks)
      ∙ ap (λ (ns : List Named). spend n (finished scene.contract.now scene.view.now after.tasks.items ns)) (sym names)

  -- the next of statements begins
  pub statement_acts : (answer : Result Unit Stop) (ss : List Statement) (s : Statement) (rest : Bor (List Statement)) (m n : ℕ) (before mid after : Running)
      → 1 ≤ length ss → s ≡ get_or ss 0 s → rest.now ≡ take (length ss - 1) (drop 1 ss) → n ≡ 1 + m → mid.tasks.items ≡ task.Statements rest ∷ before.tasks.items → mid.names ≡ before.names
      → TasksAct scene answer m (then_left scene mid.tasks.items (action_run scene.contract.now scene.view.now (out-Statement s).action (out-Statement s).place mid.names)) after
      → TasksAct scene answer n (then_left scene before.tasks.items (all_run scene.contract.now scene.view.now (map (statement_run scene.contract.now scene.view.now) ss) before.names)) after
  statement_acts answer ss s rest m n before mid after some first behind_it more tasks names h =
      acts_spent scene answer 1 m n _ (then_left scene mid.tasks.items (action_run scene.contract.now scene.view.now (out-Statement s).action (out-Statement s).place mid.names)) after more
      (next_statement scene.contract.now scene.view.now ss s rest before.names before.tasks.items some first behind_it
      ∙ ap (λ (ts : List Task). spend 1 (action_run scene.contract.now scene.view.now (out-Statement s).action (out-Statement s).place before.names >>= finished scene.contract.now scene.view.now ts)) (sym tasks)
      ∙ ap (λ (ns : List Named). spend 1 (action_run scene.contract.now scene.view.now (out-Statement s).action (out-Statement s).place ns >>= finished scene.contract.now scene.view.now mid.tasks.items)) (sym names)) h

  -- a turn begins
  pub turn_acts : (done : Unit) (l next : Loop) (ss : Bor (List Statement)) (d : Datum) (count n : ℕ) (before mid after : Running)
      → Some d ≡ first_datum (left_in l.source l.at) → next ≡ record l { at = l.at + 1 } → ss.now ≡ (out-Block l.each.now).statements → count ≡ length before.names → n ≡ 1
      → mid.tasks.items ≡ task.Loop next ∷ before.tasks.items → mid.names ≡ with_named before.names l.name.now l.kind d → mid.frames.items ≡ []
      → after.tasks.items ≡ task.Statements ss ∷ task.Leave count ∷ mid.tasks.items → after.names ≡ mid.names → after.frames.items ≡ mid.frames.items
      → TasksAct scene (Ok done) n (left_to scene (task.Loop l ∷ before.tasks.items) before.names) after
  turn_acts done l next ss d count n before mid after is behind_it opened counted one tasks names idle tasks2 names2 frames2 = (
    loop_turn scene.contract.now scene.view.now l next ss d before.names before.tasks.items is behind_it opened
        ∙ ap (λ (i : ℕ). spend 1 (finished scene.contract.now scene.view.now (task.Statements ss ∷ task.Leave i ∷ task.Loop next ∷ before.tasks.items) (with_named before.names l.name.now l.kind d))) (sym counted)
        ∙ ap (λ (ts : List Task). spend 1 (finished scene.contract.now scene.view.now (task.Statements ss ∷ task.Leave count ∷ ts) (with_named before.names l.name.now l.kind d))) (sym tasks)
        ∙ ap (λ (ts : List Task). spend 1 (finished scene.contract.now scene.view.now ts (with_named before.names l.name.now l.kind d))) (sym tasks2)
        ∙ ap (λ (ns : List Named). spend 1 (finished scene.contract.now scene.view.now after.tasks.items ns)) (sym (names2 ∙ names))
        ∙ ap (λ (i : ℕ). spend i (left_to scene after.tasks.items after.names)) (sym one),
    frames2 ∙ idle,
  )

-- ---- what is left to do

pub block_smaller : (b : Block) (ss : Bor (List Statement)) (n : ℕ) (before after : List Task) → ss.now ≡ (out-Block b).statements
    → after ≡ task.Statements ss ∷ task.Leave n ∷ before → tasks_work after ≡ work_of_block b + tasks_work before
block_smaller b ss n before after opened tasks =
    let e : tasks_work after ≡ all_work (map work_of_statement ss.now) + (1 + tasks_work before) = ap tasks_work tasks in
    let f : all_work (map work_of_statement ss.now) ≡ all_work (map work_of_statement (out-Block b).statements) = ap (λ (xs : List Statement). all_work (map work_of_statement xs)) opened in
    omega (arith, e, f, block_left b)

pub turn_smaller : (l next : Loop) (ss : Bor (List Statement)) (n : ℕ) (before mid after : List Task) → l.at < most_turns l.source → next ≡ record l { at = l.at + 1 }
    → ss.now ≡ (out-Block l.each.now).statements → mid ≡ task.Loop next ∷ before → after ≡ task.Statements ss ∷ task.Leave n ∷ mid → tasks_work after < loop_work l + tasks_work before
turn_smaller l next ss n before mid after more behind_it opened tasks tasks2 =
    let w : ℕ = work_of_block l.each.now in
    let e : tasks_work after ≡ all_work (map work_of_statement ss.now) + (1 + tasks_work mid) = ap tasks_work tasks2 in
    let f : all_work (map work_of_statement ss.now) ≡ all_work (map work_of_statement (out-Block l.each.now).statements) = ap (λ (xs : List Statement). all_work (map work_of_statement xs)) opened in
    let g : tasks_work mid ≡ turns_work (most_turns l.source - (l.at + 1)) w + tasks_work before = ap tasks_work tasks ∙ ap (λ (n : Loop). loop_work n + tasks_work before) behind_it in
    let h : most_turns l.source - l.at ≡ suc (most_turns l.source - (l.at + 1)) = omega (arith, more) in
    let i : (most_turns l.source - l.at) * (w + 1) ≡ (most_turns l.source - (l.at + 1)) * (w + 1) + (w + 1) = ap (λ (n : ℕ). n * (w + 1)) h ∙ suc-mul (most_turns l.source - (l.at + 1)) (w + 1) in
    omega (arith, e, f, g, i, block_left l.each.now)

pub statement_smaller : (answer : Result Unit Stop) (ss : List Statement) (s : Statement) (rest : Bor (List Statement)) (before mid after : List Task)
    → 1 ≤ length ss → s ≡ get_or ss 0 s → rest.now ≡ take (length ss - 1) (drop 1 ss) → mid ≡ task.Statements rest ∷ before → OnOk answer (tasks_work after < work_of_action (out-Statement s).action + tasks_work mid)
    → OnOk answer (tasks_work after < all_work (map work_of_statement ss) + tasks_work before)
statement_smaller (Ok done) ss s rest before mid after some first behind_it tasks less =
    let e : all_work (map work_of_statement ss) ≡ work_of_statement s + 1 + all_work (map work_of_statement rest.now) = ap (λ (xs : List Statement). all_work (map work_of_statement xs)) (opened_front ss s some first ∙ ap (λ (more : List Statement). s ∷ more) (sym behind_it)) in
    let f : tasks_work mid ≡ all_work (map work_of_statement rest.now) + tasks_work before = ap tasks_work tasks in
    omega (arith, e, f, less, statement_left s)
statement_smaller (Err e) ss s rest before mid after some first behind_it tasks less = tt
