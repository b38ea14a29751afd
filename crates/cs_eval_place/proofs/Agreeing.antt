-- A check says yes with places exactly where it says yes without.
use Rattle.std.proofs.Common.{◌≡◌, ℕ, Bool, true, false, Option, None, Some, List, [], ◌∷◌, map, take, length, refl, sym, ap, ◌∙◌, subst}
use Rattle.std.specs.Prelude.{min, option_and_then, Result, Ok, Err, IfOk, if◌then◌else◌}
use Rattle.cs_lang_token.specs.declared.token.Text.{Text}
use Rattle.cs_lang_token.specs.declared.limits.TheConstants.{MOST_ITEMS, MOST_TURNS}
use Rattle.cs_lang.specs.declared.tree.ContractTree.{ContractTree}
use Rattle.cs_lang.specs.declared.tree.Method.{Method}
use Rattle.cs_lang.specs.declared.tree.Expr.{Expr}
use Rattle.cs_lang.specs.declared.tree.Block.{Block, roll-Block, map-Block}
use Rattle.cs_lang.specs.declared.tree.Statement.{Statement, roll-Statement, map-Statement}
use Rattle.cs_lang.specs.declared.tree.Action.{Action, roll-Action, map-Action}
use Rattle.cs_lang.specs.declared.tree.Action.TheOpen.{Block-F, Statement-F, Action-F}
use Rattle.cs_lang.specs.declared.tree.Action.TheFolds.{ind-Block, fold-roll-Action, fold-roll-Block, fold-roll-Statement}
use Rattle.cs_types_kinds.specs.declared.kind.Kind.{Kind}
use Rattle.cs_types_kinds.specs.Kinds.{int_kind as int_kind, item_kind as item_kind}
use Rattle.cs_eval_values.specs.declared.stop.Cause.TheVariants as cause
use Rattle.cs_eval_values.specs.declared.view.View.{View}
use Rattle.cs_eval_values.specs.Runs.{Run, Gave, Answered, Trapped, gives, answers, spend, or_trap, through, ◌>>=◌ as ◌then◌}
use Rattle.cs_eval_values.specs.Datums.{Datum, items_of}
use Rattle.cs_eval_values.specs.Namings.{Named, with_named}
use Rattle.cs_eval_values.specs.Filling.{filled}
use Rattle.cs_eval.proofs.RunLaws.{bind_bind, gives_bind, under}
use Rattle.cs_eval_law.specs.Acting.{Naming, numbers, value_run, value_kind, condition, if_run, answer_run, turn_run, turns_run, for_in_run, all_run, action_means, action_run, block_run, statement_run}
use Rattle.cs_eval_law.specs.Checks.{method_named, fitted_run, method_run, check_run, yes_of, says}
use Rattle.cs_eval_law.proofs.BlockTrees.{action_from, meant_action, meant_block, meant_statement}
use Rattle.cs_eval_place.specs.declared.verdict.Verdict.{Verdict}
use Rattle.cs_eval_place.specs.Located.{Located, Onward, AnsweredAt, TrappedAt, located, ◌>>=◌, located_through}
use Rattle.cs_eval_place.specs.Locating.{Locating, chosen, if_located, answered_at, answer_located, turn_located, turns_located, looped_over, for_in_located, all_located, action_locates, block_locates, statement_locates, action_located, block_located, statement_located, fitted_located, method_located, check_located, verdict_at, is_yes, verdict_of_check}

-- ---- without places

-- the places of answers left out
abbrev placeless : {X : Type 0} → Located X → Located X
placeless (Onward x) = Onward x
placeless (AnsweredAt b place) = AnsweredAt b 0
placeless (TrappedAt place) = TrappedAt place

located_spend : {X : Type 0} (n : ℕ) (r : Run X) → located (spend n r) ≡ located r
located_spend n (Gave x m) = refl
located_spend n (Answered b m) = refl
located_spend n (Trapped why place m) = refl

placeless_located : {X : Type 0} (r : Run X) → placeless (located r) ≡ located r
placeless_located (Gave x n) = refl
placeless_located (Answered b n) = refl
placeless_located (Trapped why place n) = refl

placeless_bind : {A B : Type 0} (t : Located A) (f : A → Located B) → placeless (t >>= f) ≡ (placeless t >>= λ x. placeless (f x))
placeless_bind (Onward x) f = refl
placeless_bind (AnsweredAt b place) f = refl
placeless_bind (TrappedAt place) f = refl

by_run : {A B : Type 0} (r : Run A) (f : A → Located B) (g : A → Run B) → ((x : A) → placeless (f x) ≡ located (g x))
    → (located r >>= λ x. placeless (f x)) ≡ located (r then g)
by_run (Gave x n) f g same = same x ∙ sym (located_spend n (g x))
by_run (Answered b n) f g same = refl
by_run (Trapped why place n) f g same = refl

-- one thing and then another
bind_along : {A B : Type 0} (t : Located A) (r : Run A) (f : A → Located B) (g : A → Run B) → placeless t ≡ located r → ((x : A) → placeless (f x) ≡ located (g x))
    → placeless (t >>= f) ≡ located (r then g)
bind_along {A} t r f g is same =
    placeless_bind t f ∙ ap (λ (s : Located A). s >>= λ x. placeless (f x)) is ∙ by_run r f g same

through_along : {A X : Type 0} (f : A → X → Located A) (g : A → X → Run A) → ((a : A) (x : X) → placeless (f a x) ≡ located (g a x))
    → (xs : List X) (a : A) → placeless (located_through f a xs) ≡ located (through g a xs)
through_along f g same [] a = refl
through_along f g same (x ∷ xs) a =
    bind_along (f a x) (g a x) (λ b. located_through f b xs) (λ b. through g b xs) (same a x) (through_along f g same xs)

-- ---- statements

abbrev Same : Locating → Naming → Type 0
Same f g = (names : List Named) → placeless (f names) ≡ located (g names)

module _ (contract : ContractTree) (view : View) where
  choice_same : (block other : Locating) (one two : Naming) → Same block one → Same other two → (names : List Named) (holds : Bool)
      → placeless (chosen contract view block other names holds) ≡ located (if holds then one names else two names)
  choice_same block other one two same same2 names true = same names
  choice_same block other one two same same2 names false = same2 names

  if_same : (e : Expr) (place : ℕ) (block other : Locating) (one two : Naming) → Same block one → Same other two
      → Same (if_located contract view e block other place) (if_run contract view e one two place)
  if_same e place block other one two same same2 names =
      bind_along (located (condition contract view e place names)) (condition contract view e place names)
      (chosen contract view block other names) (λ holds. if holds then one names else two names)
      (placeless_located (condition contract view e place names)) (choice_same block other one two same same2 names)

  answer_same : (e : Expr) (place : ℕ) → Same (answer_located contract view e place) (answer_run contract view e place)
  answer_same e place names =
      bind_along (located (condition contract view e place names)) (condition contract view e place names)
      (answered_at contract view place) answers (placeless_located (condition contract view e place names)) (λ b. refl)

  turn_same : (name : List ℕ) (k : Kind) (each : Locating) (run : Naming) → Same each run → (names : List Named) (d : Datum)
      → placeless (turn_located contract view name k each names d) ≡ located (turn_run contract view name k run names d)
  turn_same name k each run same names d =
      bind_along (each (with_named names name k d)) (run (with_named names name k d))
      (λ after. Onward (take (length names) after)) (λ after. gives (take (length names) after)) (same (with_named names name k d)) (λ after. refl)
      ∙ sym (located_spend 1 (run (with_named names name k d) then λ after. gives (take (length names) after)))

  turns_same : (name : List ℕ) (k : Kind) (each : Locating) (run : Naming) → Same each run → (items : List Datum)
      → Same (turns_located contract view name k each items) (turns_run contract view name k run items)
  turns_same name k each run same items names =
      through_along (turn_located contract view name k each) (turn_run contract view name k run) (turn_same name k each run same) items names

  -- what a loop goes over, and then its turns
  looped_is : (name : Text) (list : Expr) (run : Naming) (names : List Named)
      → (looped_over contract view name list names then λ over. turns_run contract view name.bytes over.0 run over.1 names) ≡ for_in_run contract view name list run names
  looped_is name list run names =
      let g : Kind × List Datum → Run (List Named) = λ over. turns_run contract view name.bytes over.0 run over.1 names in
      let a : Run Kind = or_trap cause.Misfit name.place (option_and_then item_kind (value_kind contract view list names)) in
      let b : Run Datum = value_run contract view list names in
      let c : Datum → Run (List Datum) = λ d. or_trap cause.Misfit name.place (items_of d) in
      let made : Kind → List Datum → Run (Kind × List Datum) = λ k items. gives (k, take MOST_ITEMS items) in
      bind_bind a (λ k. b then λ d. c d then made k) g
      ∙ under a (λ k. (b then λ d. c d then made k) then g) (λ k. b then λ d. c d then λ items. g (k, take MOST_ITEMS items))
      (λ k. bind_bind b (λ d. c d then made k) g
      ∙ under b (λ d. (c d then made k) then g) (λ d. c d then λ items. g (k, take MOST_ITEMS items))
      (λ d. bind_bind (c d) (made k) g
      ∙ under (c d) (λ items. made k items then g) (λ items. g (k, take MOST_ITEMS items)) (λ items. gives_bind (k, take MOST_ITEMS items) g)))

  for_in_same : (name : Text) (list : Expr) (each : Locating) (run : Naming) → Same each run
      → Same (for_in_located contract view name list each) (for_in_run contract view name list run)
  for_in_same name list each run same names =
      bind_along (located (looped_over contract view name list names)) (looped_over contract view name list names)
      (λ over. turns_located contract view name.bytes over.0 each over.1 names) (λ over. turns_run contract view name.bytes over.0 run over.1 names)
      (placeless_located (looped_over contract view name list names)) (λ over. turns_same name.bytes over.0 each run same over.1 names)
      ∙ ap (λ (r : Run (List Named)). located r) (looped_is name list run names)

-- ---- over whole trees

abbrev ActionClaim : Action → Type 0
ActionClaim a = (contract : ContractTree) (view : View) (place : ℕ) → Same (action_located contract view a place) (action_run contract view a place)

abbrev pub BlockAgrees : Block → Type 0
BlockAgrees b = (contract : ContractTree) (view : View) → Same (block_located contract view b) (block_run contract view b)

abbrev StatementClaim : Statement → Type 0
StatementClaim s = (contract : ContractTree) (view : View) → Same (statement_located contract view s) (statement_run contract view s)

abbrev A : Type 0
A = (a : Action) × ActionClaim a

abbrev B : Type 0
B = (b : Block) × BlockAgrees b

abbrev S : Type 0
S = (s : Statement) × StatementClaim s

abbrev action_below : Action-F A B S → Action-F Action Block Statement
action_below y = map-Action A B S Action Block Statement (λ e. e.0) (λ e. e.0) (λ e. e.0) y

abbrev block_below : Block-F A B S → Block-F Action Block Statement
block_below y = map-Block A B S Action Block Statement (λ e. e.0) (λ e. e.0) (λ e. e.0) y

abbrev statement_below : Statement-F A B S → Statement-F Action Block Statement
statement_below y = map-Statement A B S Action Block Statement (λ e. e.0) (λ e. e.0) (λ e. e.0) y

module _ (contract : ContractTree) (view : View) where
  abbrev action_whence : Action-F Action Block Statement → Action-F (ℕ → Locating) Locating Locating
  action_whence x = map-Action Action Block Statement (ℕ → Locating) Locating Locating (action_located contract view) (block_located contract view) (statement_located contract view) x

  located_action : (x : Action-F Action Block Statement)
      → action_located contract view (roll-Action x) ≡ action_locates contract view (action_whence x)
  unfolding action_located block_located statement_located
  located_action x = fold-roll-Action (ℕ → Locating) Locating Locating (action_locates contract view) (block_locates contract view) (statement_locates contract view) x

  located_block : (x : Block-F Action Block Statement)
      → block_located contract view (roll-Block x) ≡ block_locates contract view (map-Block Action Block Statement (ℕ → Locating) Locating Locating (action_located contract view) (block_located contract view) (statement_located contract view) x)
  unfolding action_located block_located statement_located
  located_block x = fold-roll-Block (ℕ → Locating) Locating Locating (action_locates contract view) (block_locates contract view) (statement_locates contract view) x

  located_statement : (x : Statement-F Action Block Statement)
      → statement_located contract view (roll-Statement x) ≡ statement_locates contract view (map-Statement Action Block Statement (ℕ → Locating) Locating Locating (action_located contract view) (block_located contract view) (statement_located contract view) x)
  unfolding action_located block_located statement_located
  located_statement x = fold-roll-Statement (ℕ → Locating) Locating Locating (action_locates contract view) (block_locates contract view) (statement_locates contract view) x

same_along : (f f' : Locating) (g g' : Naming) → f ≡ f' → g ≡ g' → Same f' g' → Same f g
same_along f f' g g' is same h =
    let P : Locating → Type 0 = λ k. Same k g in
    let Q : Naming → Type 0 = λ k. Same f' k in
    subst P (sym is) (subst Q (sym same) h)

all_same : (ss : List S) (contract : ContractTree) (view : View)
    → Same (all_located contract view (map (statement_located contract view) (map (λ e. e.0) ss))) (all_run contract view (map (statement_run contract view) (map (λ e. e.0) ss)))
all_same [] contract view names = refl
all_same (s ∷ ss) contract view names =
    bind_along (statement_located contract view s.0 names) (statement_run contract view s.0 names)
    (λ after. all_located contract view (map (statement_located contract view) (map (λ e. e.0) ss)) after)
    (λ after. all_run contract view (map (statement_run contract view) (map (λ e. e.0) ss)) after)
    (s.1 contract view names) (all_same ss contract view)

actions : (contract : ContractTree) (view : View) (place : ℕ) (y : Action-F A B S)
    → Same (action_locates contract view (action_whence contract view (action_below y)) place) (action_means contract view (action_from contract view (action_below y)) place)
actions contract view place (Action-F.Let name e) names = placeless_located _
actions contract view place (Action-F.Set name e) names = placeless_located _
actions contract view place (Action-F.If e b) names = if_same contract view e place (block_located contract view b.0) Onward (block_run contract view b.0) gives (b.1 contract view) (λ ns. refl) names
actions contract view place (Action-F.IfElse e b o) names = if_same contract view e place (block_located contract view b.0) (block_located contract view o.0) (block_run contract view b.0) (block_run contract view o.0) (b.1 contract view) (o.1 contract view) names
actions contract view place (Action-F.ForIn name e b) names = for_in_same contract view name e (block_located contract view b.0) (block_run contract view b.0) (b.1 contract view) names
actions contract view place (Action-F.ForTo name count b) names = turns_same contract view name.bytes int_kind (block_located contract view b.0) (block_run contract view b.0) (b.1 contract view) (numbers (min count MOST_TURNS) 0) names
actions contract view place (Action-F.Make slot object values) names = refl
actions contract view place (Action-F.Call bound method arguments) names = refl
actions contract view place (Action-F.Answer e) names = answer_same contract view e place names

action_step : (x : Action-F Action Block Statement) (y : Action-F A B S) → action_below y ≡ x → ActionClaim (roll-Action x)
action_step x y is = subst (λ z. ActionClaim (roll-Action z)) is (λ contract view place.
    same_along _ _ _ _ (ap (λ (f : ℕ → Locating). f place) (located_action contract view (action_below y)))
    (ap (λ (f : ℕ → Naming). f place) (meant_action contract view (action_below y))) (actions contract view place y))

block_step : (x : Block-F Action Block Statement) (y : Block-F A B S) → block_below y ≡ x → BlockAgrees (roll-Block x)
block_step x y is = subst (λ z. BlockAgrees (roll-Block z)) is (λ contract view.
    same_along _ _ _ _ (located_block contract view (block_below y)) (meant_block contract view (block_below y))
    (λ names. bind_along (all_located contract view (map (statement_located contract view) (map (λ e. e.0) y.statements)) names)
    (all_run contract view (map (statement_run contract view) (map (λ e. e.0) y.statements)) names)
    (λ after. Onward (take (length names) after)) (λ after. gives (take (length names) after)) (all_same y.statements contract view names) (λ after. refl)))

statement_step : (x : Statement-F Action Block Statement) (y : Statement-F A B S) → statement_below y ≡ x → StatementClaim (roll-Statement x)
statement_step x y is = subst (λ z. StatementClaim (roll-Statement z)) is (λ contract view.
    same_along _ _ _ _ (located_statement contract view (statement_below y)) (meant_statement contract view (statement_below y))
    (λ names. y.action.1 contract view y.place names ∙ sym (located_spend 1 (action_run contract view y.action.0 y.place names))))

block_agrees : (b : Block) → BlockAgrees b
block_agrees = ind-Block ActionClaim BlockAgrees StatementClaim action_step block_step statement_step

-- ---- checks

fitted_agrees : (contract : ContractTree) (m : Method) (view : View) (o : Option (List Named)) → placeless (fitted_located contract m view o) ≡ located (fitted_run contract m view o)
fitted_agrees contract m view None = refl
fitted_agrees contract m view (Some names) = block_agrees m.check contract view names

method_agrees : (contract : ContractTree) (view : View) (o : Option Method) → placeless (method_located contract view o) ≡ located (method_run contract view o)
method_agrees contract view None = refl
method_agrees contract view (Some m) = fitted_agrees contract m view (filled contract m view)

yes_placeless : {X : Type 0} (t : Located X) → is_yes (verdict_at t) ≡ is_yes (verdict_at (placeless t))
yes_placeless (Onward x) = refl
yes_placeless (AnsweredAt true place) = refl
yes_placeless (AnsweredAt false place) = refl
yes_placeless (TrappedAt place) = refl

yes_located : {X : Type 0} (r : Run X) → is_yes (verdict_at (located r)) ≡ yes_of r
yes_located (Gave x n) = refl
yes_located (Answered true n) = refl
yes_located (Answered false n) = refl
yes_located (Trapped why place n) = refl

pub yes_agrees : (contract : ContractTree) (method : List ℕ) (view : View) → is_yes (verdict_of_check contract method view) ≡ says contract method view
yes_agrees contract method view =
    yes_placeless (check_located contract method view)
    ∙ ap (λ (t : Located (List Named)). is_yes (verdict_at t)) (method_agrees contract view (method_named contract.methods method))
    ∙ yes_located (check_run contract method view)

pub told_agrees : {E : Type 0} (told : Result Verdict E) (contract : ContractTree) (method : List ℕ) (view : View)
    → IfOk told (λ verdict. verdict ≡ verdict_of_check contract method view) → IfOk told (λ verdict. is_yes verdict ≡ says contract method view)
told_agrees (Ok verdict) contract method view is = ap (λ (v : Verdict). is_yes v) is ∙ yes_agrees contract method view
told_agrees (Err e) contract method view is = tt
