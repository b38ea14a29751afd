-- Over whole blocks: a check of an accepted contract meets no value of a wrong kind.
use Rattle.std.proofs.Common.{◌≡◌, ℕ, Bool, true, false, List, [], ◌∷◌, map, length, take, Some, Ok, refl, sym, ap, ◌∙◌, subst}
use Rattle.std.specs.Prelude.{◌&&◌, ◌||◌}
use Rattle.cs_lang_token.specs.declared.token.Text.{Text}
use Rattle.cs_lang_token.specs.declared.limits.TheConstants.{MOST_TURNS}
use Rattle.cs_lang.specs.declared.tree.ContractTree.{ContractTree}
use Rattle.cs_lang.specs.declared.tree.Expr.{Expr}
use Rattle.cs_lang.specs.declared.tree.Block.{Block, roll-Block, map-Block}
use Rattle.cs_lang.specs.declared.tree.Statement.{Statement, roll-Statement, map-Statement}
use Rattle.cs_lang.specs.declared.tree.Action.{Action, roll-Action, map-Action}
use Rattle.cs_lang.specs.declared.tree.Action.TheOpen.{Block-F, Statement-F, Action-F}
use Rattle.cs_lang.specs.declared.tree.Action.TheFolds.{ind-Block}
use Rattle.cs_lang.specs.Fits.{every, itself, number_fits, expr_fits, action_layer_fits, action_fits, block_fits, statement_fits}
use Rattle.cs_types_kinds.specs.declared.kind.Kind.{Kind}
use Rattle.cs_types_kinds.specs.declared.scope.Use.TheVariants as usage
use Rattle.cs_types_kinds.specs.declared.expressions.Judged.{Judged}
use Rattle.cs_types_kinds.specs.Told.{Told}
use Rattle.cs_types_kinds.specs.Kinds.{int_kind as int_kind}
use Rattle.cs_types_kinds.specs.Scopes.{InSight, with_name, sight_with_names}
use Rattle.cs_types_kinds.specs.Parts.{part_of}
use Rattle.cs_types.specs.Stating.{Added, Blocked, Stated}
use Rattle.cs_types.specs.Blocks.{Acted, action_from_parts, block_told, statement_told, action_told}
use Rattle.cs_eval_values.specs.declared.stop.Cause.TheVariants as cause
use Rattle.cs_eval_values.specs.declared.view.View.{View}
use Rattle.cs_eval_values.specs.Runs.{Run, gives, traps}
use Rattle.cs_eval_values.specs.Namings.{Named}
use Rattle.cs_eval_law.specs.Acting.{Naming, value_kind, action_means, block_run, statement_run, action_run}
use Rattle.cs_eval_law.proofs.Kinded.{true_and}
use Rattle.cs_eval_law.proofs.ActFits.{AllOnes}
use Rattle.cs_eval_law.proofs.ActSound.{Good, ActSound, BlockSound, TurnSound, OneSound, AllSound, let_sound, set_sound, if_sound, if_else_sound, answer_sound, never_sound, for_in_sound, for_to_sound, stated_sound, block_sound}
use Rattle.cs_eval_law.proofs.BlockTrees.{action_parts, action_from, action_fit, told_action, told_block, told_statement, meant_action, meant_block, meant_statement, fit_action, fit_block, fit_statement}
use Rattle.cs_eval_law.proofs.BlockFits.{one_claim, statement_costs}
use Rattle.cs_eval_law.proofs.TreeFits as fits
use Rattle.cs_eval_law.proofs.TreeSound.{expr_yields}

abbrev ActionClaim : Action → Type 0
ActionClaim a = action_fits a ≡ true → (place : ℕ) (view : View) (sight : InSight) → sight.in_check ≡ true → (names : List Named) → Good sight.contract.types sight.names names
    → ActSound sight.contract.types (action_told a place sight) (action_run sight.contract view a place names)

abbrev pub BlockYields : Block → Type 0
BlockYields b = block_fits b ≡ true → (view : View) (sight : InSight) → sight.in_check ≡ true → (names : List Named) → Good sight.contract.types sight.names names
    → BlockSound sight (block_told b sight) (block_run sight.contract view b names)

abbrev StatementClaim : Statement → Type 0
StatementClaim s = statement_fits s ≡ true → (view : View) (sight : InSight) → sight.in_check ≡ true → (names : List Named) → Good sight.contract.types sight.names names
    → ActSound sight.contract.types (statement_told s sight) (statement_run sight.contract view s names)

abbrev A : Type 0
A = (a : Action) × ActionClaim a

abbrev B : Type 0
B = (b : Block) × BlockYields b

abbrev S : Type 0
S = (s : Statement) × StatementClaim s

abbrev action_below : Action-F A B S → Action-F Action Block Statement
action_below y = map-Action A B S Action Block Statement (λ e. e.0) (λ e. e.0) (λ e. e.0) y

abbrev block_below : Block-F A B S → Block-F Action Block Statement
block_below y = map-Block A B S Action Block Statement (λ e. e.0) (λ e. e.0) (λ e. e.0) y

abbrev statement_below : Statement-F A B S → Statement-F Action Block Statement
statement_below y = map-Statement A B S Action Block Statement (λ e. e.0) (λ e. e.0) (λ e. e.0) y

act_along : (sight : InSight) (t u : Told Added) (r s : Run (List Named)) → t ≡ u → r ≡ s → ActSound sight.contract.types u s → ActSound sight.contract.types t r
act_along sight t u r s is same h =
    let P : Told Added → Type 0 = λ v. ActSound sight.contract.types v r in
    let Q : Run (List Named) → Type 0 = λ k. ActSound sight.contract.types u k in
    subst P (sym is) (subst Q (sym same) h)

block_along : (sight : InSight) (t u : Told ℕ) (r s : Run (List Named)) → t ≡ u → r ≡ s → BlockSound sight u s → BlockSound sight t r
block_along sight t u r s is same h =
    let P : Told ℕ → Type 0 = λ v. BlockSound sight v r in
    let Q : Run (List Named) → Type 0 = λ k. BlockSound sight u k in
    subst P (sym is) (subst Q (sym same) h)

turn_claim : (b : B) → block_fits b.0 ≡ true → (view : View) (sight : InSight) → sight.in_check ≡ true → (name : List ℕ) (k : Kind) → TurnSound sight name k (block_told b.0) (block_run sight.contract view b.0)
turn_claim b fit view sight checks name k names good = b.1 fit view (sight_with_names sight (with_name sight.names name k usage.Read)) checks names good

kind_is : (e : Expr) (sight : InSight) (view : View) (names : List Named) → Good sight.contract.types sight.names names → (j : Judged) → (part_of sight e).found ≡ Ok j → value_kind sight.contract view e names ≡ Some j.kind
kind_is e sight view names good j is = (fits.expr_fits e sight view names good.0 j is).0

one_sound : (s : S) → statement_fits s.0 ≡ true → (contract : ContractTree) (view : View) → OneSound contract (statement_told s.0) (statement_run contract view s.0)
one_sound s fit contract view sight of checks =
    let P : ContractTree → Type 0 = λ c. (names : List Named) → Good c.types sight.names names → ActSound c.types (statement_told s.0 sight) (statement_run c view s.0 names) in
    subst P of (s.1 fit view sight checks)

all_are_sound : (ss : List S) → every itself (map statement_fits (map (λ e. e.0) ss)) ≡ true → (contract : ContractTree) (view : View)
    → AllSound contract (map statement_told (map (λ e. e.0) ss)) (map (statement_run contract view) (map (λ e. e.0) ss))
all_are_sound [] fit contract view = tt
all_are_sound (s ∷ ss) fit contract view =
    let t = true_and (statement_fits s.0) (every itself (map statement_fits (map (λ e. e.0) ss))) fit in
    (one_sound s t.0 contract view, all_are_sound ss t.1 contract view)

all_ones : (ss : List Statement) (contract : ContractTree) (view : View) → AllOnes contract (map statement_told ss) (map (statement_run contract view) ss)
all_ones [] contract view = tt
all_ones (s ∷ ss) contract view = (one_claim (s, statement_costs s) contract view, all_ones ss contract view)

module _ (place : ℕ) (view : View) (sight : InSight) (checks : sight.in_check ≡ true) (names : List Named) (good : Good sight.contract.types sight.names names) where
  -- an action whose parts are sound
  actions : (y : Action-F A B S) → action_layer_fits (action_fit (action_below y)) ≡ true
      → ActSound sight.contract.types (action_from_parts (action_parts (action_below y)) place sight) (action_means sight.contract view (action_from sight.contract view (action_below y)) place names)
  actions (Action-F.Let name e) ok = let_sound sight view names good name e (expr_yields e ok sight view names good.0 good.1) (kind_is e sight view names good)
  actions (Action-F.Set name e) ok = set_sound sight view names good name e (expr_yields e ok sight view names good.0 good.1)
  actions (Action-F.If e b) ok =
      let t = true_and (expr_fits e) (block_fits b.0) ok in
      if_sound sight view names good e (block_told b.0) (block_run sight.contract view b.0) place (expr_yields e t.0 sight view names good.0 good.1) (b.1 t.1 view sight checks names good)
  actions (Action-F.IfElse e b o) ok =
      let u = true_and (expr_fits e && block_fits b.0) (block_fits o.0) ok in
      let t = true_and (expr_fits e) (block_fits b.0) u.0 in
      if_else_sound sight view names good e (block_told b.0) (block_told o.0) (block_run sight.contract view b.0) (block_run sight.contract view o.0) place (expr_yields e t.0 sight view names good.0 good.1) (b.1 t.1 view sight checks names good) (o.1 u.1 view sight checks names good)
  actions (Action-F.ForIn name e b) ok =
      let t = true_and (expr_fits e) (block_fits b.0) ok in
      for_in_sound sight view name e (block_told b.0) (block_run sight.contract view b.0) names good (expr_yields e t.0 sight view names good.0 good.1) (kind_is e sight view names good) (λ k. turn_claim b t.1 view sight checks name.bytes k)
  actions (Action-F.ForTo name count b) ok =
      let t = true_and (number_fits count) (block_fits b.0) ok in
      for_to_sound sight view name count (block_told b.0) (block_run sight.contract view b.0) place names good (turn_claim b t.1 view sight checks name.bytes int_kind)
  actions (Action-F.Make slot object values) ok = never_sound sight.contract.types sight.in_check place _ (traps cause.Misfit place) checks
  actions (Action-F.Call bound method arguments) ok = never_sound sight.contract.types (sight.in_check || sight.starred) place _ (traps cause.Misfit place) (ap (λ b. b || sight.starred) checks)
  actions (Action-F.Answer e) ok = answer_sound sight view names good e place (expr_yields e ok sight view names good.0 good.1)

action_step : (x : Action-F Action Block Statement) (y : Action-F A B S) → action_below y ≡ x → ActionClaim (roll-Action x)
action_step x y is = subst (λ z. ActionClaim (roll-Action z)) is (λ fit place view sight checks names good.
    act_along sight _ _ _ _ (ap (λ (f : Acted). f place sight) (told_action (action_below y)))
    (ap (λ (f : ℕ → Naming). f place names) (meant_action sight.contract view (action_below y)))
    (actions place view sight checks names good y (sym (fit_action (action_below y)) ∙ fit)))

block_step : (x : Block-F Action Block Statement) (y : Block-F A B S) → block_below y ≡ x → BlockYields (roll-Block x)
block_step x y is = subst (λ z. BlockYields (roll-Block z)) is (λ fit view sight checks names good.
    block_along sight _ _ _ _ (ap (λ (f : Blocked). f sight) (told_block (block_below y))) (ap (λ (f : Naming). f names) (meant_block sight.contract view (block_below y)))
    (block_sound sight.contract view (map statement_told (map (λ e. e.0) y.statements)) (map (statement_run sight.contract view) (map (λ e. e.0) y.statements))
    (all_are_sound y.statements (sym (fit_block (block_below y)) ∙ fit) sight.contract view) (all_ones (map (λ e. e.0) y.statements) sight.contract view) sight refl checks names good))

statement_step : (x : Statement-F Action Block Statement) (y : Statement-F A B S) → statement_below y ≡ x → StatementClaim (roll-Statement x)
statement_step x y is = subst (λ z. StatementClaim (roll-Statement z)) is (λ fit view sight checks names good.
    act_along sight _ _ _ _ (ap (λ (f : Stated). f sight) (told_statement (statement_below y))) (ap (λ (f : Naming). f names) (meant_statement sight.contract view (statement_below y)))
    (stated_sound sight.contract.types (action_told y.action.0 y.place sight) (action_run sight.contract view y.action.0 y.place names)
    (y.action.1 (sym (fit_statement (statement_below y)) ∙ fit) y.place view sight checks names good)))

pub block_yields : (b : Block) → BlockYields b
block_yields = ind-Block ActionClaim BlockYields StatementClaim action_step block_step statement_step
