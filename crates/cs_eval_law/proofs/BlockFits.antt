-- Over whole blocks: what was told of a statement or a block is what it does.
use Rattle.std.proofs.Common.{◌≡◌, ℕ, Bool, true, List, [], ◌∷◌, map, length, take, Ok, refl, sym, ap, ◌∙◌, subst}
use Rattle.std.specs.Prelude.{◌||◌}
use Rattle.cs_lang_token.specs.declared.token.Text.{Text}
use Rattle.cs_lang.specs.declared.tree.ContractTree.{ContractTree}
use Rattle.cs_lang.specs.declared.tree.Expr.{Expr}
use Rattle.cs_lang.specs.declared.tree.Block.{Block, roll-Block, map-Block}
use Rattle.cs_lang.specs.declared.tree.Statement.{Statement, roll-Statement, map-Statement}
use Rattle.cs_lang.specs.declared.tree.Action.{Action, roll-Action, map-Action}
use Rattle.cs_lang.specs.declared.tree.Action.TheOpen.{Block-F, Statement-F, Action-F}
use Rattle.cs_lang.specs.declared.tree.Action.TheFolds.{ind-Block, ind-Statement}
use Rattle.cs_types_kinds.specs.declared.kind.Kind.{Kind}
use Rattle.cs_types_kinds.specs.declared.scope.Use.TheVariants as usage
use Rattle.cs_types_kinds.specs.Told.{Told}
use Rattle.cs_types_kinds.specs.Kinds.{int_kind as int_kind}
use Rattle.cs_types_kinds.specs.Scopes.{InSight, with_name, sight_with_names}
use Rattle.cs_types.specs.Stating.{Added, Blocked, Stated, make_judged, call_judged}
use Rattle.cs_types.specs.Blocks.{Acted, part, parts, action_from_parts, block_told, statement_told, action_told}
use Rattle.cs_eval_values.specs.declared.stop.Cause.TheVariants as cause
use Rattle.cs_eval_values.specs.declared.view.View.{View}
use Rattle.cs_eval_values.specs.Runs.{Run, gives, traps, spend, ◌>>=◌}
use Rattle.cs_eval_values.specs.Namings.{Named}
use Rattle.cs_eval_law.specs.Acting.{Naming, all_run, action_means, block_run, statement_run, action_run}
use Rattle.cs_eval_law.proofs.Alike.{Alike}
use Rattle.cs_eval_law.proofs.ActFits.{ActFits, BlockFits, Keeps, TurnFits, OneFits, AllOnes, let_fits, set_fits, if_fits, if_else_fits, answer_fits, never_fits, for_in_fits, for_to_fits, stated_fits, stated_kept, block_fits, let_kept, set_kept, if_kept, if_else_kept, for_in_kept, for_to_kept, answer_kept, never_kept}
use Rattle.cs_eval_law.proofs.TreeFits.{expr_fits}
use Rattle.cs_eval_law.proofs.BlockTrees.{action_parts, action_from, told_action, told_block, told_statement, meant_action, meant_block, meant_statement}

-- ---- claims, wherever the part stands in a check

abbrev pub Claimed : InSight → Told Added → Naming → Type 0
Claimed sight told run = Keeps sight told × ((names : List Named) → Alike sight.names names → ActFits told (run names))

abbrev ActionClaim : Action → Type 0
ActionClaim a = (place : ℕ) (view : View) (sight : InSight) → sight.in_check ≡ true → Claimed sight (action_told a place sight) (action_run sight.contract view a place)

abbrev pub BlockClaim : Block → Type 0
BlockClaim b = (view : View) (sight : InSight) → sight.in_check ≡ true → (names : List Named) → Alike sight.names names → BlockFits sight (block_told b sight) (block_run sight.contract view b names)

abbrev pub StatementClaim : Statement → Type 0
StatementClaim s = (view : View) (sight : InSight) → sight.in_check ≡ true → Claimed sight (statement_told s sight) (statement_run sight.contract view s)

abbrev A : Type 0
A = (a : Action) × ActionClaim a

abbrev B : Type 0
B = (b : Block) × BlockClaim b

abbrev pub S : Type 0
S = (s : Statement) × StatementClaim s

abbrev action_below : Action-F A B S → Action-F Action Block Statement
action_below y = map-Action A B S Action Block Statement (λ e. e.0) (λ e. e.0) (λ e. e.0) y

abbrev block_below : Block-F A B S → Block-F Action Block Statement
block_below y = map-Block A B S Action Block Statement (λ e. e.0) (λ e. e.0) (λ e. e.0) y

abbrev statement_below : Statement-F A B S → Statement-F Action Block Statement
statement_below y = map-Statement A B S Action Block Statement (λ e. e.0) (λ e. e.0) (λ e. e.0) y

claimed_along : (sight : InSight) (t u : Told Added) (r s : Naming) → t ≡ u → r ≡ s → Claimed sight u s → Claimed sight t r
claimed_along sight t u r s is same h =
    let P : Told Added → Type 0 = λ v. Claimed sight v r in
    let Q : Naming → Type 0 = λ k. Claimed sight u k in
    subst P (sym is) (subst Q (sym same) h)

fits_along : (sight : InSight) (t u : Told ℕ) (r s : Run (List Named)) → t ≡ u → r ≡ s → BlockFits sight u s → BlockFits sight t r
fits_along sight t u r s is same h =
    let P : Told ℕ → Type 0 = λ v. BlockFits sight v r in
    let Q : Run (List Named) → Type 0 = λ k. BlockFits sight u k in
    subst P (sym is) (subst Q (sym same) h)

-- a block in a loop, whose name stands for anything
turn_claim : (b : B) (view : View) (sight : InSight) → sight.in_check ≡ true → (name : List ℕ) (k : Kind) → TurnFits sight name k (block_told b.0) (block_run sight.contract view b.0)
turn_claim b view sight checks name k names a = b.1 view (sight_with_names sight (with_name sight.names name k usage.Read)) checks names a

pub one_claim : (s : S) (contract : ContractTree) (view : View) → OneFits contract (statement_told s.0) (statement_run contract view s.0)
one_claim s contract view sight of checks =
    let h = s.1 view sight checks in
    let P : ContractTree → Type 0 = λ c. (names : List Named) → Alike sight.names names → ActFits (statement_told s.0 sight) (statement_run c view s.0 names) in
    (h.0, subst P of h.1)

all_claims : (ss : List S) (contract : ContractTree) (view : View) → AllOnes contract (map statement_told (map (λ e. e.0) ss)) (map (statement_run contract view) (map (λ e. e.0) ss))
all_claims [] contract view = tt
all_claims (s ∷ ss) contract view = (one_claim s contract view, all_claims ss contract view)

module _ (place : ℕ) (view : View) (sight : InSight) (checks : sight.in_check ≡ true) where
  -- an action whose parts do what was told of them
  actions : (y : Action-F A B S) → Claimed sight (action_from_parts (action_parts (action_below y)) place sight) (action_means sight.contract view (action_from sight.contract view (action_below y)) place)
  actions (Action-F.Let name e) = (let_kept sight name (part e), λ names alike. let_fits sight view names alike name e (expr_fits e sight view names alike))
  actions (Action-F.Set name e) = (set_kept sight name (part e), λ names alike. set_fits sight view names alike name e (expr_fits e sight view names alike))
  actions (Action-F.If e b) = (if_kept sight (part e) (block_told b.0), λ names alike. if_fits sight view names alike e (block_told b.0) (block_run sight.contract view b.0) place (expr_fits e sight view names alike) (b.1 view sight checks names alike))
  actions (Action-F.IfElse e b o) = (if_else_kept sight (part e) (block_told b.0) (block_told o.0), λ names alike. if_else_fits sight view names alike e (block_told b.0) (block_told o.0) (block_run sight.contract view b.0) (block_run sight.contract view o.0) place (expr_fits e sight view names alike) (b.1 view sight checks names alike) (o.1 view sight checks names alike))
  actions (Action-F.ForIn name e b) = (for_in_kept sight name (part e) (block_told b.0), λ names alike. for_in_fits sight view name e (block_told b.0) (block_run sight.contract view b.0) names alike (expr_fits e sight view names alike) (λ k. turn_claim b view sight checks name.bytes k))
  actions (Action-F.ForTo name count b) = (for_to_kept sight name count (block_told b.0) place, λ names alike. for_to_fits sight view name count (block_told b.0) (block_run sight.contract view b.0) place names alike (turn_claim b view sight checks name.bytes int_kind))
  actions (Action-F.Make slot object values) = (never_kept sight sight.in_check place _ checks, λ names alike. never_fits sight.in_check place _ (traps cause.Misfit place) checks)
  actions (Action-F.Call bound method arguments) = (never_kept sight (sight.in_check || sight.starred) place _ (ap (λ b. b || sight.starred) checks), λ names alike. never_fits (sight.in_check || sight.starred) place _ (traps cause.Misfit place) (ap (λ b. b || sight.starred) checks))
  actions (Action-F.Answer e) = (answer_kept sight (part e) place, λ names alike. answer_fits sight view names alike e place (expr_fits e sight view names alike))

action_step : (x : Action-F Action Block Statement) (y : Action-F A B S) → action_below y ≡ x → ActionClaim (roll-Action x)
action_step x y is = subst (λ z. ActionClaim (roll-Action z)) is (λ place view sight checks.
    claimed_along sight _ _ _ _ (ap (λ (f : Acted). f place sight) (told_action (action_below y)))
    (ap (λ (f : ℕ → Naming). f place) (meant_action sight.contract view (action_below y))) (actions place view sight checks y))

block_step : (x : Block-F Action Block Statement) (y : Block-F A B S) → block_below y ≡ x → BlockClaim (roll-Block x)
block_step x y is = subst (λ z. BlockClaim (roll-Block z)) is (λ view sight checks names alike.
    fits_along sight _ _ _ _ (ap (λ (f : Blocked). f sight) (told_block (block_below y))) (ap (λ (f : Naming). f names) (meant_block sight.contract view (block_below y)))
    (block_fits sight.contract view (map statement_told (map (λ e. e.0) y.statements)) (map (statement_run sight.contract view) (map (λ e. e.0) y.statements))
    (all_claims y.statements sight.contract view) sight refl checks names alike))

statement_step : (x : Statement-F Action Block Statement) (y : Statement-F A B S) → statement_below y ≡ x → StatementClaim (roll-Statement x)
statement_step x y is = subst (λ z. StatementClaim (roll-Statement z)) is (λ view sight checks.
    let h = y.action.1 y.place view sight checks in
    claimed_along sight _ _ _ _ (ap (λ (f : Stated). f sight) (told_statement (statement_below y))) (meant_statement sight.contract view (statement_below y)) (
      stated_kept sight (action_told y.action.0 y.place sight) h.0,
      λ names alike. stated_fits (action_told y.action.0 y.place sight) (action_run sight.contract view y.action.0 y.place names) (h.1 names alike),
    ))

-- what a block spends is within its cost, and its names end with it
pub block_costs : (b : Block) → BlockClaim b
block_costs = ind-Block ActionClaim BlockClaim StatementClaim action_step block_step statement_step

pub statement_costs : (s : Statement) → StatementClaim s
statement_costs = ind-Statement ActionClaim BlockClaim StatementClaim action_step block_step statement_step
