-- What a check spends is at most what it was accepted with.
use Rattle.std.proofs.Common.{◌≡◌, ℕ, ◌≤◌, Bool, true, Option, None, Some, List, refl, sym, ap, subst, arith}
use Rattle.std.specs.Prelude.{slice_get}
use Rattle.cs_lang_token.specs.declared.limits.TheConstants.{MOST_COST}
use Rattle.cs_lang.specs.declared.tree.ContractTree.{ContractTree}
use Rattle.cs_lang.specs.declared.tree.Method.{Method}
use Rattle.cs_types_kinds.specs.declared.scope.Costs.{Costs as Priced}
use Rattle.cs_types_kinds.specs.Scopes.{InSight}
use Rattle.cs_types_kinds.specs.Lookups.{method_number}
use Rattle.cs_types.specs.Stating.{takes_many}
use Rattle.cs_types.specs.Blocks.{block_told}
use Rattle.cs_types.specs.Declaring.{method_names}
use Rattle.cs_types.specs.Accepted.{Accepted, IsAccepted}
use Rattle.cs_eval_values.specs.declared.view.View.{View}
use Rattle.cs_eval_values.specs.Runs.{spent}
use Rattle.cs_eval_values.specs.Namings.{Named}
use Rattle.cs_eval_values.specs.Filling.{filled}
use Rattle.cs_eval_law.specs.Acting.{block_run}
use Rattle.cs_eval_law.specs.Checks.{method_at, fitted_run, method_run, spends, check_cost_in, check_cost_at, check_cost}
use Rattle.cs_eval_law.proofs.ExprFits.{told_bind}
use Rattle.cs_eval_law.proofs.MethodFits.{filled_alike, CheckTold, accepted_check}
use Rattle.cs_eval_law.proofs.BlockFits.{block_costs}

-- a check within its cost, whatever its names stand for
told_within : (contract : ContractTree) (m : Method) (view : View) (names : List Named) (c : ℕ) → c ≤ MOST_COST → CheckTold contract m c → filled contract m view ≡ Some names
    → spent (block_run contract view m.check names) ≤ c
told_within contract m view names c low told is =
    let named = told_bind (method_names contract.types true m) _ c told.1 in
    let sight : InSight = record { contract = contract; costs = told.0; starred = takes_many m; in_check = true; names = named.0 } in
    omega (arith, low, (block_costs m.check view sight refl names (filled_alike contract m view named.0 names named.1 is) c named.2).0)

module _ (a : Accepted) (is : IsAccepted a) (view : View) where
  fitted_within : (m : Method) (c : ℕ) → c ≤ MOST_COST → CheckTold a.contract m c → (o : Option (List Named)) → filled a.contract m view ≡ o
      → spent (fitted_run a.contract m view o) ≤ c
  fitted_within m c low told None fits = omega arith
  fitted_within m c low told (Some names) fits = told_within a.contract m view names c low told fits

  method_within : (i : ℕ) (o : Option Method) → slice_get a.contract.methods i ≡ o → spent (method_run a.contract view o) ≤ check_cost_in (slice_get a.costs i)
  method_within i None at = omega arith
  method_within i (Some m) at =
      let found = accepted_check a is i m at in
      let P : Option Priced → Type 0 = λ p. spent (method_run a.contract view (Some m)) ≤ check_cost_in p in
      subst P (sym found.1) (fitted_within m found.0.check found.2 found.3 (filled a.contract m view) refl)

  number_within : (o : Option ℕ) → spent (method_run a.contract view (method_at a.contract.methods o)) ≤ check_cost_at a.costs o
  number_within None = omega arith
  number_within (Some i) = method_within i (slice_get a.contract.methods i) refl

  pub spends_within : (method : List ℕ) → spends a.contract method view ≤ check_cost a method
  spends_within method = number_within (method_number method a.contract.methods)
