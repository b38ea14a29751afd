-- The check of an accepted contract takes at most twice as many places as it may cost, and two.
use Rattle.std.proofs.Common.{◌≡◌, ℕ, ◌+◌, ◌*◌, ◌≤◌, true, Option, None, Some, List, refl, sym, subst, arith}
use Rattle.std.specs.Prelude.{slice_get}
use Rattle.cs_lang_token.specs.declared.limits.TheConstants.{MOST_COST}
use Rattle.cs_lang.specs.declared.tree.ContractTree.{ContractTree}
use Rattle.cs_lang.specs.declared.tree.Method.{Method}
use Rattle.cs_types_kinds.specs.declared.scope.Costs.{Costs as Priced}
use Rattle.cs_types_kinds.specs.Scopes.{InSight}
use Rattle.cs_types_kinds.specs.Lookups.{method_number}
use Rattle.cs_types.specs.Stating.{takes_many}
use Rattle.cs_types.specs.Declaring.{method_names}
use Rattle.cs_types.specs.Accepted.{Accepted, IsAccepted}
use Rattle.cs_eval.specs.Blocks.{places_of_block}
use Rattle.cs_eval_law.specs.Checks.{method_at, check_cost_in, check_cost_at, check_cost, places_in, check_places}
use Rattle.cs_eval_law.proofs.ExprFits.{told_bind}
use Rattle.cs_eval_law.proofs.MethodFits.{CheckTold, accepted_check}
use Rattle.cs_eval_law.proofs.BlockRoom.{block_roomy}

told_roomy : (contract : ContractTree) (m : Method) (c : ℕ) → c ≤ MOST_COST → CheckTold contract m c → places_of_block m.check ≤ 2 * c + 2
told_roomy contract m c low told =
    let named = told_bind (method_names contract.types true m) _ c told.1 in
    let sight : InSight = record { contract = contract; costs = told.0; starred = takes_many m; in_check = true; names = named.0 } in
    omega (arith, low, block_roomy m.check sight c named.2)

module _ (a : Accepted) (is : IsAccepted a) where
  method_roomy : (i : ℕ) (o : Option Method) → slice_get a.contract.methods i ≡ o → places_in o ≤ 2 * check_cost_in (slice_get a.costs i) + 2
  method_roomy i None at = omega arith
  method_roomy i (Some m) at =
      let found = accepted_check a is i m at in
      let P : Option Priced → Type 0 = λ p. places_in (Some m) ≤ 2 * check_cost_in p + 2 in
      subst P (sym found.1) (told_roomy a.contract m found.0.check found.2 found.3)

  number_roomy : (o : Option ℕ) → places_in (method_at a.contract.methods o) ≤ 2 * check_cost_at a.costs o + 2
  number_roomy None = omega arith
  number_roomy (Some i) = method_roomy i (slice_get a.contract.methods i) refl

  pub places_within : (method : List ℕ) → check_places a.contract method ≤ 2 * check_cost a method + 2
  places_within method = number_roomy (method_number method a.contract.methods)
