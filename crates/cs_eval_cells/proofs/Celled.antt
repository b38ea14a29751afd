-- The check of an accepted contract makes at most four cells for each unit that it may cost.
use Rattle.std.proofs.Common.{◌≡◌, ℕ, ◌*◌, ◌≤◌, true, Option, None, Some, List, refl, sym, subst, arith}
use Rattle.std.specs.Prelude.{slice_get}
use Rattle.cs_lang_token.specs.declared.limits.TheConstants.{MOST_COST}
use Rattle.cs_lang.specs.declared.tree.ContractTree.{ContractTree}
use Rattle.cs_lang.specs.declared.tree.Method.{Method}
use Rattle.cs_types_kinds.specs.declared.scope.Costs.{Costs as Priced}
use Rattle.cs_types_kinds.specs.Scopes.{InSight}
use Rattle.cs_types_kinds.specs.Lookups.{method_number}
use Rattle.cs_types.specs.Stating.{takes_many}
use Rattle.cs_types.specs.Declaring.{method_names}
use Rattle.cs_types.specs.Accepted.{Accepted, IsAccepted}
use Rattle.cs_eval_cells.specs.Blocks.{cells_of_block}
use Rattle.cs_eval_cells.specs.Checks.{cells_in, check_cells}
use Rattle.cs_eval_law.specs.Checks.{method_at, check_cost_in, check_cost_at, check_cost}
use Rattle.cs_eval_law.proofs.ExprFits.{told_bind}
use Rattle.cs_eval_law.proofs.MethodFits.{CheckTold, accepted_check}
use Rattle.cs_eval_cells.proofs.BlockCells.{block_celled}

told_celled : (contract : ContractTree) (m : Method) (c : ℕ) → c ≤ MOST_COST → CheckTold contract m c → cells_of_block m.check ≤ 4 * c
told_celled contract m c low told =
    let named = told_bind (method_names contract.types true m) _ c told.1 in
    let sight : InSight = record { contract = contract; costs = told.0; starred = takes_many m; in_check = true; names = named.0 } in
    omega (arith, low, block_celled m.check sight c named.2)

module _ (a : Accepted) (is : IsAccepted a) where
  method_celled : (i : ℕ) (o : Option Method) → slice_get a.contract.methods i ≡ o → cells_in o ≤ 4 * check_cost_in (slice_get a.costs i)
  method_celled i None at = omega arith
  method_celled i (Some m) at =
      let found = accepted_check a is i m at in
      let P : Option Priced → Type 0 = λ p. cells_in (Some m) ≤ 4 * check_cost_in p in
      subst P (sym found.1) (told_celled a.contract m found.0.check found.2 found.3)

  number_celled : (o : Option ℕ) → cells_in (method_at a.contract.methods o) ≤ 4 * check_cost_at a.costs o
  number_celled None = omega arith
  number_celled (Some i) = method_celled i (slice_get a.contract.methods i) refl

  pub cells_within : (method : List ℕ) → check_cells a.contract method ≤ 4 * check_cost a method
  cells_within method = number_celled (method_number method a.contract.methods)
