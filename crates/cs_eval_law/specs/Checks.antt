-- What a check says, and what it spends.
use Rattle.std.specs.Prelude.{◌≢◌, ℕ, Bool, false, List, [], slice_get, Option, Some, None}
use Rattle.cs_lang.specs.declared.tree.ContractTree.{ContractTree}
use Rattle.cs_lang.specs.declared.tree.Method.{Method}
use Rattle.cs_eval.specs.Blocks.{places_of_block}
use Rattle.cs_types_kinds.specs.declared.scope.Costs.{Costs}
use Rattle.cs_types_kinds.specs.Lookups.{method_number}
use Rattle.cs_types.specs.Accepted.{Accepted}
use Rattle.cs_eval_values.specs.declared.stop.Cause.TheVariants as cause
use Rattle.cs_eval_values.specs.declared.view.View.{View}
use Rattle.cs_eval_values.specs.Runs.{Run, Gave, Answered, Trapped, gives, spent}
use Rattle.cs_eval_values.specs.Namings.{Named}
use Rattle.cs_eval_values.specs.Filling.{filled}
use Rattle.cs_eval_law.specs.Acting.{block_run}

abbrev pub method_at : List Method → Option ℕ → Option Method
method_at methods None = None
method_at methods (Some number) = slice_get methods number

-- the method of this name
abbrev pub method_named : List Method → List ℕ → Option Method
method_named methods name = method_at methods (method_number name methods)

-- a view that doesn't fit runs nothing
abbrev pub fitted_run : ContractTree → Method → View → Option (List Named) → Run (List Named)
fitted_run contract m view None = gives []
fitted_run contract m view (Some names) = block_run contract view m.check names

-- nor does a method that isn't there
abbrev pub method_run : ContractTree → View → Option Method → Run (List Named)
method_run contract view None = gives []
method_run contract view (Some m) = fitted_run contract m view (filled contract m view)

-- the check of a method on a view
abbrev pub check_run : ContractTree → List ℕ → View → Run (List Named)
check_run contract method view = method_run contract view (method_named contract.methods method)

-- yes, where it answers so; one that traps or ends without an answer says no
abbrev pub yes_of : {X : Type 0} → Run X → Bool
yes_of (Answered b n) = b
yes_of (Gave x n) = false
yes_of (Trapped why place n) = false

abbrev pub says : ContractTree → List ℕ → View → Bool
says contract method view = yes_of (check_run contract method view)

abbrev pub spends : ContractTree → List ℕ → View → ℕ
spends contract method view = spent (check_run contract method view)

-- it trapped at no value of a wrong kind, and at no name that stands for nothing
abbrev pub IsKinded : {X : Type 0} → Run X → Type 0
IsKinded (Gave x n) = Unit {0}
IsKinded (Answered b n) = Unit {0}
IsKinded (Trapped why place n) = why ≢ cause.Misfit

-- ---- what it may cost

abbrev pub check_cost_in : Option Costs → ℕ
check_cost_in None = 0
check_cost_in (Some c) = c.check

abbrev pub check_cost_at : List Costs → Option ℕ → ℕ
check_cost_at costs None = 0
check_cost_at costs (Some number) = check_cost_in (slice_get costs number)

-- what the check of a method may cost, as it was accepted
abbrev pub check_cost : Accepted → List ℕ → ℕ
check_cost a method = check_cost_at a.costs (method_number method a.contract.methods)

-- ---- how many places each of its stacks takes

abbrev pub places_in : Option Method → ℕ
places_in None = 0
places_in (Some m) = places_of_block m.check

-- of the check of a method
abbrev pub check_places : ContractTree → List ℕ → ℕ
check_places contract method = places_in (method_named contract.methods method)
