-- How many cells the check of a method makes at most.
use Rattle.std.specs.Prelude.{ℕ, List, Option, Some, None}
use Rattle.cs_lang.specs.declared.tree.ContractTree.{ContractTree}
use Rattle.cs_lang.specs.declared.tree.Method.{Method}
use Rattle.cs_eval_law.specs.Checks.{method_named}
use Rattle.cs_eval_cells.specs.Blocks.{cells_of_block}

abbrev pub cells_in : Option Method → ℕ
cells_in None = 0
cells_in (Some m) = cells_of_block m.check

abbrev pub check_cells : ContractTree → List ℕ → ℕ
check_cells contract method = cells_in (method_named contract.methods method)
