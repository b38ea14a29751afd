-- Which contracts are accepted, with which costs.
use Rattle.std.specs.Prelude.{◌≡◌, ℕ, Bool, true, false, nat_le, nat_lt, ◌||◌, List, [], ◌∷◌, ◌++◌, length, take, is_some, Option, None, Some, Result, Ok, Err, if◌then◌else◌}
use Rattle.cs_lang_token.specs.declared.limits.TheConstants.{MOST_METHODS, MOST_COST}
use Rattle.cs_lang_token.specs.Grammar.{◌>>=◌}
use Rattle.cs_lang.specs.declared.tree.Block.{Block}
use Rattle.cs_lang.specs.declared.tree.Method.{Method}
use Rattle.cs_lang.specs.declared.tree.ContractTree.{ContractTree}
use Rattle.cs_lang.specs.Texts.{HasText}
use Rattle.cs_lang.specs.Fits.{contract_fits}
use Rattle.cs_types_kinds.specs.declared.fault.TypeError.{TypeError}
use Rattle.cs_types_kinds.specs.declared.fault.TypeError.TheVariants as error
use Rattle.cs_types_kinds.specs.declared.scope.Costs.{Costs}
use Rattle.cs_types_kinds.specs.Told.{Told, mistyped, told_through}
use Rattle.cs_types_kinds.specs.Lookups.{method_number}
use Rattle.cs_types.specs.Answers.{Fails}
use Rattle.cs_types.specs.Stating.{takes_many}
use Rattle.cs_types.specs.Blocks.{block_told}
use Rattle.cs_types.specs.Declaring.{types_told, method_names}

-- what a procedure or a check costs, below methods of these costs
abbrev pub body_told : ContractTree → List Costs → Bool → Method → Block → Told ℕ
body_told contract costs in_check m block =
    method_names contract.types in_check m >>= λ names.
    block_told block
    (record { contract = contract; costs = costs; starred = takes_many m; in_check = in_check; names = names })

-- the costs of a method below others, of which there are not too many, and no other of its name
abbrev pub method_costs : ContractTree → List Costs → List Method → Method → Told Costs
method_costs contract costs above m =
    if nat_le MOST_METHODS (length above) || is_some (method_number m.name.bytes above) then mistyped m.name.place
    else body_told contract costs false m m.procedure >>= λ procedure.
    body_told contract costs true m m.check >>= λ check.
    Ok (record { procedure = procedure; check = check })

-- one method more, behind as many as there are costs
abbrev pub method_told : ContractTree → List Costs → Method → Told (List Costs)
method_told contract costs m =
    method_costs contract costs (take (length costs) contract.methods) m >>= λ c. Ok (costs ++ c ∷ [])

abbrev pub methods_told : ContractTree → Told (List Costs)
methods_told contract = told_through (method_told contract) [] contract.methods

-- the costs of the methods of a contract that is well typed, or the first place at fault
abbrev pub judged_costs : ContractTree → Told (List Costs)
judged_costs contract = types_told contract.types >>= λ types. methods_told contract

-- the first cost above the limit
abbrev pub first_dear : List Costs → Option ℕ
first_dear [] = None
first_dear (c ∷ cs) =
    if nat_lt MOST_COST c.procedure then Some c.procedure
    else if nat_lt MOST_COST c.check then Some c.check
    else first_dear cs

abbrev pub or_dear : List Costs → Option ℕ → Told (List Costs)
or_dear costs None = Ok costs
or_dear costs (Some cost) = Err (error.Cost cost)

-- the costs of an accepted contract; else its first place at fault, or where there is none
-- the first cost above the limit
abbrev pub accepted_costs : ContractTree → Told (List Costs)
accepted_costs contract = judged_costs contract >>= λ costs. or_dear costs (first_dear costs)

-- an accepted contract, with the costs of its methods
pub record Accepted : Type 0 where
  pub contract : ContractTree
  pub costs : List Costs

-- a text spells it, so it fits; and its costs are told of it
pub record IsAccepted (a : Accepted) : Type 0 where
  pub spelled : HasText a.contract
  pub fits : contract_fits a.contract ≡ true
  pub told : accepted_costs a.contract ≡ Ok a.costs

-- what is answered of a contract
abbrev pub Accepts : ContractTree → Result Accepted TypeError → Type 0
Accepts contract (Ok a) = (a.contract ≡ contract) × (accepted_costs contract ≡ Ok a.costs)
Accepts contract (Err e) = Fails e (accepted_costs contract)
