-- Which cases are of a contract.
use Rattle.std.specs.Prelude.{Bool, true, ◌&&◌, is_none, List, Option, Some, None, if◌then◌else◌}
use Rattle.std.specs.List.{list_all}
use Rattle.cs_lang.specs.declared.tree.ContractTree.{ContractTree}
use Rattle.cs_lang.specs.declared.tree.TypeDef.{TypeDef}
use Rattle.cs_tx_value.specs.declared.object.Object.{Object}
use Rattle.cs_tx_types.specs.Transaction.{Keyed}
use Rattle.cs_types_kinds.specs.Lookups.{method_number}
use Rattle.cs_eval_values.specs.Views.{type_named}
use Rattle.cs_eval_values.specs.Filling.{fields_fit}
use Rattle.cs_cases.specs.declared.case.Asked.{Asked}
use Rattle.cs_cases.specs.declared.case.Asked.TheVariants.{Shown, Made, Given}
use Rattle.cs_cases.specs.declared.case.Case.{Case}
use Rattle.cs_cases.specs.declared.text.Cause.{Cause}
use Rattle.cs_cases.specs.declared.text.Cause.TheVariants as cause

-- an object of a type of the contract: as many values as fields, each of the declared kind
abbrev pub is_typed : List TypeDef → Object → Bool
is_typed types o = fields_fit (type_named o.type_name types) o.values

abbrev pub is_typed_keyed : List TypeDef → Keyed → Bool
is_typed_keyed types k = is_typed types k.1

abbrev pub outputs_typed : List TypeDef → Asked → Bool
outputs_typed types Shown = true
outputs_typed types (Made wanted) = true
outputs_typed types (Given outputs returns wanted) = list_all (is_typed types) outputs

abbrev pub objects_typed : List TypeDef → Case → Bool
objects_typed types c =
    list_all (is_typed_keyed types) c.inputs && (list_all (is_typed_keyed types) c.references && outputs_typed types c.asked)

-- why a case is none of the contract: it has no such method, or no such object
abbrev pub cause_of_case : ContractTree → Case → Option Cause
cause_of_case contract c =
    if is_none (method_number c.method contract.methods) then Some cause.Method
    else if objects_typed contract.types c then None
    else Some cause.Object
