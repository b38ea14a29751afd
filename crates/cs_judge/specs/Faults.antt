-- What is wrong with a call by its file and the contracts alone, in the order in which it is looked for.
use Rattle.std.specs.Prelude.{ℕ, nat_le, Bool, not, ◌&&◌, bytes_eq, codes, List, length, count_by, slice_get, Option, Some, None, option_and_then, if◌then◌else◌}
use Rattle.std.specs.List.{list_all}
use Rattle.cs_base.specs.Lists.{is_empty}
use Rattle.cs_lang.specs.declared.tree.Slot.{Slot}
use Rattle.cs_lang.specs.declared.tree.Method.{Method}
use Rattle.cs_lang.specs.declared.tree.ContractTree.{ContractTree}
use Rattle.cs_tx_value.specs.declared.value.Value.{Value}
use Rattle.cs_tx.specs.Token.{token_id}
use Rattle.cs_types_kinds.specs.declared.kind.Base.TheVariants as base
use Rattle.cs_types_kinds.specs.declared.kind.Kind.TheVariants as kind
use Rattle.cs_types_kinds.specs.Lookups.{method_number}
use Rattle.cs_types.specs.Accepted.{Accepted}
use Rattle.cs_eval_values.specs.Filling.{has_kind, values_fit}
use Rattle.cs_approve.specs.Books.{Contracts, contract_under}
use Rattle.cs_config.specs.declared.call.CallFile.{CallFile}
use Rattle.cs_judge.specs.declared.fault.CallFault.{CallFault}
use Rattle.cs_judge.specs.declared.fault.CallFault.TheVariants as fault

-- how many objects these slots take at least: one each, but for those of any number
abbrev pub fewest : List Slot → ℕ
fewest slots = count_by (λ s. not s.many) slots

-- the method takes these arguments, and no more objects than there are
abbrev pub fits_method : Method → CallFile → Bool
fits_method m call =
    values_fit m.takes call.args
    && (nat_le (fewest m.consumes) (length call.inputs) && nat_le (fewest m.reads) (length call.reads))

-- where the method is there: it takes these or doesn't, and then there is an input or none
abbrev pub fault_behind : Bool → CallFile → Option CallFault
fault_behind fits call =
    if not fits then Some fault.Args else if is_empty call.inputs then Some fault.Inputs else None

abbrev pub fault_in_method : CallFile → Option Method → Option CallFault
fault_in_method call None = Some fault.Method
fault_in_method call (Some m) = fault_behind (fits_method m call) call

abbrev pub method_of : ContractTree → CallFile → Option Method
method_of contract call = option_and_then (slice_get contract.methods) (method_number call.method contract.methods)

abbrev pub fault_in_contract : CallFile → Option Accepted → Option CallFault
fault_in_contract call None = Some fault.Method
fault_in_contract call (Some a) = fault_in_method call (method_of a.contract call)

-- `token` has one method, which takes any number of ints
abbrev pub is_int : Value → Bool
is_int v = has_kind (Some (kind.Value base.Int 0)) v

abbrev pub fault_of_token : CallFile → Option CallFault
fault_of_token call =
    if bytes_eq call.method (codes "transfer") then fault_behind (list_all is_int call.args) call else Some fault.Method

abbrev pub fault_of_called : Contracts → CallFile → Option CallFault
fault_of_called contracts call =
    if bytes_eq call.contract token_id then fault_of_token call
    else fault_in_contract call (contract_under call.contract contracts)

-- a transaction that is given calls nothing, so it has none of these faults
abbrev pub fault_unless_given : Option (List ℕ) → Contracts → CallFile → Option CallFault
fault_unless_given (Some transaction) contracts call = None
fault_unless_given None contracts call = fault_of_called contracts call

abbrev pub fault_of_call : Contracts → CallFile → Option CallFault
fault_of_call contracts call = fault_unless_given call.transaction contracts call

-- what a client prints that is to make such a call
abbrev pub fault_line : CallFault → List ℕ
fault_line fault.Method = codes "refused call method\n"
fault_line fault.Args = codes "refused call args\n"
fault_line fault.Inputs = codes "refused call inputs\n"
