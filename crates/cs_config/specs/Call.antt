-- A call file: the method of a contract that a client runs, and on what; or a transaction that it submits.
use Rattle.std.specs.Prelude.{◌≡◌, ◌⊎◌, ℕ, List, [], replicate, Option, Some, None, Result, Ok, Err}
use Rattle.std.specs.List.{AllByRecursion}
use Rattle.toml.specs.Data.{Data, Members, get_member, as_integer, as_str}
use Rattle.cs_tx_value.specs.Encoding.{ValueFits}
use Rattle.cs_config.specs.Reading.{◌>>=◌, toml_table_of, one_of, each_of, number_between}
use Rattle.cs_config.specs.Items.{hex_digest, arg_of}
use Rattle.cs_config.specs.Contract.{contract_id_of}
use Rattle.cs_config.specs.Names.{field_name}
use Rattle.cs_config.specs.Given.{transaction_in, number_in}
use Rattle.cs_config.specs.declared.limits.TheConstants.{LAST_NUMBER}
use Rattle.cs_config.specs.declared.error.FileField.TheVariants as field
use Rattle.cs_config.specs.declared.error.ConfigError.{ConfigError}
use Rattle.cs_config.specs.declared.error.ConfigError.TheVariants.{Toml, Field, Limit, Memory}
use Rattle.cs_config.specs.declared.call.CallFile.{CallFile}
use Rattle.cs_config.specs.declared.call.CallDraft.{CallDraft}

-- the fields as they stand there
abbrev pub call_draft_of : Members → Result CallDraft ConfigError
call_draft_of members = do
  contract ← one_of contract_id_of field.Contract members
  method ← one_of as_str field.Method members
  inputs ← each_of hex_digest field.Inputs members
  reads ← each_of hex_digest field.Reads members
  args ← each_of arg_of field.Args members
  number ← one_of as_integer field.Number members
  Ok (record {
    contract = contract;
    method = method;
    inputs = inputs;
    reads = reads;
    args = args;
    number = number;
  })

-- the call, where its number has no sign
abbrev pub call_with_number : CallDraft → Result CallFile ConfigError
call_with_number draft = do
  number ← number_between field.Number 0 LAST_NUMBER draft.number
  Ok (record {
    contract = draft.contract.0;
    method = draft.method;
    inputs = draft.inputs;
    reads = draft.reads;
    args = draft.args;
    number = number;
    transaction = None;
  })

abbrev pub AllFit : CallDraft → Type 0
AllFit draft = AllByRecursion ValueFits draft.args

-- a call whose arguments are values within their limits, and whose number has no sign; or which of the two isn't so
abbrev pub IsCallWithin : CallDraft → Result CallFile ConfigError → Type 0
IsCallWithin draft (Ok call) = AllFit draft × (call_with_number draft ≡ Ok call)
IsCallWithin draft (Err refusal) =
    (¬ AllFit draft × (refusal ≡ Limit field.Args)) ⊎ (AllFit draft × (call_with_number draft ≡ Err refusal))

-- what a draft comes to, or why there is none
abbrev pub CallDraftComes : Result CallDraft ConfigError → Result CallFile ConfigError → Type 0
CallDraftComes (Ok draft) result = IsCallWithin draft result
CallDraftComes (Err refusal) result = result ≡ Err refusal

-- a transaction that is submitted, and nothing that is called
abbrev pub call_of_transaction : List ℕ → ℕ → CallFile
call_of_transaction bytes number = record {
  contract = replicate 32 0;
  method = [];
  inputs = [];
  reads = [];
  args = [];
  number = number;
  transaction = Some bytes;
}

abbrev pub transaction_call : Data → Members → Result CallFile ConfigError
transaction_call held members = do
  bytes ← transaction_in held members
  number ← number_in members
  Ok (call_of_transaction bytes number)

-- what the fields of a call file come to: a transaction is looked at first
abbrev pub ByTransaction : Option Data → Members → Result CallFile ConfigError → Type 0
ByTransaction None members result = CallDraftComes (call_draft_of members) result
ByTransaction (Some held) members result = result ≡ transaction_call held members

abbrev pub TableComes : Members → Result CallFile ConfigError → Type 0
TableComes members result = ByTransaction (get_member (field_name field.Transaction) members) members result

abbrev pub CallComes : Result Members ConfigError → Result CallFile ConfigError → Type 0
CallComes (Ok members) result = TableComes members result
CallComes (Err refusal) result = result ≡ Err refusal

-- so it is, unless memory ran out
abbrev pub UnlessMemory : (Result CallFile ConfigError → Type 0) → Result CallFile ConfigError → Type 0
UnlessMemory IsSo (Ok call) = IsSo (Ok call)
UnlessMemory IsSo (Err Memory) = Unit {0}
UnlessMemory IsSo (Err Toml) = IsSo (Err Toml)
UnlessMemory IsSo (Err (Field f)) = IsSo (Err (Field f))
UnlessMemory IsSo (Err (Limit f)) = IsSo (Err (Limit f))

abbrev pub GivesCalled : Result CallFile ConfigError → Members → Type 0
GivesCalled result members = UnlessMemory (CallDraftComes (call_draft_of members)) result

abbrev pub GivesTableCall : Result CallFile ConfigError → Members → Type 0
GivesTableCall result members = UnlessMemory (TableComes members) result

-- what a call file says, or why it is refused
abbrev pub GivesCall : Result CallFile ConfigError → List ℕ → Type 0
GivesCall result bytes = UnlessMemory (CallComes (toml_table_of bytes)) result
