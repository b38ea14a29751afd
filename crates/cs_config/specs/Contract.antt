-- The contract of a call file.
use Rattle.std.specs.Prelude.{Option, option_map, option_and_then}
use Rattle.toml.specs.Data.{Data, as_str}
use Rattle.cs_config.specs.Items.{contract_id_in}
use Rattle.cs_config.specs.declared.call.ContractId.{ContractId}

-- a string of 64 hex digits, or `token`
abbrev pub contract_id_of : Data → Option ContractId
contract_id_of held = option_map (λ id. record { 0 = id }) (option_and_then contract_id_in (as_str held))
