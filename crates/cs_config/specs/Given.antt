-- A transaction that a call file has in place of a call.
use Rattle.std.specs.Prelude.{ℕ, nat_lt, Bool, ◌&&◌, is_none, is_some, List, length, None, option_and_then, Result, Ok, Err, if◌then◌else◌}
use Rattle.std.specs.Option.{ok_or}
use Rattle.toml.specs.Data.{Data, Members, get_member, as_integer, as_str}
use Rattle.cs_base.specs.Fields.{whole_at}
use Rattle.cs_base.specs.declared.limits.TheConstants.{MOST_TX}
use Rattle.cs_tx_types.specs.Reading.{tx_at}
use Rattle.cs_config.specs.Names.{field_name}
use Rattle.cs_config.specs.Reading.{◌>>=◌, one_of, number_between}
use Rattle.cs_config.specs.Items.{hex_of}
use Rattle.cs_config.specs.declared.limits.TheConstants.{LAST_NUMBER}
use Rattle.cs_config.specs.declared.error.FileField.{FileField}
use Rattle.cs_config.specs.declared.error.FileField.TheVariants as field
use Rattle.cs_config.specs.declared.error.ConfigError.{ConfigError}
use Rattle.cs_config.specs.declared.error.ConfigError.TheVariants.{Field, Limit}

-- the field isn't there
abbrev pub lacks : Members → FileField → Bool
lacks members f = is_none (get_member (field_name f) members)

-- none of a call's fields but its number stands there
abbrev pub has_no_call : Members → Bool
has_no_call members =
    lacks members field.Contract && (lacks members field.Method
    && (lacks members field.Inputs && (lacks members field.Reads && lacks members field.Args)))

-- the encoding of a transaction
abbrev pub encoded_transaction : List ℕ → Result (List ℕ) ConfigError
encoded_transaction bytes =
    if nat_lt MOST_TX (length bytes) then Err (Limit field.Transaction)
    else if is_some (whole_at tx_at bytes) then Ok bytes
    else Err (Field field.Transaction)

-- a string of its hex, beside no field of a call
abbrev pub transaction_in : Data → Members → Result (List ℕ) ConfigError
transaction_in held members = do
  bytes ← ok_or (if has_no_call members then option_and_then hex_of (as_str held) else None) (Field field.Transaction)
  encoded_transaction bytes

-- the number that it is submitted under
abbrev pub number_in : Members → Result ℕ ConfigError
number_in members = do
  number ← one_of as_integer field.Number members
  number_between field.Number 0 LAST_NUMBER number
