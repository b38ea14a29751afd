-- What a field of a schedule says, or why it is refused: the causes of a field in their order.
use Rattle.std.specs.Prelude.{ℕ, List, Option, Result, Ok, Err, if◌then◌else◌}
use Rattle.std.specs.Option.{ok_or}
use Rattle.cs_base.specs.Fields.{whole_at}
use Rattle.cs_base.specs.declared.limits.TheConstants.{MOST_OBJECT}
use Rattle.cs_base.specs.declared.config.Config.{Config}
use Rattle.cs_base.specs.declared.config.OutOfRange.{OutOfRange}
use Rattle.cs_tx_value.specs.declared.object.Object.{Object}
use Rattle.cs_tx_value.specs.Object.{object_at}
use Rattle.cs_lang_token.specs.declared.limits.TheConstants.{MOST_TEXT}
use Rattle.cs_types.specs.Accepting.{is_refused}
use Rattle.cs_text.specs.Values.{◌>>=◌, bytes_within}
use Rattle.cs_text.specs.declared.cause.Cause.{Cause}
use Rattle.cs_text.specs.declared.cause.Cause.TheVariants as cause

-- a configuration, which a number of it can't leave its range
abbrev pub config_in_range : Result Config OutOfRange → Result Config Cause
config_in_range (Ok config) = Ok config
config_in_range (Err out) = Err cause.Limit

-- the text of a contract in hex, which is accepted
abbrev pub contract_in : List ℕ → Result (List ℕ) Cause
contract_in field = do
  text ← bytes_within MOST_TEXT field
  if is_refused text then Err cause.Contract else Ok text

-- the object of which these bytes are the encoding
abbrev pub encoded_object : List ℕ → Option Object
encoded_object bytes = whole_at object_at bytes

-- an object in hex, of at most so many bytes as an object has
abbrev pub object_in : List ℕ → Result Object Cause
object_in field = do
  bytes ← bytes_within MOST_OBJECT field
  ok_or (encoded_object bytes) cause.Object
