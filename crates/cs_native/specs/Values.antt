-- What values are.
use Rattle.std.specs.Prelude.{ℕ, ℤ, List, Option, Some, None}
use Rattle.cs_tx_value.specs.declared.value.Value.{Value}
use Rattle.cs_tx_value.specs.declared.value.Value.TheOpen.{Value-F}

abbrev pub int_of_layer : Value-F Value → Option ℤ
int_of_layer (Value-F.Int n) = Some n
int_of_layer (Value-F.Bool b) = None
int_of_layer (Value-F.Bytes bytes) = None
int_of_layer (Value-F.List items) = None

abbrev pub bytes_of_layer : Value-F Value → Option (List ℕ)
bytes_of_layer (Value-F.Int n) = None
bytes_of_layer (Value-F.Bool b) = None
bytes_of_layer (Value-F.Bytes bytes) = Some bytes
bytes_of_layer (Value-F.List items) = None
