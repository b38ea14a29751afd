-- Parts of values.
use Rattle.std.specs.Prelude.{ℕ, ℤ, Bool, List, length, Option, None, Some}
use Rattle.cs_tx_value.specs.declared.value.Value.{Value}
use Rattle.cs_tx_value.specs.declared.value.Value.TheOpen.{Value-F}

abbrev pub int_in : Value-F Value → Option ℤ
int_in (Value-F.Int n) = Some n
int_in (Value-F.Bool b) = None
int_in (Value-F.Bytes bytes) = None
int_in (Value-F.List items) = None

abbrev pub bool_in : Value-F Value → Option Bool
bool_in (Value-F.Int n) = None
bool_in (Value-F.Bool b) = Some b
bool_in (Value-F.Bytes bytes) = None
bool_in (Value-F.List items) = None

abbrev pub bytes_in : Value-F Value → Option (List ℕ)
bytes_in (Value-F.Int n) = None
bytes_in (Value-F.Bool b) = None
bytes_in (Value-F.Bytes bytes) = Some bytes
bytes_in (Value-F.List items) = None

abbrev pub length_in : Value-F Value → Option ℕ
length_in (Value-F.Int n) = None
length_in (Value-F.Bool b) = None
length_in (Value-F.Bytes bytes) = Some (length bytes)
length_in (Value-F.List items) = Some (length items)

abbrev pub values_in : Value-F Value → Option (List Value)
values_in (Value-F.Int n) = None
values_in (Value-F.Bool b) = None
values_in (Value-F.Bytes bytes) = None
values_in (Value-F.List items) = Some items
