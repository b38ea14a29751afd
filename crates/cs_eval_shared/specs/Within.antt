-- Lists whose encodings aren't too long.
use Rattle.std.specs.Prelude.{ℕ, List, length, nat_le, Option, Some, None, if◌then◌else◌}
use Rattle.cs_tx_value.specs.declared.value.Value.{Value}
use Rattle.cs_tx_value.specs.declared.value.Value.TheVariants as value
use Rattle.cs_tx_value.specs.Encoding.{value_encoding}

-- the list of the items, where its encoding has at most so many bytes
abbrev pub list_within : List Value → ℕ → Option Value
list_within items most =
    if nat_le (length (value_encoding (value.List items))) most then Some (value.List items) else None
