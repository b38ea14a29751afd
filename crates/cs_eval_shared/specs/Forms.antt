-- The value that is stored so.
use Rattle.std.specs.Prelude.{◌≡◌, length}
use Rattle.cs_tx_value.specs.declared.value.Value.{Value}
use Rattle.cs_tx_value.specs.declared.value.Value.TheVariants as value
use Rattle.cs_tx_value.specs.Encoding.{value_encoding}
use Rattle.cs_eval_shared.specs.declared.shared.Form.{Form}
use Rattle.cs_eval_shared.specs.declared.shared.Form.TheVariants as form

abbrev pub value_of : Form → Value
value_of (form.Int n) = value.Int n
value_of (form.Bool b) = value.Bool b
value_of (form.Text bytes) = value.Bytes bytes.now
value_of (form.Bytes bytes) = value.Bytes bytes.value
value_of (form.List items encoded) = value.List items.value

-- beside a list stands the length of its encoding
abbrev pub IsMeasured : Form → Type 0
IsMeasured (form.List items encoded) = encoded ≡ length (value_encoding (value.List items.value))
IsMeasured f = Unit {0}
