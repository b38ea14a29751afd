-- What a value is made of.
use Rattle.cs_tx_value.specs.declared.value.Value.{Value}
use Rattle.cs_tx_value.specs.declared.value.Value.TheOpen.{Value-F}
use Rattle.cs_eval_shared.specs.declared.shared.Open.{Open}
use Rattle.cs_eval_shared.specs.declared.shared.Open.TheVariants as open_is

abbrev pub layer_of : Open → Value-F Value
layer_of (open_is.Int n) = Value-F.Int n
layer_of (open_is.Bool b) = Value-F.Bool b
layer_of (open_is.Bytes bytes) = Value-F.Bytes bytes.now
layer_of (open_is.List items) = Value-F.List items.now
