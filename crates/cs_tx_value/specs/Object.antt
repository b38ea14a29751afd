-- Objects: a contract's id, a type's name and at most 16 values, in at most 4,096 bytes.
use Rattle.std.specs.Prelude.{◌≡◌, ℕ, ◌≤◌, List, ◌++◌, length}
use Rattle.cs_base.specs.declared.limits.TheConstants.{MOST_OBJECT}
use Rattle.cs_base.specs.Fields.{IsBytes, counted, Found, ◌<$>◌, bytes_at, counted_at, pair_at, within_at}
use Rattle.cs_tx_value.specs.declared.object.Object.{Object}
use Rattle.cs_tx_value.specs.declared.value.Value.{Value}
use Rattle.cs_tx_value.specs.Encoding.{value_encoding, ValueFits, AtMost}
use Rattle.cs_tx_value.specs.Name.{name_encoding, NameFits, name_at}
use Rattle.cs_tx_value.specs.Reading.{value_at}

abbrev pub object_encoding : Object → List ℕ
object_encoding o = o.contract ++ (name_encoding o.type_name ++ counted value_encoding o.values)

abbrev pub DigestFits : List ℕ → Type 0
DigestFits digest = (length digest ≡ 32) × IsBytes digest

pub record ObjectFits (o : Object) : Type 0 where
  pub contract : DigestFits o.contract
  pub type_name : NameFits o.type_name
  pub values : AtMost 16 ValueFits o.values
  pub small : length (object_encoding o) ≤ MOST_OBJECT

abbrev pub object_of : List ℕ × (List ℕ × List Value) → Object
object_of p = record { contract = p.0; type_name = p.1.0; values = p.1.1 }

-- the fields of an object, whatever their length
abbrev pub object_fields_at : List ℕ → Found Object
object_fields_at bytes = object_of <$> pair_at (bytes_at 32) (pair_at name_at (counted_at 16 (value_at 4))) bytes

unfoldable pub object_at : List ℕ → Found Object
object_at = within_at MOST_OBJECT object_fields_at
