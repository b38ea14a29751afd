-- What names stand for and expressions give.
use Rattle.std.specs.Prelude.{ℕ, ℤ, Bool, List, map, length, slice_get, Option, None, Some}
use Rattle.cs_tx_value.specs.declared.object.Object.{Object}
use Rattle.cs_tx_value.specs.declared.value.Value.{Value, out-Value}
use Rattle.cs_tx_value.specs.declared.value.Value.TheOpen.{Value-F}
use Rattle.cs_eval_shared.specs.Parts.{int_in, bool_in, bytes_in, length_in, values_in}

-- a value, the object of a slot, or the objects of a slot for any number of them
pub data Datum : Type 0 where
  Plain : Value → Datum
  One : Object → Datum
  Many : List Object → Datum

-- ---- parts of values

abbrev pub plain_item : Option Value → Option Datum
plain_item None = None
plain_item (Some v) = Some (Plain v)

abbrev pub object_item : Option Object → Option Datum
object_item None = None
object_item (Some o) = Some (One o)

abbrev pub item_in : Value-F Value → ℕ → Option Datum
item_in (Value-F.Int n) place = None
item_in (Value-F.Bool b) place = None
item_in (Value-F.Bytes bytes) place = None
item_in (Value-F.List items) place = plain_item (slice_get items place)

-- ---- parts of what is held

abbrev pub int_of : Datum → Option ℤ
int_of (Plain v) = int_in (out-Value v)
int_of (One o) = None
int_of (Many os) = None

abbrev pub bool_of : Datum → Option Bool
bool_of (Plain v) = bool_in (out-Value v)
bool_of (One o) = None
bool_of (Many os) = None

abbrev pub bytes_of_datum : Datum → Option (List ℕ)
bytes_of_datum (Plain v) = bytes_in (out-Value v)
bytes_of_datum (One o) = None
bytes_of_datum (Many os) = None

abbrev pub object_of_datum : Datum → Option Object
object_of_datum (Plain v) = None
object_of_datum (One o) = Some o
object_of_datum (Many os) = None

-- of bytes, a list or objects
abbrev pub length_of : Datum → Option ℕ
length_of (Plain v) = length_in (out-Value v)
length_of (One o) = None
length_of (Many os) = Some (length os)

-- of a list or objects
abbrev pub item_of_datum : Datum → ℕ → Option Datum
item_of_datum (Plain v) place = item_in (out-Value v) place
item_of_datum (One o) place = None
item_of_datum (Many os) place = object_item (slice_get os place)

abbrev pub plain_of : Datum → Option Value
plain_of (Plain v) = Some v
plain_of (One o) = None
plain_of (Many os) = None

-- ---- items

abbrev pub plain_each : Option (List Value) → Option (List Datum)
plain_each None = None
plain_each (Some vs) = Some (map (λ v. Plain v) vs)

-- the items of a list or objects
abbrev pub items_of : Datum → Option (List Datum)
items_of (Plain v) = plain_each (values_in (out-Value v))
items_of (One o) = None
items_of (Many os) = Some (map (λ o. One o) os)
