-- What stands in the arrays of a trace: values, objects, objects under their keys, and numbers of traces.
use Rattle.std.specs.Prelude.{ℕ, ℤ, pos, negsuc, Bool, ◌&&◌, is_none, nat_lt, List, codes, Option, Some, None, option_map, option_and_then, if◌then◌else◌}
use Rattle.toml.specs.Data.{Data, Members, get_member, as_integer, as_str, as_array, as_table}
use Rattle.cs_tx_value.specs.declared.object.Object.{Object}
use Rattle.cs_tx_value.specs.declared.value.Value.{Value}
use Rattle.cs_tx_value.specs.declared.value.Value.TheOpen.{Value-F}
use Rattle.cs_tx_types.specs.Transaction.{Keyed}
use Rattle.cs_config.specs.Items.{hex_digest, hex_object, args_of}
use Rattle.cs_config.specs.Named.{held_at}
use Rattle.cs_config.specs.Reading.{each_item}

-- the items of an array, where all can be read
abbrev pub each_in : {A : Type 0} → (Data → Option A) → Data → Option (List A)
each_in read held = option_and_then (each_item read) (as_array held)

-- values as the arguments of a call file
abbrev pub item_values : Data → Option (List Value)
item_values held = option_and_then args_of (as_array held)

-- the items of a list
abbrev pub list_of_layer : Value-F Value → Option (List Value)
list_of_layer (Value-F.Int n) = None
list_of_layer (Value-F.Bool b) = None
list_of_layer (Value-F.Bytes bytes) = None
list_of_layer (Value-F.List items) = Some items

-- a string, whatever it says
abbrev pub spelled_name : Data → Option (List ℕ)
spelled_name = as_str

-- ---- objects

-- an object of the contract, by its type and its values
abbrev pub spelled_object : List ℕ → Members → Option Object
spelled_object contract members =
    option_and_then (λ type_name.
    option_map (λ values. record { contract = contract; type_name = type_name; values = values })
    (held_at item_values (codes "values") members))
    (held_at spelled_name (codes "type") members)

-- neither a type nor values stand there
abbrev pub stands_alone : Members → Bool
stands_alone members = is_none (get_member (codes "type") members) && is_none (get_member (codes "values") members)

-- an object by its encoding, of whatever contract, where that stands alone; else by its type and values
abbrev pub object_by : Option Data → List ℕ → Members → Option Object
object_by (Some held) contract members = if stands_alone members then hex_object held else None
object_by None contract members = spelled_object contract members

abbrev pub table_object : List ℕ → Members → Option Object
table_object contract members = object_by (get_member (codes "object") members) contract members

abbrev pub item_object : List ℕ → Data → Option Object
item_object contract held = option_and_then (table_object contract) (as_table held)

-- a key, and the object that stands under it
abbrev pub table_keyed : List ℕ → Members → Option Keyed
table_keyed contract members =
    option_and_then (λ key. option_map (λ object. (key, object)) (table_object contract members))
    (held_at hex_digest (codes "key") members)

abbrev pub item_keyed : List ℕ → Data → Option Keyed
item_keyed contract held = option_and_then (table_keyed contract) (as_table held)

-- ---- numbers of traces

abbrev pub dep_number : ℤ → Option ℕ
dep_number (pos n) = if nat_lt n 256 then Some n else None
dep_number (negsuc n) = None

abbrev pub item_dep : Data → Option ℕ
item_dep held = option_and_then dep_number (as_integer held)
