-- What single values of a file say.
use Rattle.std.specs.Prelude.{ℕ, ◌==◌, List, [], ◌∷◌, length, codes, Option, Some, None, option_map, option_and_then, if◌then◌else◌}
use Rattle.std.specs.Result.{result_ok}
use Rattle.std.specs.Str.{bytes_eq}
use Rattle.hex.specs.Hex.{decode_of}
use Rattle.toml.specs.Data.{Data, string, integer, float, boolean, datetime, array, table, Items, no_items, item, as_str}
use Rattle.cs_base.specs.Fields.{whole_at}
use Rattle.cs_tx_value.specs.declared.object.Object.{Object}
use Rattle.cs_tx_value.specs.Object.{object_at}
use Rattle.cs_tx_value.specs.declared.value.Value.{Value}
use Rattle.cs_tx_value.specs.declared.value.Value.TheVariants as value
use Rattle.cs_tx.specs.Token.{token_id}

-- the bytes of hex digits of either case, in pairs
abbrev pub hex_of : List ℕ → Option (List ℕ)
hex_of text = result_ok (decode_of text)

-- 32 bytes
abbrev pub whole_digest : List ℕ → Option (List ℕ)
whole_digest bytes = if length bytes == 32 then Some bytes else None

-- a string of 64 hex digits
abbrev pub hex_digest : Data → Option (List ℕ)
hex_digest held = option_and_then whole_digest (option_and_then hex_of (as_str held))

-- the contract of this text: its id, or `token`
abbrev pub contract_id_in : List ℕ → Option (List ℕ)
contract_id_in text =
    if bytes_eq text (codes "token") then Some token_id else option_and_then whole_digest (hex_of text)

-- a string of the hex of an object's encoding
abbrev pub hex_object : Data → Option Object
hex_object held = option_and_then (whole_at object_at) (option_and_then hex_of (as_str held))

-- the bytes of hex digits, as an argument
abbrev pub bytes_arg_of : List ℕ → Option Value
bytes_arg_of text = option_map value.Bytes (hex_of text)

-- an argument: an integer is an int, a boolean a bool, hex digits are bytes, an array is a list
abbrev mutual
  pub arg_of : Data → Option Value
  arg_of (string text) = bytes_arg_of text
  arg_of (integer n) = Some (value.Int n)
  arg_of (boolean b) = Some (value.Bool b)
  arg_of (array items) = option_map value.List (args_of items)
  arg_of (float x) = None
  arg_of (datetime when) = None
  arg_of (table inner) = None

  pub args_of : Items → Option (List Value)
  args_of no_items = Some []
  args_of (item first rest) = option_and_then (λ x. option_map (λ xs. x ∷ xs) (args_of rest)) (arg_of first)
