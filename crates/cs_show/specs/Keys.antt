-- The key that a word says.
use Rattle.std.specs.Prelude.{ℕ, nat_le, ◌==◌, List, Option, Some, None, option_map, if◌then◌else◌}
use Rattle.std.specs.List.{before_first, after_first}
use Rattle.std.specs.Result.{result_ok}
use Rattle.hex.specs.Hex.{decode_sized}
use Rattle.cs_base.specs.Codes.{number_of}
use Rattle.cs_base.specs.Options.{or_else}
use Rattle.cs_base.specs.declared.key.Key.{Key}
use Rattle.cs_base.specs.declared.key.Key.TheVariants.{Object, Dummy}

-- an object, by 64 hex digits of either case
abbrev pub object_in : List ℕ → Option Key
object_in word = option_map Object (result_ok (decode_sized word 32))

-- the dummy of these numbers, of which that of the shard has 16 bits
abbrev pub dummy_of : Option ℕ → Option ℕ → Option Key
dummy_of None serial = None
dummy_of (Some shard) None = None
dummy_of (Some shard) (Some serial) = if nat_le shard 65535 then Some (Dummy shard serial) else None

-- a dummy, by the two numbers before and behind a colon
abbrev pub dummy_in : List ℕ → Option Key
dummy_in word =
    dummy_of (number_of (before_first (λ byte. byte == 58) word)) (number_of (after_first (λ byte. byte == 58) word))

abbrev pub key_in : List ℕ → Option Key
key_in word = or_else (object_in word) (dummy_in word)
