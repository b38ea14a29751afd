-- The texts of numbers and of bytes in a line.
use Rattle.std.specs.Prelude.{ℕ, ◌^◌, nat_lt, Bool, ◌&&◌, ◌||◌, ◌==◌, length, slice_index, List, [], ◌∷◌, Option, Some, None, codes, if◌then◌else◌}
use Rattle.std.specs.Str.{bytes_eq}
use Rattle.std.specs.Str.Parse.{digits_value}
use Rattle.std.specs.Fmt.{decimal}
use Rattle.std.specs.Result.{result_ok}
use Rattle.hex.specs.Hex.{decode_of, encode_lower}

-- the number of which the field is the decimal text, without sign or leading zeros, below 2 ^ 64
abbrev pub number_of : List ℕ → Option ℕ
number_of field =
    if nat_lt (digits_value 10 field) (2 ^ 64) && bytes_eq field (decimal (digits_value 10 field))
    then Some (digits_value 10 field) else None

-- the bytes of which the field is the hex text, in either case; `-` stands for no byte
abbrev pub bytes_of : List ℕ → Option (List ℕ)
bytes_of field = if bytes_eq field (codes "-") then Some [] else result_ok (decode_of field)

-- the hex text of bytes, in lower case; `-` for no byte
abbrev pub bytes_text : List ℕ → List ℕ
bytes_text [] = codes "-"
bytes_text (byte ∷ bytes) = encode_lower (byte ∷ bytes)

-- a plus stands in front, or a zero before other digits
abbrev pub spare_front : List ℕ → Bool
spare_front field = slice_index field 0 == 43 || (slice_index field 0 == 48 && nat_lt 1 (length field))
