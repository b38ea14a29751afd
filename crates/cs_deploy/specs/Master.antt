-- The master key of a site, by its hex.
use Rattle.std.specs.Prelude.{ℕ, Bool, ◌||◌, ◌==◌, List, length, take, drop, codes, Option, None, if◌then◌else◌}
use Rattle.std.specs.Result.{result_ok}
use Rattle.std.specs.Str.{bytes_eq}
use Rattle.hex.specs.Hex.{decode_sized}
use Rattle.cs_deploy.specs.declared.limits.TheConstants.{MASTER_DIGITS}

-- a key of 64 hex digits, of either case
abbrev pub master_in : List ℕ → Option (List ℕ)
master_in word = result_ok (decode_sized word 32)

-- nothing, or one line feed
abbrev pub is_end : List ℕ → Bool
is_end rest = (length rest == 0) || bytes_eq rest (codes "\n")

-- the key that a text says: the digits, and then its end
abbrev pub master_of : List ℕ → Option (List ℕ)
master_of text = if is_end (drop MASTER_DIGITS text) then master_in (take MASTER_DIGITS text) else None
