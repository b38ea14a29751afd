-- Where a byte of a text stands.
use Rattle.std.specs.Prelude.{ℕ, ◌+◌, ◌==◌, List, [], ◌∷◌, take, if◌then◌else◌}
use Rattle.cs_types.specs.declared.position.Position.{Position}

abbrev pub first_position : Position
first_position = record { line = 1; column = 1 }

-- a line feed ends its line
abbrev pub position_behind : Position → ℕ → Position
position_behind position byte =
    if byte == 10 then record { line = position.line + 1; column = 1 }
    else record { line = position.line; column = position.column + 1 }

-- behind all of these bytes
abbrev pub behind_all : Position → List ℕ → Position
behind_all position [] = position
behind_all position (byte ∷ bytes) = behind_all (position_behind position byte) bytes

abbrev pub position_at : List ℕ → ℕ → Position
position_at text place = behind_all first_position (take place text)
