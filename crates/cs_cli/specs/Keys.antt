-- Objects with the key of an earlier one.
use Rattle.std.specs.Prelude.{ℕ, ◌+◌, List, [], ◌∷◌, ◌++◌, Option, Some, None, if◌then◌else◌}
use Rattle.cs_tx_value.specs.declared.object.Object.{Object}
use Rattle.cs_tx.specs.Digest.{name_of_genesis}
use Rattle.cs_tx.specs.GenesisNames.{is_known}

-- the place of the first object whose name is among these or those of the objects before it; the first of the objects has
-- this place
abbrev pub first_repeated : List (List ℕ) → ℕ → List Object → Option ℕ
first_repeated names place [] = None
first_repeated names place (object ∷ objects) =
    if is_known (name_of_genesis place object) names then Some place
    else first_repeated (names ++ name_of_genesis place object ∷ []) (place + 1) objects

-- the place of the first object with the key of an earlier one
abbrev pub repeated_key : List Object → Option ℕ
repeated_key objects = first_repeated [] 0 objects
