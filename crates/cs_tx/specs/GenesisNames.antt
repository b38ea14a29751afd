-- The names of genesis objects.
use Rattle.std.specs.Prelude.{ℕ, ◌+◌, Bool, List, [], ◌∷◌}
use Rattle.std.specs.List.{list_any}
use Rattle.std.specs.Str.{bytes_eq}
use Rattle.cs_tx_value.specs.declared.object.Object.{Object}
use Rattle.cs_tx.specs.Digest.{name_of_genesis}

-- whether a name is among these
abbrev pub is_known : List ℕ → List (List ℕ) → Bool
is_known name names = list_any (bytes_eq name) names

-- the names of objects, the first of which has this number
abbrev pub genesis_names : ℕ → List Object → List (List ℕ)
genesis_names place [] = []
genesis_names place (object ∷ objects) = name_of_genesis place object ∷ genesis_names (place + 1) objects
