-- Genesis objects under their keys.
use Rattle.std.specs.Prelude.{ℕ, ◌+◌, List, [], ◌∷◌, map}
use Rattle.cs_base.specs.declared.key.Key.{Key}
use Rattle.cs_base.specs.declared.key.Key.TheVariants as key
use Rattle.cs_tx_value.specs.declared.object.Object.{Object}
use Rattle.cs_tx_value.specs.Object.{ObjectFits}
use Rattle.cs_tx.specs.Digest.{name_of_genesis}
use Rattle.cs_table.specs.Genesis.{keyed_of}

-- the first of them has this number
abbrev pub keyed_from : ℕ → List Object → List (Key × Object)
keyed_from number [] = []
keyed_from number (object ∷ objects) =
    (key.Object (name_of_genesis number object), object) ∷ keyed_from (number + 1) objects

-- none of these keys is a dummy's, and the objects have encodings
abbrev pub AreObjects : List (Key × Object) → Type 0
AreObjects [] = Unit {0}
AreObjects ((key.Object name, object) ∷ more) = ObjectFits object × AreObjects more
AreObjects ((key.Dummy shard serial, object) ∷ more) = ⊥

-- the names in their keys
abbrev pub names_in : List (Key × Object) → List (List ℕ)
names_in items = map (λ item. item.0) (keyed_of items)
