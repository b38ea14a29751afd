-- Genesis objects under their keys.
use Rattle.std.specs.Prelude.{◌≡◌, ◌≢◌, List}
use Rattle.std.specs.List.{All, AllPairs}
use Rattle.cs_base.specs.declared.key.Key.{Key}
use Rattle.cs_tx_value.specs.declared.object.Object.{Object}
use Rattle.cs_tx_value.specs.Object.{ObjectFits}
use Rattle.cs_tx.specs.GenesisNames.{genesis_names}
use Rattle.cs_sbac.specs.Genesis.{keyed_from}

-- these objects under their keys; they have encodings, and no two of them have one name
pub record IsGenesis (objects : List Object) (genesis : List (Key × Object)) : Type 0 where
  pub keyed : genesis ≡ keyed_from 0 objects
  pub fits : All ObjectFits objects
  pub differ : AllPairs (λ a b. a ≢ b) (genesis_names 0 objects)
