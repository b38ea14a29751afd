-- The setup of a deployment: what its configuration, its genesis and a reading of sessions fix for all nodes.
use Rattle.std.specs.Prelude.{ℕ, ◌+◌, List, [], ◌∷◌}
use Rattle.cs_base.specs.Key.{shard_of_key}
use Rattle.cs_base.specs.Version.{version_of}
use Rattle.cs_base.specs.declared.config.Config.{Config}
use Rattle.cs_base.specs.declared.key.Key.TheVariants as key
use Rattle.cs_tx_value.specs.declared.object.Object.{Object}
use Rattle.cs_tx_value.specs.Object.{object_encoding}
use Rattle.cs_tx_types.specs.declared.session.Session.{Session}
use Rattle.cs_tx.specs.Digest.{name_of_genesis}
use Rattle.cs_tx.specs.Dummies.{dummy_object}
use Rattle.cs_ledger.specs.Ledger.{Item}
use Rattle.cs_ledger.specs.Session as Seen
use Rattle.cs_node_state.specs.Setup.{Setup}

-- genesis objects under their names, the first of which has this number
abbrev pub genesis_from : ℕ → List Object → List Item
genesis_from place [] = []
genesis_from place (object ∷ objects) =
    record { name = name_of_genesis place object; object = object_encoding object } ∷ genesis_from (place + 1) objects

abbrev pub rules_of : Config → List Object → Seen.Rules
rules_of config genesis = record {
  shard_of = λ name. shard_of_key config.shards (key.Object name);
  genesis = genesis_from 0 genesis;
  dummies = config.dummies;
  dummy_object = object_encoding dummy_object;
}

abbrev pub setup_of : Config → List Object → (Session → Seen.Session) → Setup
setup_of config genesis session_of = record {
  version = version_of config.version;
  shards = config.shards;
  f = config.f;
  rules = rules_of config genesis;
  session_of = session_of;
}
