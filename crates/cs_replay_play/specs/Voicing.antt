-- Those whose words a schedule says.
use Rattle.std.specs.Prelude.{◌≡◌, ℕ, ◌<◌, false, true, List, [], ◌∷◌, length, get_or}
use Rattle.cs_base.specs.Version.{version_of}
use Rattle.cs_base.specs.declared.config.Config.{Config}
use Rattle.cs_base.specs.declared.node_id.NodeId.{NodeId}
use Rattle.cs_base.specs.NodeId.{is_named, same_name}
use Rattle.cs_ledger.specs.Ledger.{Bytes}
use Rattle.cs_wire.specs.declared.keys.Keys.{Keys}
use Rattle.cs_wire.specs.Keys.{key_between, IsOfMaster}
use Rattle.cs_wire.specs.Datagram.{datagram_with}

-- under which keys they speak
pub record Voicing : Type 0 where
  pub config : Config
  pub master : Bytes

-- the keys of some of them, each made of the master key for their holder
abbrev pub AreOfMaster : Config → Bytes → List Keys → Type 0
AreOfMaster config master [] = Unit {0}
AreOfMaster config master (keys ∷ more) = IsOfMaster config master keys.me keys × AreOfMaster config master more

-- what one of them says to another
abbrev pub SaysTo : Voicing → NodeId → NodeId → ℕ → Bytes → Bytes → Type 0
SaysTo v from to kind body bytes =
    is_named v.config to ≡ true → same_name to from ≡ false
    → bytes ≡ datagram_with (version_of v.config.version) (key_between v.master from to) from to kind body

-- the keys at this place are those of this name
pub record HoldsAt (config : Config) (master : Bytes) (name : NodeId) (keys : List Keys) (place : ℕ) : Type 0 where
  pub within : place < length keys
  pub of_master : (k : Keys) → IsOfMaster config master name (get_or keys place k)
