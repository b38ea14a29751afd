-- Sealing any kind and body.
use Rattle.std.specs.Prelude.{◌≡◌, ℕ, List, ◌++◌, Some}
use Rattle.cs_base.specs.declared.node_id.NodeId.{NodeId}
use Rattle.cs_wire.specs.declared.keys.Row.{Row}
use Rattle.cs_wire.specs.declared.keys.Keys.{Keys}
use Rattle.cs_wire.specs.Keys.{row_of}
use Rattle.cs_wire.specs.Datagram.{datagram_with}

-- the datagram of this kind and body under the key to its receiver was appended
pub record SealsWith (keys : Keys) (to : NodeId) (kind : ℕ) (body old new : List ℕ) : Type 0 where
  pub row : Row
  pub held : row_of to keys ≡ Some row
  pub is : new ≡ old ++ datagram_with keys.version row.to keys.me to kind body
