-- The keys of a node or a client.
use Rattle.std.specs.Prelude.{◌≡◌, ℕ, ◌+◌, Bool, not, ◌&&◌, ◌||◌, codes, List, [], ◌∷◌, ◌++◌, map, Option, Some, None, Result, Ok, Err, if◌then◌else◌}
use Rattle.std.specs.List.{list_any}
use Rattle.cs_base.specs.declared.config.Config.{Config}
use Rattle.cs_base.specs.declared.node_id.NodeId.{NodeId}
use Rattle.cs_base.specs.NodeId.{is_named, same_name}
use Rattle.cs_base.specs.declared.version.Version.{Version}
use Rattle.cs_base.specs.Version.{version_of}
use Rattle.cs_hash.specs.Hash.{hmac}
use Rattle.cs_wire.specs.Datagram.{node_name_encoding}
use Rattle.cs_wire.specs.declared.keys.Row.{Row}
use Rattle.cs_wire.specs.declared.keys.Keys.{Keys}
use Rattle.cs_wire.specs.declared.keys.KeysError.{KeysError}
use Rattle.cs_wire.specs.declared.keys.KeysError.TheVariants as errors

-- the first row of a peer
abbrev pub row_of_peer : NodeId → List Row → Option Row
row_of_peer peer [] = None
row_of_peer peer (row ∷ rows) = if same_name row.peer peer then Some row else row_of_peer peer rows

abbrev pub row_of : NodeId → Keys → Option Row
row_of peer keys = row_of_peer peer keys.rows

-- ---- keys of a list

-- a peer, the key to it, and the key from it
abbrev pub Listed : Type 0
Listed = NodeId × List ℕ × List ℕ

abbrev pub row_listed : Listed → Row
row_listed x = record { peer = x.0; to = x.1; from = x.2 }

abbrev pub stands : NodeId → List Listed → Bool
stands name list = list_any (λ x. same_name x.0 name) list

-- the place of the first peer that is me, or stands earlier
abbrev pub peer_twice : NodeId → List Listed → ℕ → List Listed → Option ℕ
peer_twice me earlier place [] = None
peer_twice me earlier place (x ∷ later) =
    if same_name x.0 me || stands x.0 earlier then Some place else peer_twice me (earlier ++ x ∷ []) (place + 1) later

-- what comes of a list, unless memory ran out
abbrev pub Lists : NodeId → List Listed → Version → Result Keys KeysError → Type 0
Lists me list version (Ok keys) =
    (peer_twice me [] 0 list ≡ None) × (keys ≡ record { me = me; rows = map row_listed list; version = version })
Lists me list version (Err (errors.Twice place)) = peer_twice me [] 0 list ≡ Some place
Lists me list version (Err errors.Memory) = Unit {0}

-- ---- keys of a master key

-- `key` and two names
unfoldable pub pair_text : NodeId → NodeId → List ℕ
pair_text from to = codes "key" ++ (node_name_encoding from ++ node_name_encoding to)

-- the key from one name to another
abbrev pub key_between : List ℕ → NodeId → NodeId → List ℕ
key_between master from to = hmac master (pair_text from to)

abbrev pub row_between : List ℕ → NodeId → NodeId → Row
row_between master me peer = record { peer = peer; to = key_between master me peer; from = key_between master peer me }

-- what is shared with a name, where it is one, and not me
abbrev pub row_expected : List ℕ → NodeId → Bool → NodeId → Option Row
row_expected master me is_one peer =
    if is_one && not (same_name peer me) then Some (row_between master me peer) else None

-- keys for all nodes and clients of a configuration, but for me
pub record IsOfMaster (config : Config) (master : List ℕ) (holder : NodeId) (keys : Keys) : Type 0 where
  pub me : keys.me ≡ holder
  pub version : keys.version ≡ version_of config.version
  pub rows : (peer : NodeId) → row_of peer keys ≡ row_expected master holder (is_named config peer) peer
