-- The key file that a master key gives a name.
use Rattle.std.specs.Prelude.{◌≡◌, ℕ, ◌^◌, ◌<◌, List, [], ◌∷◌, length, codes, if◌then◌else◌}
use Rattle.hex.specs.Hex.{encode_lower}
use Rattle.toml.specs.Data.{Items, no_items, item, Members, no_members, member, string, array, table}
use Rattle.cs_base.specs.Fields.{IsBytes}
use Rattle.cs_base.specs.NodeId.{node_text, same_name}
use Rattle.cs_base.specs.declared.node_id.NodeId.{NodeId}
use Rattle.cs_wire.specs.Keys.{Listed, key_between}

-- the keys that are shared with a peer
abbrev pub listed_between : List ℕ → NodeId → NodeId → Listed
listed_between master me peer = (peer, key_between master me peer, key_between master peer me)

-- those that are shared with each of these, but for myself
abbrev pub list_with : List ℕ → NodeId → List NodeId → List Listed
list_with master me [] = []
list_with master me (peer ∷ peers) =
    if same_name peer me then list_with master me peers else listed_between master me peer ∷ list_with master me peers

-- 32 bytes
pub record IsDigest (digest : List ℕ) : Type 0 where
  pub size : length digest ≡ 32
  pub bytes : IsBytes digest

-- what is shared with a peer, by numbers and bytes that a file may hold
pub record ListedFits (listed : Listed) : Type 0 where
  pub shard : listed.0.shard < 2 ^ 16
  pub index : listed.0.index < 2 ^ 16
  pub to : IsDigest listed.1
  pub from : IsDigest listed.2

abbrev pub AllListedFit : List Listed → Type 0
AllListedFit [] = Unit {0}
AllListedFit (listed ∷ list) = ListedFits listed × AllListedFit list

-- a peer's table, by its keys in their order
abbrev pub peer_data : Listed → Members
peer_data listed =
    member (codes "from") (string (encode_lower listed.2))
    (member (codes "name") (string (node_text listed.0))
    (member (codes "to") (string (encode_lower listed.1)) no_members))

abbrev pub peers_data : List Listed → Items
peers_data [] = no_items
peers_data (listed ∷ list) = item (table (peer_data listed)) (peers_data list)

-- the file's table
abbrev pub keys_data : NodeId → List Listed → Members
keys_data me list =
    member (codes "me") (string (node_text me)) (member (codes "peers") (array (peers_data list)) no_members)
