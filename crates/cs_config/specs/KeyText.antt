-- The text of the key file that a master key gives a name: its keys, and nothing else.
use Rattle.std.specs.Prelude.{◌≡◌, ℕ, List, [], ◌∷◌, ◌++◌, codes, IsOkAnd}
use Rattle.hex.specs.Hex.{encode_lower}
use Rattle.toml_writer.specs.Text.{string_text}
use Rattle.cs_base.specs.declared.config.Config.{Config}
use Rattle.cs_base.specs.declared.node_id.NodeId.{NodeId}
use Rattle.cs_base.specs.NodeId.{is_named, node_text}
use Rattle.cs_wire.specs.AllNames.{names_of}
use Rattle.cs_wire.specs.Keys.{Listed, row_expected, IsOfMaster}
use Rattle.cs_config.specs.File.{keys_of}
use Rattle.cs_config.specs.Printed.{list_with}

-- the line of a field that is a string
abbrev pub text_line : List ℕ → List ℕ → List ℕ
text_line field said = field ++ (codes " = " ++ (string_text said ++ codes "\n"))

-- the lines of a peer: the key from it, its name, and the key to it
abbrev pub peer_text : Listed → List ℕ
peer_text listed =
    codes "\n[[peers]]\n" ++ (text_line (codes "from") (encode_lower listed.2)
    ++ (text_line (codes "name") (node_text listed.0) ++ text_line (codes "to") (encode_lower listed.1)))

-- of one after the other
abbrev pub peer_texts : List Listed → List ℕ
peer_texts [] = []
peer_texts (listed ∷ list) = peer_text listed ++ peer_texts list

-- of all
abbrev pub peers_text : List Listed → List ℕ
peers_text [] = codes "peers = []\n"
peers_text (listed ∷ list) = peer_texts (listed ∷ list)

-- the key file of a name: the name, and what it shares with all others
abbrev pub keys_text : Config → List ℕ → NodeId → List ℕ
keys_text config master me =
    text_line (codes "me") (node_text me) ++ peers_text (list_with master me (names_of config))

-- the file has this text and no other, by which a reader has the keys that the master gives the name, in version 1
pub record IsKeyFile (config : Config) (master : List ℕ) (me : NodeId) (text : List ℕ) : Type 0 where
  pub is : text ≡ keys_text config master me
  pub keys : config.version ≡ 1 → IsOkAnd (keys_of config text) (IsOfMaster config master me)

-- two master keys give the name the same keys
abbrev pub GiveSameKeys : Config → NodeId → List ℕ → List ℕ → Type 0
GiveSameKeys config me master other =
    (peer : NodeId) → row_expected master me (is_named config peer) peer ≡ row_expected other me (is_named config peer) peer

-- A key file tells of the master key what its keys tell: two that give a name the same keys give it the same file.
abbrev pub KeysAloneTell : Type 0
KeysAloneTell = (config : Config) (me : NodeId) (master other : List ℕ) → GiveSameKeys config me master other
    → keys_text config master me ≡ keys_text config other me
