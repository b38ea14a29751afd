-- Datagrams, byte by byte.
use Rattle.std.specs.Prelude.{ℕ, ◌+◌, ◌-◌, Bool, ◌&&◌, ◌==◌, nat_le, bytes_eq, List, ◌∷◌, ◌++◌, length, take, drop}
use Rattle.std.specs.Int.{w16, w32, to_be_bytes}
use Rattle.cs_base.specs.declared.limits.TheConstants.{LEAST_DATAGRAM, MOST_DATAGRAM}
use Rattle.cs_base.specs.declared.node_id.NodeId.{NodeId}
use Rattle.cs_base.specs.declared.version.Version.{Version}
use Rattle.cs_base.specs.declared.version.Version.TheVariants.{One, Two}
use Rattle.cs_hash.specs.Hash.{hmac}
use Rattle.cs_wire_message.specs.declared.message.Message.{Message}
use Rattle.cs_wire_message.specs.Message.{kind_of, body_of}
use Rattle.cs_wire.specs.declared.head.TheConstants.{MAGIC, MAGIC_OF_BATCHES}

-- a name: shard and index
abbrev pub node_name_encoding : NodeId → List ℕ
node_name_encoding name = to_be_bytes w16 name.shard ++ to_be_bytes w16 name.index

-- the first bytes of a datagram
abbrev pub magic_of : Version → List ℕ
magic_of One = MAGIC
magic_of Two = MAGIC_OF_BATCHES

-- what a tag is made of: the magic, the kind, the sender, the receiver, the length of the body, the body
unfoldable pub text_with : Version → NodeId → NodeId → ℕ → List ℕ → List ℕ
text_with version from to kind body =
    magic_of version ++ (kind ∷ (node_name_encoding from ++ (node_name_encoding to ++ (to_be_bytes w32 (length body) ++ body))))

-- the text, and its tag under the key from the sender to the receiver
abbrev pub datagram_with : Version → List ℕ → NodeId → NodeId → ℕ → List ℕ → List ℕ
datagram_with version key from to kind body =
    text_with version from to kind body ++ hmac key (text_with version from to kind body)

-- the text of a message is that of its kind and its body, and so is its datagram
abbrev pub message_text : Version → NodeId → NodeId → Message → List ℕ
message_text version from to m = text_with version from to (kind_of m) (body_of version m)

abbrev pub sealed : Version → List ℕ → NodeId → NodeId → Message → List ℕ
sealed version key from to m = datagram_with version key from to (kind_of m) (body_of version m)

-- ---- tests of datagrams

-- a body of this size stands between a head of 17 bytes and a tag of 32, and the datagram isn't too long
abbrev pub is_sized : ℕ → List ℕ → Bool
is_sized size bytes = length bytes == size + LEAST_DATAGRAM && nat_le (length bytes) MOST_DATAGRAM

-- what stands before the tag, and the tag
abbrev pub text_in : List ℕ → List ℕ
text_in bytes = take (length bytes - 32) bytes

abbrev pub tag_in : List ℕ → List ℕ
tag_in bytes = drop (length bytes - 32) bytes

abbrev pub has_tag : List ℕ → List ℕ → Bool
has_tag key bytes = bytes_eq (tag_in bytes) (hmac key (text_in bytes))

-- what stands between the head and the tag
abbrev pub body_in : List ℕ → List ℕ
body_in bytes = drop 17 (text_in bytes)
