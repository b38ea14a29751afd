-- Datagrams are made of bytes.
use Rattle.std.proofs.Common.{ℕ, zero, suc, ◌<◌, List, ◌∷◌, ◌++◌, length}
use Rattle.std.specs.Prelude.{slice_index}
use Rattle.std.specs.Int.{w16, w32, to_be_bytes}
use Rattle.sha2.specs.Sha256.{digest_bytes, sha256}
use Rattle.cs_base.specs.declared.node_id.NodeId.{NodeId}
use Rattle.cs_base.specs.Fields.{IsBytes}
use Rattle.cs_hash.specs.Hash.{key_block, masked, hmac}
use Rattle.cs_wire_message.proofs.Bytes.{bytes-nil, bytes-cons, bytes-append, bytes-16, bytes-32}
use Rattle.cs_base.specs.declared.version.Version.{Version}
use Rattle.cs_wire.specs.Datagram.{magic_of, node_name_encoding, text_with, datagram_with}
use Rattle.cs_wire.proofs.Parts.{magic_bytes}

bytes-name : (name : NodeId) → IsBytes (node_name_encoding name)
bytes-name name = bytes-append (to_be_bytes w16 name.shard) (to_be_bytes w16 name.index) (bytes-16 name.shard) (bytes-16 name.index)

bytes-digest : (words : List ℕ) (n : ℕ) → IsBytes (digest_bytes words n)
unfolding digest_bytes
bytes-digest words zero = bytes-nil
bytes-digest words (suc n) = bytes-append (digest_bytes words n) (to_be_bytes w32 (slice_index words n)) (bytes-digest words n) (bytes-32 (slice_index words n))

pub bytes-sha256 : (bytes : List ℕ) → IsBytes (sha256 bytes)
unfolding sha256
bytes-sha256 bytes = bytes-digest _ 8

bytes-text : (version : Version) (from to : NodeId) (kind : ℕ) (body : List ℕ) → kind < 256 → IsBytes body → IsBytes (text_with version from to kind body)
unfolding text_with
bytes-text version from to kind body small fits =
    let sized = to_be_bytes w32 (length body) ++ body in
    let of_sized = bytes-append (to_be_bytes w32 (length body)) body (bytes-32 (length body)) fits in
    let of_to = bytes-append (node_name_encoding to) sized (bytes-name to) of_sized in
    let of_names = bytes-append (node_name_encoding from) (node_name_encoding to ++ sized) (bytes-name from) of_to in
    let behind = kind ∷ (node_name_encoding from ++ (node_name_encoding to ++ sized)) in
    bytes-append (magic_of version) behind (magic_bytes version) (bytes-cons kind (node_name_encoding from ++ (node_name_encoding to ++ sized)) small of_names)

pub bytes-datagram : (version : Version) (key : List ℕ) (from to : NodeId) (kind : ℕ) (body : List ℕ) → kind < 256 → IsBytes body → IsBytes (datagram_with version key from to kind body)
bytes-datagram version key from to kind body small fits =
    let text = text_with version from to kind body in bytes-append text (hmac key text) (bytes-text version from to kind body small fits)
    (bytes-sha256 (masked 92 (key_block key) ++ sha256 (masked 54 (key_block key) ++ text)))
