-- What is encoded of objects and of leaves are bytes.
use Rattle.std.proofs.Common.{ℕ, suc, List, [], ◌∷◌, ◌++◌, length, refl, arith}
use Rattle.std.specs.Int.{w64, w32, to_be_bytes}
use Rattle.sha2.specs.Sha256.{sha256}
use Rattle.sha2.proofs.Facts256.{length-sha256}
use Rattle.cs_base.specs.Fields.{IsBytes}
use Rattle.cs_base.specs.declared.key.Key.TheVariants as key
use Rattle.cs_tx_value.specs.Object.{object_encoding, ObjectFits, DigestFits}
use Rattle.cs_tx_value.specs.declared.object.Object.{Object}
use Rattle.cs_tx_types.specs.declared.effect.Effect.{Effect}
use Rattle.cs_tx_types.specs.declared.effect.Effect.TheVariants.{Voted, Accepted, Aborted, Skipped, Void}
use Rattle.cs_tx_types.specs.declared.leaf.Leaf.{Leaf}
use Rattle.cs_tx_types.specs.declared.state.State.TheVariants as state
use Rattle.cs_tx_types.specs.declared.vote.Vote.TheVariants as vote
use Rattle.cs_base.specs.declared.version.Version.TheVariants.{One}
use Rattle.cs_tx_types.specs.Log.{effect_encoding, leaf_encoding, LeafFits}
use Rattle.cs_tx_types.specs.Session.{action_encoding}
use Rattle.cs_tx_types.specs.Sized.{sized}
use Rattle.cs_wire_message.specs.declared.message.Message.TheVariants as message
use Rattle.cs_wire_message.proofs.Bytes.{bytes-nil, bytes-cons, bytes-append, bytes-32}
use Rattle.cs_tx_types.specs.Entry.{entry_alone}
use Rattle.cs_wire_message.proofs.Spelled.{bytes-want, bytes-body, entry-bytes}
use Rattle.cs_node_law.proofs.Sealing.{bytes-sha256}

pub hashed : (bytes : List ℕ) → DigestFits (sha256 bytes)
hashed bytes = (length-sha256 bytes, bytes-sha256 bytes)

behind : (front rest : List ℕ) → IsBytes (front ++ rest) → IsBytes rest
behind [] rest is = is
behind (byte ∷ front) rest is = behind front rest (λ i. is (suc i))

-- a message tells of an object under a name
told_bytes : (name : List ℕ) → DigestFits name → (object : Object) → ObjectFits object → IsBytes (object_encoding object)
told_bytes name named object fits =
    let told = bytes-body One (message.Told (key.Object name) (state.Active object)) (named, fits) in
    λ i. behind (0 ∷ name) (1 ∷ object_encoding object) told (suc i)

pub object_bytes : (object : Object) → ObjectFits object → IsBytes (object_encoding object)
object_bytes object fits = told_bytes (sha256 []) (hashed []) object fits

effect_bytes : (e : Effect) → IsBytes (effect_encoding e)
effect_bytes (Voted vote.Abort) = bytes-cons 0 [] (omega arith) bytes-nil
effect_bytes (Voted vote.Commit) = bytes-cons 1 [] (omega arith) bytes-nil
effect_bytes Accepted = bytes-cons 2 [] (omega arith) bytes-nil
effect_bytes Aborted = bytes-cons 3 [] (omega arith) bytes-nil
effect_bytes Skipped = bytes-cons 4 [] (omega arith) bytes-nil
effect_bytes Void = bytes-cons 5 [] (omega arith) bytes-nil

sized_bytes : {X : Type 0} (write : X → List ℕ) (x : X) → IsBytes (write x) → IsBytes (sized write x)
unfolding sized
sized_bytes write x fits = bytes-append (to_be_bytes w32 (length (write x))) (write x) (bytes-32 (length (write x))) fits

pub leaf_bytes : (leaf : Leaf) → LeafFits One leaf → IsBytes (leaf_encoding One leaf)
leaf_bytes leaf fits =
    bytes-append (to_be_bytes w64 leaf.slot) (sized action_encoding leaf.action ++ effect_encoding leaf.result) (bytes-want One leaf.slot)
    (bytes-append (sized action_encoding leaf.action) (effect_encoding leaf.result)
    (sized_bytes action_encoding leaf.action (entry-bytes One (entry_alone leaf.action) (refl, (fits.action, tt)))) (effect_bytes leaf.result))
