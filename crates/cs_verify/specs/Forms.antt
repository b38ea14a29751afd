-- The proof that a field of a line holds, or why the field is refused: the causes in their order.
use Rattle.std.specs.Prelude.{ℕ, nat_le, Bool, ◌&&◌, bytes_eq, List, [], ◌∷◌, ◌++◌, length, take, drop, Option, Some, None, Result, if◌then◌else◌, ◌==◌}
use Rattle.std.specs.Option.{ok_or}
use Rattle.std.specs.Int.{w32, from_be_bytes}
use Rattle.cs_base.specs.declared.limits.TheConstants.{LEAST_DATAGRAM, MOST_DATAGRAM, MOST_BODY}
use Rattle.cs_base.specs.Fields.{whole_at}
use Rattle.cs_tx_types.specs.declared.proof.Proof.{Proof}
use Rattle.cs_base.specs.declared.version.Version.TheVariants.{One}
use Rattle.cs_tx_types.specs.Log.{proof_at}
use Rattle.cs_wire_message.specs.declared.kinds.TheConstants.{PROOF}
use Rattle.cs_wire.specs.declared.head.TheConstants.{MAGIC}
use Rattle.cs_wire.specs.Datagram.{is_sized, body_in}
use Rattle.cs_text.specs.Values.{◌>>=◌, bytes_within}
use Rattle.cs_text.specs.declared.cause.Cause.{Cause}
use Rattle.cs_text.specs.declared.cause.Cause.TheVariants as cause

-- ---- the datagram of a proof, of which neither names nor tag are looked at

-- it begins with the magic and the kind
abbrev pub is_proof_front : List ℕ → Bool
is_proof_front front = bytes_eq front (MAGIC ++ PROOF ∷ [])

-- behind these five bytes and the two names stands the length of the body
abbrev pub body_size_in : List ℕ → ℕ
body_size_in bytes = from_be_bytes w32 (take 4 (drop 8 (drop 5 bytes)))

abbrev pub is_formed : List ℕ → Bool
is_formed bytes =
    nat_le LEAST_DATAGRAM (length bytes) && (is_proof_front (take 5 bytes) && is_sized (body_size_in bytes) bytes)

-- the body of the datagram, where the bytes have that form
abbrev pub proof_body : List ℕ → Option (List ℕ)
proof_body bytes = if is_formed bytes then Some (body_in bytes) else None

-- ---- fields

-- the proof of which these bytes are the encoding
abbrev pub encoded_proof : List ℕ → Result Proof Cause
encoded_proof bytes = ok_or (whole_at (proof_at One) bytes) cause.Object

-- the body of a Proof in hex, of at most so many bytes as a body has
abbrev pub proof_in : List ℕ → Result Proof Cause
proof_in field = do
  bytes ← bytes_within MOST_BODY field
  encoded_proof bytes

-- the datagram of a Proof in hex
abbrev pub datagram_in : List ℕ → Result Proof Cause
datagram_in field = do
  bytes ← bytes_within MOST_DATAGRAM field
  body ← ok_or (proof_body bytes) cause.Object
  encoded_proof body
