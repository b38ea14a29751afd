-- What each line adds to what was read, or why it is refused. The word of a line is tested first.
use Rattle.std.specs.Prelude.{ℕ, List, Result, Ok, Err, codes, if◌then◌else◌}
use Rattle.std.specs.Str.{bytes_eq}
use Rattle.cs_tx_types.specs.declared.proof.Proof.{Proof}
use Rattle.cs_text.specs.Values.{◌>>=◌, only_field, digest_said}
use Rattle.cs_text.specs.declared.cause.Cause.{Cause}
use Rattle.cs_text.specs.declared.cause.Cause.TheVariants as cause
use Rattle.cs_verify.specs.declared.claim.Draft.{Draft}
use Rattle.cs_verify.specs.declared.claim.Draft.TheVariants.{Nothing, Headed, Whole}
use Rattle.cs_verify.specs.Forms.{proof_in, datagram_in}

-- the head that is trusted
abbrev pub trusted_head_line : List (List ℕ) → Result Draft Cause
trusted_head_line fields = do
  head ← digest_said fields
  Ok (Headed head)

-- the proof, behind that head
abbrev pub with_proof : List ℕ → Result Proof Cause → Result Draft Cause
with_proof head said = do
  proof ← said
  Ok (Whole (record { head = head; proof = proof }))

abbrev pub proof_line : List ℕ → List (List ℕ) → Result Draft Cause
proof_line head fields = do
  field ← only_field fields
  with_proof head (proof_in field)

abbrev pub datagram_line : List ℕ → List (List ℕ) → Result Draft Cause
datagram_line head fields = do
  field ← only_field fields
  with_proof head (datagram_in field)

-- a line of this word and these fields, where it has this place
abbrev pub claim_line_at : Draft → List ℕ → List (List ℕ) → Result Draft Cause
claim_line_at Nothing word fields = if bytes_eq word (codes "head") then trusted_head_line fields else Err cause.Word
claim_line_at (Headed head) word fields =
    if bytes_eq word (codes "proof") then proof_line head fields
    else if bytes_eq word (codes "datagram") then datagram_line head fields
    else Err cause.Word
claim_line_at (Whole claim) word fields = Err cause.After
