-- The proof of each claim that is read is within all limits.
use Rattle.std.specs.Prelude.{◌≡◌, ℕ, List, Bool, true, false, Some, None, Result, Ok, Err, IfOk, codes, bytes_eq, if◌then◌else◌}
use Rattle.std.specs.Option.{ok_or}
use Rattle.std.proofs.Common.{subst, inl, inr}
use Rattle.cs_base.specs.declared.limits.TheConstants.{MOST_BODY, MOST_DATAGRAM}
use Rattle.cs_base.specs.Fields.{IsBytes, whole_at}
use Rattle.cs_base.proofs.Forms.{whole-takes, IsBytes-drop, IsBytes-take}
use Rattle.cs_tx_types.specs.declared.proof.Proof.{Proof}
use Rattle.cs_base.specs.declared.version.Version.TheVariants.{One}
use Rattle.cs_tx_types.specs.Log.{proof_encoding, ProofFits, proof_at}
use Rattle.cs_tx_types.specs.laws.Log.{proof_form}
use Rattle.cs_wire.specs.Datagram.{text_in, body_in}
use Rattle.cs_text.specs.declared.cause.Cause.{Cause}
use Rattle.cs_text.specs.declared.cause.Cause.TheVariants as cause
use Rattle.cs_text.specs.declared.error.TextError.{TextError}
use Rattle.cs_text.specs.Reading.{GivesText}
use Rattle.cs_text.specs.Values.{◌>>=◌, bytes_within, only_field, digest_said}
use Rattle.cs_text.proofs.Kept.{whole_kept}
use Rattle.cs_text.proofs.Steps.{step_ok, change_ok, when_ok, either_ok, some_ok}
use Rattle.cs_text.proofs.Taken.{bytes_within-ok}
use Rattle.cs_verify.specs.declared.claim.Claim.{Claim}
use Rattle.cs_verify.specs.declared.claim.Draft.{Draft}
use Rattle.cs_verify.specs.declared.claim.Draft.TheVariants.{Nothing, Headed, Whole}
use Rattle.cs_verify.specs.Forms.{is_formed, proof_body, encoded_proof, proof_in, datagram_in}
use Rattle.cs_verify.specs.Lines.{trusted_head_line, with_proof, proof_line, datagram_line, claim_line_at}
use Rattle.cs_verify.specs.Text.{claim_in, claim_form, claim_of}

-- a proof that was read is within all limits
abbrev DraftFits : Draft → Type 0
DraftFits Nothing = Unit {0}
DraftFits (Headed head) = Unit {0}
DraftFits (Whole claim) = ProofFits One claim.proof

encoded_fits : (bytes : List ℕ) (proof : Proof) → IsBytes bytes → encoded_proof bytes ≡ Ok proof → ProofFits One proof
encoded_fits bytes proof fits is = (whole-takes (proof_encoding One) (ProofFits One) (proof_at One) (proof_form One) bytes proof fits (some_ok (whole_at (proof_at One) bytes) cause.Object proof is)).0

proof_fits : (field : List ℕ) (proof : Proof) → proof_in field ≡ Ok proof → ProofFits One proof
proof_fits field proof is =
    let (bytes, within, encoded) = step_ok (bytes_within MOST_BODY field) encoded_proof proof is in
    encoded_fits bytes proof (bytes_within-ok MOST_BODY field bytes within).1 encoded

body_fits : (bytes body : List ℕ) → IsBytes bytes → proof_body bytes ≡ Some body → IsBytes body
body_fits bytes body fits is = by (is_formed bytes) is
  where
    by : (formed : Bool) → (if formed then Some (body_in bytes) else None) ≡ Some body → IsBytes body
    by true is = let same : body_in bytes ≡ body = cc in subst IsBytes same (IsBytes-drop 17 (text_in bytes) (IsBytes-take _ bytes fits))
    by false is = absurd cc

datagram_fits : (field : List ℕ) (proof : Proof) → datagram_in field ≡ Ok proof → ProofFits One proof
datagram_fits field proof is =
    let (bytes, within, formed) = step_ok (bytes_within MOST_DATAGRAM field) (λ bytes. ok_or (proof_body bytes) cause.Object >>= encoded_proof) proof is in
    let (body, found, encoded) = step_ok (ok_or (proof_body bytes) cause.Object) encoded_proof proof formed in
    encoded_fits body proof (body_fits bytes body (bytes_within-ok MOST_DATAGRAM field bytes within).1 (some_ok (proof_body bytes) cause.Object body found)) encoded

with_proof-fits : (head : List ℕ) (said : Result Proof Cause) (next : Draft) → ((proof : Proof) → said ≡ Ok proof → ProofFits One proof) → with_proof head said ≡ Ok next → DraftFits next
with_proof-fits head said next fits is =
    let (proof, was, moved) = change_ok said (λ proof. Whole (record { head = head; proof = proof })) next is in
    subst DraftFits moved (fits proof was)

line_fits : (number : ℕ) (draft next : Draft) (word : List ℕ) (fields : List (List ℕ)) → DraftFits draft → claim_line_at draft word fields ≡ Ok next → DraftFits next
line_fits number Nothing next word fields fits is =
    let (head, said, moved) = change_ok (digest_said fields) Headed next (when_ok (bytes_eq word (codes "head")) (trusted_head_line fields) cause.Word next is).1 in
    subst DraftFits moved tt
line_fits number (Headed head) next word fields fits is =
    elim (either_ok (bytes_eq word (codes "proof")) (proof_line head fields) (if bytes_eq word (codes "datagram") then datagram_line head fields else Err cause.Word) next is) [
      | inl proof ↦
          let (field, only, with) = step_ok (only_field fields) (λ field. with_proof head (proof_in field)) next proof in
          with_proof-fits head (proof_in field) next (proof_fits field) with
      | inr other ↦
          let (field, only, with) = step_ok (only_field fields) (λ field. with_proof head (datagram_in field)) next (when_ok (bytes_eq word (codes "datagram")) (datagram_line head fields) cause.Word next other).1 in
          with_proof-fits head (datagram_in field) next (datagram_fits field) with
    ]
line_fits number (Whole claim) next word fields fits is = absurd cc

claim_fits : (limit : ℕ) (text : List ℕ) (claim : Claim) → claim_of limit text ≡ Ok claim → ProofFits One claim.proof
unfolding claim_of
claim_fits limit text claim is =
    let (draft, fits, ends) = whole_kept claim_form DraftFits tt line_fits limit text claim is in
    by draft fits ends
  where
    by : (draft : Draft) → DraftFits draft → claim_in draft ≡ Some claim → ProofFits One claim.proof
    by Nothing fits ends = absurd cc
    by (Headed head) fits ends = absurd cc
    by (Whole found) fits ends = let same : found ≡ claim = cc in subst (λ (c : Claim). ProofFits One c.proof) same fits

-- what is read of a text fits
pub given_fits : (given : Result Claim TextError) (limit : ℕ) (text : List ℕ) → GivesText given (claim_of limit text) → IfOk given (λ claim. ProofFits One claim.proof)
given_fits (Ok claim) limit text gives = claim_fits limit text claim gives
given_fits (Err error) limit text gives = tt
