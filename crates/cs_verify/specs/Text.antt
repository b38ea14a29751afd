-- A text, and what it comes to: a claim, or its first bad line.
use Rattle.std.specs.Prelude.{ℕ, List, Option, Some, None, Result}
use Rattle.cs_text.specs.Text.{TextForm, whole_of}
use Rattle.cs_text.specs.declared.cause.Refusal.{Refusal}
use Rattle.cs_verify.specs.Lines.{claim_line_at}
use Rattle.cs_verify.specs.declared.claim.Claim.{Claim}
use Rattle.cs_verify.specs.declared.claim.Draft.{Draft}
use Rattle.cs_verify.specs.declared.claim.Draft.TheVariants.{Nothing, Headed, Whole}

-- a claim is whole where both lines were met
abbrev pub claim_in : Draft → Option Claim
claim_in Nothing = None
claim_in (Headed head) = None
claim_in (Whole claim) = Some claim

-- how claims are read
abbrev pub claim_form : TextForm Draft Claim
claim_form = record {
  start = Nothing;
  step = λ number draft word fields. claim_line_at draft word fields;
  finish = claim_in;
}

-- the claim of a text, or its first bad line; of a text above the limit the lines that end within it are read
unfoldable pub claim_of : ℕ → List ℕ → Result Claim Refusal
claim_of limit text = whole_of claim_form limit text
