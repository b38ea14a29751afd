-- What is answered to a text, and what a proof that is shown tells.
use Rattle.std.specs.Prelude.{◌≡◌, ◌↔◌, ℕ, ◌+◌, ◌*◌, ◌==◌, nat_lt, Bool, ◌&&◌, bytes_eq, if◌then◌else◌, List, ◌++◌, length, reverse, map, slice_get, All, codes, Result, Ok, Err, Some}
use Rattle.std.specs.Fmt.{decimal}
use Rattle.cs_base.specs.Answers.{Answer}
use Rattle.cs_base.specs.Codes.{bytes_text}
use Rattle.cs_tx_types.specs.declared.limits.TheConstants.{COVERED}
use Rattle.cs_tx_types.specs.declared.vote.Vote.TheVariants as vote
use Rattle.cs_tx_types.specs.declared.action.Action.{Action}
use Rattle.cs_tx_types.specs.declared.action.Action.TheVariants.{Prepare, Decide}
use Rattle.cs_tx_types.specs.declared.effect.Effect.{Effect}
use Rattle.cs_tx_types.specs.declared.effect.Effect.TheVariants.{Voted, Accepted, Aborted, Skipped, Void}
use Rattle.cs_tx_types.specs.declared.leaf.Leaf.{Leaf}
use Rattle.cs_tx_types.specs.declared.checkpoint.Checkpoint.{Checkpoint}
use Rattle.cs_tx_types.specs.declared.proof.Proof.{Proof}
use Rattle.cs_base.specs.declared.version.Version.TheVariants.{One}
use Rattle.cs_tx_types.specs.Log.{leaf_encoding, LeafFits, ProofFits}
use Rattle.cs_tx.specs.Digest.{digest_of_session}
use Rattle.cs_check_rules.specs.Chain.{head_of}
use Rattle.cs_merkle.specs.Path.{path_length, root_by}
use Rattle.cs_check_rules.specs.Shown.{Shows, CoversLeaves, NoProofCollision}
use Rattle.cs_text.specs.Refusals.{refusal_status, refusal_text}
use Rattle.cs_text.specs.declared.cause.Refusal.{Refusal}
use Rattle.cs_verify.specs.declared.claim.Claim.{Claim}
use Rattle.cs_verify.specs.Text.{claim_of}
use Rattle.cs_verify.specs.declared.judging.Verdict.{Verdict}
use Rattle.cs_verify.specs.declared.judging.Verdict.TheVariants.{Shown, NotShown, Refused}
use Rattle.cs_tx_types.specs.Session.{session_in}

-- the path leads from the leaf to the root over the checkpoint's 16
abbrev pub leads : Proof → Bool
leads p =
    nat_lt p.place COVERED
    && (length p.path == path_length COVERED p.place
    && bytes_eq (root_by COVERED p.place (leaf_encoding One p.leaf) (reverse p.path)) p.checkpoint.leaf_root)

-- and the checkpoint has this head, and the leaf is of the slot at its place
abbrev pub is_shown : List ℕ → Proof → Bool
is_shown head p =
    bytes_eq (head_of p.checkpoint) head && (p.leaf.slot == COVERED * p.checkpoint.number + p.place && leads p)

-- the proof is shown to who trusts the head, or it isn't; or the first bad line is told
abbrev pub verdict_on : Claim → Verdict
verdict_on claim = if is_shown claim.head claim.proof then Shown claim.proof else NotShown

abbrev pub claim_verdict : Result Claim Refusal → Verdict
claim_verdict (Ok claim) = verdict_on claim
claim_verdict (Err refusal) = Refused refusal

-- a proof that is shown is within all limits
abbrev pub VerdictFits : Verdict → Type 0
VerdictFits (Shown proof) = ProofFits One proof
VerdictFits NotShown = Unit {0}
VerdictFits (Refused refusal) = Unit {0}

-- ---- what a proof tells that is shown

-- it is of this checkpoint, and has the leaf that the checkpoint covers at that place
pub record IsCovered (c : Checkpoint) (leaves : List Leaf) (p : Proof) : Type 0 where
  pub checkpoint : p.checkpoint ≡ c
  pub leaf : slice_get leaves p.place ≡ Some p.leaf

-- So it is of each checkpoint that has the trusted head, whatever its shard, its number and its roots, where the strings
-- hashed for it and for the proof don't collide.
abbrev pub VerdictTells : List ℕ → Verdict → Type 0
VerdictTells head (Shown p) =
    (c : Checkpoint) (leaves : List Leaf) → head_of c ≡ head →
    All (LeafFits One) leaves → CoversLeaves c (map (leaf_encoding One) leaves) →
    NoProofCollision c (map (leaf_encoding One) leaves) p → IsCovered c leaves p
VerdictTells head NotShown = Unit {0}
VerdictTells head (Refused refusal) = Unit {0}

-- ---- what is printed

abbrev pub entry_words : Action → List ℕ
entry_words (Prepare x) = codes "prepare"
entry_words (Decide vote.Commit x) = codes "decide commit"
entry_words (Decide vote.Abort x) = codes "decide abort"

abbrev pub result_word : Effect → List ℕ
result_word (Voted vote.Commit) = codes "commit"
result_word (Voted vote.Abort) = codes "abort"
result_word Accepted = codes "accepted"
result_word Aborted = codes "aborted"
result_word Skipped = codes "skipped"
result_word Void = codes "void"

-- shard and slot, the entry with the digest of its session, and what its execution came to
abbrev pub shown_line : ℕ → ℕ → Action → Effect → List ℕ
shown_line shard slot entry effect =
    codes "shown " ++ (decimal shard ++ (codes " " ++ (decimal slot ++ (codes " " ++ (entry_words entry
    ++ (codes " " ++ (bytes_text (digest_of_session (session_in entry))
    ++ (codes " " ++ (result_word effect ++ codes "\n")))))))))

abbrev pub claim_text : Verdict → List ℕ
claim_text (Shown p) = shown_line p.checkpoint.shard p.leaf.slot p.leaf.action p.leaf.result
claim_text NotShown = codes "not shown\n"
claim_text (Refused refusal) = refusal_text refusal.line refusal.cause

abbrev pub claim_status : Verdict → ℕ
claim_status (Shown p) = 0
claim_status NotShown = 9
claim_status (Refused refusal) = refusal_status refusal.cause

-- the answer to a text
abbrev pub verify_answer : ℕ → List ℕ → Answer
verify_answer limit text =
    let verdict = claim_verdict (claim_of limit text) in
    record { status = claim_status verdict; printed = claim_text verdict }

-- so it answers `shown` exactly where the proof shows its leaf
abbrev pub ShowsExactly : Claim → Verdict → Type 0
ShowsExactly claim verdict = (verdict ≡ Shown claim.proof) ↔ Shows claim.head claim.proof
