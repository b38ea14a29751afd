-- What is known by tallies is what is known by the inputs.
use Rattle.std.proofs.Common.{◌≡◌, ℕ, ◌+◌, ◌*◌, Bool, true, false, List, refl, ap, ◌∙◌}
use Rattle.std.specs.Prelude.{nat_lt, IfSome}
use Rattle.std.specs.List.{list_all, list_any}
use Rattle.cs_order.specs.Counts.{count_below}
use Rattle.cs_base.specs.declared.config.Config.{Config}
use Rattle.cs_tx_types.specs.Session.{SessionFits}
use Rattle.cs_tx.specs.Digest.{digest_of_session}
use Rattle.cs_tx.specs.Uses.{concerned_shards}
use Rattle.cs_quorum.specs.Marks.{Marks, is_marked}
use Rattle.cs_client.specs.declared.errand.Errand.{Errand}
use Rattle.cs_client.specs.declared.phases.Phase.{Phase as Kept}
use Rattle.cs_client.specs.declared.phases.Phase.TheVariants as kept
use Rattle.cs_client.specs.Inputs.{ClientInput}
use Rattle.cs_client.specs.Phases.{phase, submitted}
use Rattle.cs_client.specs.Knowing.{has_decided, knows_decided, outcome, known_in, knows}
use Rattle.cs_client.specs.Voices.{is_enough}
use Rattle.cs_client.specs.Seen.{phase_seen, PhaseFits, known_kept}
use Rattle.cs_client.specs.Hearing.{KeepsTally, KeepsVoices, KeepsHeard}
use Rattle.cs_client.proofs.Members.{node_at}
use Rattle.cs_client.proofs.Counted.{counts-alike, all-paired, any-paired}

enough : (e : Errand) (accepted : Bool) (inputs : List ClientInput) (shard : ℕ) (tally : Marks) → KeepsTally e accepted inputs shard tally → is_enough e.config.f tally ≡ knows_decided e accepted inputs shard
enough e accepted inputs shard tally keeps =
    ap (nat_lt e.config.f)
    (ap (λ n. count_below n (is_marked tally)) keeps.members
    ∙ counts-alike (3 * e.config.f + 1) (is_marked tally) (λ n. has_decided e accepted inputs (node_at shard n)) keeps.marks)

kept-known : (e : Errand) (inputs : List ClientInput) (now : Kept) → PhaseFits e.config now → KeepsHeard e inputs now → known_kept e.config.f now ≡ known_in e inputs (phase_seen now)
kept-known e inputs kept.Asking fits heard = refl
kept-known e inputs (kept.Wanting wanted) fits heard = refl
kept-known e inputs kept.Idle fits heard = refl
kept-known e inputs (kept.Submitting s) fits heard =
    let shards = concerned_shards e.config s.session in
    let accepted = all-paired (KeepsVoices e inputs) (knows_decided e true inputs) (λ one. is_enough e.config.f one.accepted)
    (λ shard v keeps. enough e true inputs shard v.accepted keeps.accepted) shards s.voices.items heard in
    let aborted = any-paired (KeepsVoices e inputs) (knows_decided e false inputs) (λ one. is_enough e.config.f one.aborted)
    (λ shard v keeps. enough e false inputs shard v.aborted keeps.aborted) shards s.voices.items heard in
    let digest = digest_of_session s.session in
    ap (λ d. outcome d (list_all (λ one. is_enough e.config.f one.accepted) s.voices.items) (list_any (λ one. is_enough e.config.f one.aborted) s.voices.items)) fits.digest_is
    ∙ (ap (λ a. outcome digest a (list_any (λ one. is_enough e.config.f one.aborted) s.voices.items)) accepted
    ∙ ap (outcome digest (list_all (knows_decided e true inputs) shards)) aborted)

-- what is known in a phase that is kept of these inputs
pub known-so : (e : Errand) (inputs : List ClientInput) (now : Kept) → PhaseFits e.config now → phase_seen now ≡ phase e inputs → KeepsHeard e inputs now → known_kept e.config.f now ≡ knows e inputs
known-so e inputs now fits is heard = kept-known e inputs now fits heard ∙ ap (known_in e inputs) is

-- the session that is submitted is within its limits
pub submitted-fits : (config : Config) (now : Kept) → PhaseFits config now → IfSome (submitted (phase_seen now)) SessionFits
submitted-fits config kept.Asking fits = tt
submitted-fits config (kept.Wanting wanted) fits = tt
submitted-fits config (kept.Submitting s) fits = fits.fits
submitted-fits config kept.Idle fits = tt
