-- What is kept of the inputs, and how it changes by what is heard.
use Rattle.std.specs.Prelude.{◌≡◌, ℕ, ◌<◌, ◌+◌, ◌*◌, Bool, true, false, List, ◌∷◌}
use Rattle.cs_tx.specs.Uses.{concerned_shards}
use Rattle.cs_wire.specs.declared.input.Out.{Out}
use Rattle.cs_quorum.specs.Marks.{Marks, members_of, is_marked}
use Rattle.cs_client.specs.declared.counting.Voices.{Voices}
use Rattle.cs_client.specs.declared.errand.Errand.{Errand}
use Rattle.cs_client.specs.declared.phases.Phase.{Phase as Kept}
use Rattle.cs_client.specs.declared.phases.Phase.TheVariants as kept
use Rattle.cs_client.specs.Inputs.{ClientInput}
use Rattle.cs_client.specs.Phases.{Phase, phase}
use Rattle.cs_client.specs.Knowing.{has_decided, knows}
use Rattle.cs_client.specs.Sayings.{again, at_tick, outs_of_sayings}
use Rattle.cs_client.specs.Kept.{WordsTold, told_by_inputs}
use Rattle.cs_client.specs.Voices.{Pairwise}
use Rattle.cs_client.specs.Seen.{phase_seen, IsSoundClient}

-- of each node of a shard whether it has said so
pub record KeepsTally (e : Errand) (accepted : Bool) (inputs : List ClientInput) (shard : ℕ) (tally : Marks)
    : Type 0 where
  pub members : members_of tally ≡ 3 * e.config.f + 1
  pub marks : (n : ℕ) → n < 3 * e.config.f + 1
      → is_marked tally n ≡ has_decided e accepted inputs (record { shard = shard; index = n })

pub record KeepsVoices (e : Errand) (inputs : List ClientInput) (shard : ℕ) (voices : Voices) : Type 0 where
  pub shard_is : voices.shard ≡ shard
  pub accepted : KeepsTally e true inputs shard voices.accepted
  pub aborted : KeepsTally e false inputs shard voices.aborted

-- of each shard that the session concerns
abbrev pub KeepsHeard : Errand → List ClientInput → Kept → Type 0
KeepsHeard e inputs kept.Asking = Unit {0}
KeepsHeard e inputs (kept.Wanting wanted) = Unit {0}
KeepsHeard e inputs (kept.Submitting s) =
    Pairwise (KeepsVoices e inputs) (concerned_shards e.config s.session) s.voices.items
KeepsHeard e inputs kept.Idle = Unit {0}

-- beliefs and phase are kept of these inputs; the phase may be one that is to move on
pub record Keeps (e : Errand) (inputs : List ClientInput) (now : Phase) (told : WordsTold) (kept : Kept) : Type 0 where
  pub told_is : told ≡ told_by_inputs e inputs
  pub phase_is : phase_seen kept ≡ now
  pub heard : KeepsHeard e inputs kept

-- an input was heard, and the phase hasn't moved on yet
pub record Hears (e : Errand) (past : List ClientInput) (input : ClientInput)
    (told : WordsTold) (kept : Kept) (told' : WordsTold) (kept' : Kept) : Type 0 where
  pub sound : IsSoundClient e told' kept'
  pub keeps : Keeps e past (phase e past) told kept → Keeps e (input ∷ past) (phase e past) told' kept'

-- an input was taken, and this was said of it
pub record ClientTakesIn (e : Errand) (past : List ClientInput) (input : ClientInput)
    (told : WordsTold) (kept : Kept) (told' : WordsTold) (kept' : Kept) (outs : List Out) : Type 0 where
  pub hears : Hears e past input told kept told' kept'
  pub says : Keeps e past (phase e past) told kept
      → outs ≡ outs_of_sayings e.keys (at_tick input (again e (knows e past) (phase e past)))
