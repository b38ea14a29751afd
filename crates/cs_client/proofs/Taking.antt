-- What becomes of what is kept by what a node says.
use Rattle.std.proofs.Common.{◌≡◌, ℕ, Bool, true, false, List, [], ◌∷◌, Some, None, Result, Ok, Err, refl, sym, ap, subst, ◌∙◌, arith}
use Rattle.std.specs.Prelude.{OnOk, bytes_eq, ◌==◌}
use Rattle.cs_base.specs.declared.config.Config.{Config}
use Rattle.cs_base.specs.declared.key.Key.{Key}
use Rattle.cs_base.specs.declared.node_id.NodeId.{NodeId}
use Rattle.cs_base.specs.NodeId.{is_node}
use Rattle.cs_tx_types.specs.Session.{SessionFits}
use Rattle.cs_tx_types.specs.declared.state.State.{State}
use Rattle.cs_tx_types.specs.State.{StateFits}
use Rattle.cs_tx.specs.Digest.{digest_of_session}
use Rattle.cs_tx.specs.Uses.{concerned_shards}
use Rattle.cs_wire_message.specs.declared.message.Message.{Message}
use Rattle.cs_wire_message.specs.declared.message.Message.TheVariants as message
use Rattle.cs_client.specs.declared.counting.Voices.{Voices}
use Rattle.cs_client.specs.declared.errand.Errand.{Errand}
use Rattle.cs_client.specs.declared.phases.Phase.{Phase as Kept}
use Rattle.cs_client.specs.declared.phases.Phase.TheVariants as kept
use Rattle.cs_client.specs.declared.phases.Submission.{Submission}
use Rattle.cs_client.specs.Nodes.{nodes_of_shards}
use Rattle.cs_client.specs.Inputs.{ClientInput, heard}
use Rattle.cs_client.specs.Objects.{told_in}
use Rattle.cs_client.specs.Dummies.{dummy_word_in}
use Rattle.cs_client.specs.Phases.{Phase, Asking, Wanting, Submitting, Idle, phase}
use Rattle.cs_client.specs.Knowing.{is_decision, says_decided}
use Rattle.cs_client.specs.Kept.{WordsTold, told_by_inputs, heard_of, ToldFits, ToldMarked}
use Rattle.cs_client.specs.Voices.{Pairwise, HeardThere, HeardFrom, VoicesFit, EachFits}
use Rattle.cs_client.specs.Seen.{phase_seen, SubmissionFits, IsSoundClient, VoicesAfter, CountsIn, Counts}
use Rattle.cs_client.specs.Hearing.{KeepsHeard, Hears}
use Rattle.cs_client.proofs.Telling.{unheard-told, stranger-told, other-told, told-heard}
use Rattle.cs_client.proofs.Deciding.{unheard-heard, other-heard, stranger-heard, decided-heard}
use Rattle.cs_client.proofs.Counted.{paired-first}
use Rattle.cs_client.proofs.Beginning.{heard-fits, heard-marked}

-- a fact that follows from one that holds unless memory ran out
pub on-ok : {A E : Type 0} (r : Result A E) (P Q : Type 0) → (P → Q) → OnOk r P → OnOk r Q
on-ok (Ok x) P Q follows h = follows h
on-ok (Err e) P Q follows h = tt

-- ---- nothing changes

pub nothing-taken : (e : Errand) (past : List ClientInput) (input : ClientInput) (told : WordsTold) (now : Kept) → IsSoundClient e told now → told_by_inputs e (input ∷ past) ≡ told_by_inputs e past
    → (KeepsHeard e past now → KeepsHeard e (input ∷ past) now) → Hears e past input told now told now
nothing-taken e past input told now sound same heard = record {
  sound = sound;
  keeps = λ k. record { told_is = k.told_is ∙ sym same; phase_is = k.phase_is; heard = heard k.heard };
}

pub unheard-taken : (e : Errand) (past : List ClientInput) (input : ClientInput) (told : WordsTold) (now : Kept) → IsSoundClient e told now → heard e.keys input ≡ None → Hears e past input told now told now
unheard-taken e past input told now sound none =
    nothing-taken e past input told now sound (unheard-told e input past none) (unheard-heard e past input now none)

pub stranger-taken : (e : Errand) (past : List ClientInput) (input : ClientInput) (told : WordsTold) (now : Kept) (from : NodeId) (m : Message) → IsSoundClient e told now → heard e.keys input ≡ Some (from, m) → is_node e.config from ≡ false → Hears e past input told now told now
stranger-taken e past input told now from m sound said other =
    nothing-taken e past input told now sound (stranger-told e input past from m said other) (stranger-heard e past input from m said now other)

-- a message that tells of no key and decides nothing
pub record IsOther (m : Message) : Type 0 where
  pub names : (name : List ℕ) → told_in name m ≡ None
  pub dummies : (shard : ℕ) → dummy_word_in shard m ≡ None
  pub decisions : (p : Phase) (accepted : Bool) → says_decided p accepted m ≡ false

decides-none : (p : Phase) (accepted : Bool) (m : Message) → ((digest : List ℕ) → is_decision digest accepted m ≡ false) → says_decided p accepted m ≡ false
decides-none Asking accepted m none = refl
decides-none (Wanting x) accepted m none = refl
decides-none (Submitting x) accepted m none = none (digest_of_session x)
decides-none Idle accepted m none = refl

plain : (m : Message) → ((name : List ℕ) → told_in name m ≡ None) → ((shard : ℕ) → dummy_word_in shard m ≡ None) → ((digest : List ℕ) (accepted : Bool) → is_decision digest accepted m ≡ false) → IsOther m
plain m names dummies none = record { names = names; dummies = dummies; decisions = λ p accepted. decides-none p accepted m (λ digest. none digest accepted) }

pub is-other : (m : Message) → ((k : Key) (s : State) → m ≡ message.Told k s → ⊥) → ((digest : List ℕ) (so : Bool) → m ≡ message.Decided digest so → ⊥) → IsOther m
is-other (message.Told k s) tells says = absurd (tells k s refl)
is-other (message.Decided digest so) tells says = absurd (says digest so refl)
is-other m tells says = plain m (λ n. refl) (λ n. refl) (λ d a. refl)

pub other-taken : (e : Errand) (past : List ClientInput) (input : ClientInput) (told : WordsTold) (now : Kept) (from : NodeId) (m : Message) → IsSoundClient e told now → heard e.keys input ≡ Some (from, m) → IsOther m → Hears e past input told now told now
other-taken e past input told now from m sound said other =
    nothing-taken e past input told now sound (other-told e input past from m said other.names other.dummies)
    (other-heard e past input from m said now (other.decisions (phase e past)))

-- ---- a node tells of a key

told-decides : (k : Key) (s : State) (p : Phase) (accepted : Bool) → says_decided p accepted (message.Told k s) ≡ false
told-decides k s Asking accepted = refl
told-decides k s (Wanting x) accepted = refl
told-decides k s (Submitting x) accepted = refl
told-decides k s Idle accepted = refl

pub told-taken : (e : Errand) (past : List ClientInput) (input : ClientInput) (told told' : WordsTold) (now : Kept) (from : NodeId) (k : Key) (s : State) → IsSoundClient e told now
    → heard e.keys input ≡ Some (from, message.Told k s) → is_node e.config from ≡ true → StateFits s → told' ≡ heard_of e.config from k s told → Hears e past input told now told' now
told-taken e past input told told' now from k s sound said known fits is = record {
  sound = record {
    told_fits = subst (ToldFits e.config) (sym is) (heard-fits e.config from k s told known fits sound.told_fits);
    told_marked = subst (ToldMarked e.config.f) (sym is) (heard-marked e.config from k s told sound.told_marked);
    phase_fits = sound.phase_fits;
  };
  keeps = λ keeps. record {
    told_is = is ∙ (ap (heard_of e.config from k s) keeps.told_is ∙ sym (told-heard e input past from k s said known));
    phase_is = keeps.phase_is;
    heard = other-heard e past input from (message.Told k s) said now (told-decides k s (phase e past)) keeps.heard;
  };
}

-- ---- a node decides

heard-fit : (f : ℕ) (from : NodeId) (so : Bool) (old new : Voices) → HeardFrom from so old new → VoicesFit f old → VoicesFit f new
heard-fit f from so old new heard fits = by (old.shard == from.shard) heard where
  by : (there : Bool) → HeardThere there from.index so old new → VoicesFit f new
  by true heard = (heard.accepted_is.members ∙ fits.0, heard.aborted_is.members ∙ fits.1)
  by false still = subst (VoicesFit f) (sym still) fits

each-fit : (f : ℕ) (from : NodeId) (so : Bool) (old new : List Voices) → Pairwise (HeardFrom from so) old new → EachFits f old → EachFits f new
each-fit f from so [] [] pairs fits = tt
each-fit f from so [] (w ∷ new) pairs fits = let e = pairs.many in absurd (omega arith)
each-fit f from so (v ∷ old) [] pairs fits = let e = pairs.many in absurd (omega arith)
each-fit f from so (v ∷ old) (w ∷ new) pairs fits =
    let parts = paired-first (HeardFrom from so) v old w new pairs in
    (heard-fit f from so v w parts.0 fits.0, each-fit f from so old new parts.1 fits.1)

voices-fit : (f : ℕ) (same : Bool) (from : NodeId) (so : Bool) (old new : List Voices) → VoicesAfter same from so old new → EachFits f old → EachFits f new
voices-fit f true from so old new after fits = each-fit f from so old new after fits
voices-fit f false from so old new after fits = subst (EachFits f) (sym after) fits

counts-fit : (config : Config) (from : NodeId) (digest : List ℕ) (so : Bool) (old new : Submission) → CountsIn from digest so old new → SubmissionFits config old → SubmissionFits config new
counts-fit config from digest so old new counts fits = record {
  fits = subst SessionFits (sym counts.session_is) fits.fits;
  digest_is = counts.digest_is ∙ (fits.digest_is ∙ ap digest_of_session (sym counts.session_is));
  nodes_are = counts.nodes_are ∙ (fits.nodes_are ∙ ap (λ x. nodes_of_shards config.f (concerned_shards config x)) (sym counts.session_is));
  voices = voices-fit config.f (bytes_eq old.digest digest) from so old.voices.items new.voices.items counts.voices fits.voices;
}

-- where nothing is submitted yet
idle-counted : (e : Errand) (past : List ClientInput) (input : ClientInput) (told : WordsTold) (old new : Kept) (from : NodeId) (digest : List ℕ) (so : Bool) → IsSoundClient e told old
    → heard e.keys input ≡ Some (from, message.Decided digest so) → ((accepted : Bool) → says_decided (phase_seen old) accepted (message.Decided digest so) ≡ false) → new ≡ old → Hears e past input told old told new
idle-counted e past input told old new from digest so sound said none still =
    subst (λ now. Hears e past input told old told now) (sym still) (record {
      sound = sound;
      keeps = λ k. record {
        told_is = k.told_is ∙ sym (other-told e input past from (message.Decided digest so) said (λ name. refl) (λ shard. refl));
        phase_is = k.phase_is;
        heard = other-heard e past input from (message.Decided digest so) said old
            (λ accepted. ap (λ p. says_decided p accepted (message.Decided digest so)) (sym k.phase_is) ∙ none accepted) k.heard;
      };
    })

pub decided-taken : (e : Errand) (past : List ClientInput) (input : ClientInput) (told : WordsTold) (old new : Kept) (from : NodeId) (digest : List ℕ) (so : Bool) → IsSoundClient e told old
    → heard e.keys input ≡ Some (from, message.Decided digest so) → Counts from digest so old new → Hears e past input told old told new
decided-taken e past input told kept.Asking new from digest so sound said counts = idle-counted e past input told kept.Asking new from digest so sound said (λ accepted. refl) counts
decided-taken e past input told (kept.Wanting wanted) new from digest so sound said counts = idle-counted e past input told (kept.Wanting wanted) new from digest so sound said (λ accepted. refl) counts
decided-taken e past input told kept.Idle new from digest so sound said counts = idle-counted e past input told kept.Idle new from digest so sound said (λ accepted. refl) counts
decided-taken e past input told (kept.Submitting old) kept.Asking from digest so sound said counts = absurd counts
decided-taken e past input told (kept.Submitting old) (kept.Wanting wanted) from digest so sound said counts = absurd counts
decided-taken e past input told (kept.Submitting old) kept.Idle from digest so sound said counts = absurd counts
decided-taken e past input told (kept.Submitting old) (kept.Submitting new) from digest so sound said counts = record {
  sound = record { told_fits = sound.told_fits; told_marked = sound.told_marked; phase_fits = counts-fit e.config from digest so old new counts sound.phase_fits };
  keeps = λ k. record {
    told_is = k.told_is ∙ sym (other-told e input past from (message.Decided digest so) said (λ name. refl) (λ shard. refl));
    phase_is = ap Submitting counts.session_is ∙ k.phase_is;
    heard = decided-heard e past input from digest so said old new (sym k.phase_is) sound.phase_fits.digest_is k.heard counts;
  };
}
