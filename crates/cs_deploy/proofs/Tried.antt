-- What becomes of a client whose call is made again after it was aborted.
use Rattle.std.proofs.Common.{◌≡◌, ◌≢◌, ◌++◌, ℕ, ◌+◌, ◌-◌, ◌^◌, List, [], ◌∷◌, Option, Some, None, refl, sym, ap, inl, inr, ◌∙◌}
use Rattle.std.specs.Prelude.{min, reverse}
use Rattle.cs_io.specs.Told.{Stays}
use Rattle.cs_io.specs.Store.{Files}
use Rattle.cs_io.specs.Outside.{LinkTold, Beside, beside}
use Rattle.cs_io.specs.declared.until.Until.{Until}
use Rattle.cs_io.specs.laws.Told.{changes-after}
use Rattle.cs_tx_types.specs.declared.session.Session.{Session}
use Rattle.cs_config.specs.declared.call.CallFile.{CallFile}
use Rattle.cs_config.specs.declared.hosts.Hosts.{Hosts}
use Rattle.cs_proc.specs.declared.error.ProcError.{ProcError}
use Rattle.cs_judge.specs.declared.fault.CallFault.{CallFault}
use Rattle.cs_client.specs.Inputs.{ClientInput}
use Rattle.cs_tries.specs.Tries.{Try}
use Rattle.cs_serve.specs.declared.receiving.TheConstants.{MOST_MISSED}
use Rattle.cs_serve.specs.declared.client_ending.Ending.TheVariants.{Knows, Refused, LinkFault, Memory}
use Rattle.cs_tries.specs.declared.ending.TryEnding.{TryEnding}
use Rattle.cs_tries.specs.declared.ending.TryEnding.TheVariants.{Ended, Told, Waits, WriteFault}
use Rattle.cs_serve.specs.Attending.{missed_past}
use Rattle.cs_tries.specs.Trying.{TriesRefused, TriesCut, TriesEnd, AttendsTries}
use Rattle.cs_deploy.specs.declared.setups.Setup.{Setup}
use Rattle.cs_deploy.specs.declared.wishes.Wishes.{Wishes}
use Rattle.cs_deploy.specs.Hosts.{ClientFilesCome}
use Rattle.cs_deploy.specs.Untaken.{IsDecided}
use Rattle.cs_deploy.specs.Binding.{link_answer}
use Rattle.cs_deploy.specs.Client.{known_answer, refused_answer, IsToldOf}
use Rattle.cs_deploy.specs.Tries.{waits_answer, TellsTryEnding, judged, fault_answer, TriesGo, TriesGoBy, TriesRun}
use Rattle.cs_deploy.proofs.Answered.{answers-other}
use Rattle.cs_deploy.proofs.Decided.{told-of, known-other, runs-decided, runs-other}
use Rattle.cs_deploy.proofs.Later.{gives-later}

abbrev Came : List ClientInput → List ClientInput → List ClientInput → Type 0
Came inputs before now = (taken : List ClientInput) × (before ≡ taken ++ now) × (inputs ≡ reverse taken)

-- a bind changed nothing of this
pub tries-later : (first : Try) (until : Until) (a b : LinkTold) (w w' : Option (List ℕ)) (c : Beside LinkTold) (ending : TryEnding) → Stays a.left b.left → Stays a.offered b.offered → b.missed ≡ a.missed → w' ≡ w
    → AttendsTries first until (beside b w') c ending → AttendsTries first until (beside a w) c ending
tries-later first until a b w w' c ending stays kept same unwritten attends = record {
  inputs = attends.inputs;
  needed = attends.needed;
  takes = changes-after (Came attends.inputs) a.left b.left c.told.left stays attends.takes;
  unknown = attends.unknown;
  ends = by ending attends.inputs attends.ends;
}
  where
    refused : (inputs : List ClientInput) (cause : ProcError) → TriesRefused first inputs (beside b w') c cause → TriesRefused first inputs (beside a w) c cause
    refused [] cause ends = ends
    refused (input ∷ past) cause (is, gives) = (is, gives-later a b w w' c kept unwritten _ _ gives)

    cut : (inputs : List ClientInput) → TriesCut first inputs (beside b w') c → TriesCut first inputs (beside a w) c
    cut [] ends = gives-later a b w w' c kept unwritten _ _ ends
    cut (input ∷ past) (between, gives, part) = (between, gives-later a b w w' between kept unwritten _ _ gives, part)

    by : (ending : TryEnding) (inputs : List ClientInput) → TriesEnd first until inputs (beside b w') c ending → TriesEnd first until inputs (beside a w) c ending
    by (Ended (Knows so)) inputs (is, over, gives) = (is, over, gives-later a b w w' c kept unwritten _ _ gives)
    by (Ended (Refused cause)) inputs ends = refused inputs cause ends
    by (Ended LinkFault) inputs (missing, is, gives) =
        (missing ∙ ap (λ n. min (missed_past n inputs + MOST_MISSED) (2 ^ 64 - 1)) same, is, gives-later a b w w' c kept unwritten _ _ gives)
    by (Ended Memory) inputs ends = cut inputs ends
    by (Told digest) inputs (is, gives) = (is, gives-later a b w w' c kept unwritten _ _ gives)
    by (Waits text) inputs (is, lines, over, gives) = (is, lines, over, gives-later a b w w' c kept unwritten _ _ gives)
    by WriteFault inputs ends = cut inputs ends

module _ (setup : Setup) (call : CallFile) (session : Option Session) (hosts : Option Hosts) (wishes : Wishes) (until : Until) (Failed : Type 0) (old new : Beside LinkTold) (status : ℕ) where
  pub tries-done : (fault : Option CallFault) → TriesGoBy fault setup call session hosts wishes until Failed old new status → (Failed → ⊥) → status ≢ 6 → status ≢ 8 → IsToldOf status
  tries-done (Some fault) goes links writes other = inr (inr (goes.1.verdict writes other).0)
  tries-done None (inl is) links writes other = absurd (other is.silent.0)
  tries-done None (inr (inl is)) links writes other = absurd (links is.failed)
  tries-done None (inr (inr is)) links writes other = by is.ending is.failed is.told
    where
      by : (e : TryEnding) → (e ≡ Ended LinkFault → Failed) → TellsTryEnding e is.written new.written status → IsToldOf status
      by (Ended (Knows so)) failed tells = told-of so status (tells.verdict writes other).0
      by (Ended (Refused cause)) failed tells = inr (inr (tells.verdict writes other).0)
      by (Ended LinkFault) failed tells = absurd (links (failed refl))
      by (Ended Memory) failed tells = absurd (other tells.0)
      by (Told digest) failed tells = inl tells.0
      by (Waits text) failed tells = inr (inl (tells.verdict writes other).0)
      by WriteFault failed tells = absurd (writes tells.0)

  pub tries-other : (fault : Option CallFault) (n : ℕ) → TriesGoBy fault setup call session hosts wishes until Failed old new status → 0 ≢ n → 10 ≢ n → 3 ≢ n → 7 ≢ n → 6 ≢ n → 8 ≢ n → status ≢ n
  tries-other (Some fault) n goes zero ten three seven six eight = answers-other (fault_answer fault) old.written new.written status n goes.1 three six eight
  tries-other None n (inl is) zero ten three seven six eight = λ p. eight (sym is.silent.0 ∙ p)
  tries-other None n (inr (inl is)) zero ten three seven six eight = answers-other link_answer old.written new.written status n is.told seven six eight
  tries-other None n (inr (inr is)) zero ten three seven six eight = by is.ending is.told
    where
      by : (e : TryEnding) → TellsTryEnding e is.written new.written status → status ≢ n
      by (Ended (Knows so)) tells = answers-other (known_answer so) is.written new.written status n tells (known-other so n zero ten) six eight
      by (Ended (Refused cause)) tells = answers-other (refused_answer cause) is.written new.written status n tells three six eight
      by (Ended LinkFault) tells = answers-other link_answer is.written new.written status n tells seven six eight
      by (Ended Memory) tells = λ p. eight (sym tells.0 ∙ p)
      by (Told digest) tells = λ p. zero (sym tells.0 ∙ p)
      by (Waits text) tells = answers-other (waits_answer text) is.written new.written status n tells ten six eight
      by WriteFault tells = λ p. six (sym tells.0 ∙ p)

module _ (site keys call : List ℕ) (hosts : Option (List ℕ)) (wishes : Wishes) (until : Until) (Failed Linked : Type 0) (files : Option Files) (old new : Beside LinkTold) (status : ℕ) where
  pub tries-run-decided : TriesRun site keys call hosts wishes until Failed Linked files old new status → (Failed → ⊥) → (Linked → ⊥) → status ≢ 6 → IsDecided (ClientFilesCome site keys call hosts) IsToldOf files status
  tries-run-decided runs stores links writes =
      runs-decided (ClientFilesCome site keys call hosts) (λ taken. TriesGo taken.0.0 taken.0.1 taken.1 wishes until Linked) Failed files old new status IsToldOf runs stores writes
      (λ taken goes other. tries-done taken.0.0 taken.0.1 None taken.1 wishes until Linked old new status (judged wishes.details taken.0.0 taken.0.1) goes links writes other)

  pub tries-run-other : (n : ℕ) → TriesRun site keys call hosts wishes until Failed Linked files old new status → 0 ≢ n → 10 ≢ n → 3 ≢ n → 7 ≢ n → 12 ≢ n → 6 ≢ n → 8 ≢ n → status ≢ n
  tries-run-other n runs zero ten three seven twelve six eight =
      runs-other (ClientFilesCome site keys call hosts) (λ taken. TriesGo taken.0.0 taken.0.1 taken.1 wishes until Linked) Failed files old new status n runs twelve six eight
      (λ taken goes. tries-other taken.0.0 taken.0.1 None taken.1 wishes until Linked old new status (judged wishes.details taken.0.0 taken.0.1) n goes zero ten three seven six eight)
