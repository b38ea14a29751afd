-- What becomes of a client that submits a session which was made before.
use Rattle.std.specs.Prelude.{◌≡◌, ◌≢◌, ℕ, List, Option, Some, None, Bool, true, false, is_none, ◌&&◌, ◌==◌}
use Rattle.std.proofs.Common.{refl, sym, ap, inl, inr, ◌∙◌}
use Rattle.cs_base.specs.Fields.{IsBytes, whole_at}
use Rattle.cs_base.specs.declared.config.Config.{Config}
use Rattle.cs_base.proofs.Forms.{whole-takes, whole-again}
use Rattle.cs_io.specs.Store.{Files}
use Rattle.cs_io.specs.Outside.{LinkTold, Beside}
use Rattle.cs_io.specs.declared.until.Until.{Until}
use Rattle.cs_tx_types.specs.declared.session.Session.{Session}
use Rattle.cs_tx_types.specs.Reading.{session_at}
use Rattle.cs_tx_types.specs.Session.{session_encoding, SessionFits}
use Rattle.cs_tx_types.specs.laws.Session.{session_form}
use Rattle.cs_tx.specs.declared.malformed.Malformed.{Malformed}
use Rattle.cs_tx.specs.WellFormed.{IsWellFormed, fault_of}
use Rattle.cs_config.specs.declared.call.CallFile.{CallFile}
use Rattle.cs_config.specs.declared.hosts.Hosts.{Hosts}
use Rattle.cs_deploy.specs.declared.setups.Setup.{Setup}
use Rattle.cs_deploy.specs.Hosts.{ClientFilesCome}
use Rattle.cs_deploy.specs.Untaken.{IsDecided}
use Rattle.cs_deploy.specs.Client.{IsToldOf}
use Rattle.cs_deploy.specs.Session.{is_of_call, no_session_answer, wishes_of, Resumes, SessionGoes, SessionRuns}
use Rattle.cs_deploy.proofs.Answered.{answers-other}
use Rattle.cs_deploy.proofs.Decided.{runs-decided, runs-other}
use Rattle.cs_deploy.proofs.Tried.{tries-done, tries-other}

-- ---- the session that bytes encode, or that they encode none

pub session_found : (bytes : List ℕ) (session : Session) → SessionFits session → bytes ≡ session_encoding session → whole_at session_at bytes ≡ Some session
session_found bytes session fits is = ap (λ text. whole_at session_at text) is ∙ whole-again session_encoding SessionFits session_at session_form session fits

pub session_missing : (bytes : List ℕ) → IsBytes bytes → ((session : Session) → SessionFits session → bytes ≢ session_encoding session) → whole_at session_at bytes ≡ None
session_missing bytes fits none = by (whole_at session_at bytes) refl
  where
    by : (found : Option Session) → whole_at session_at bytes ≡ found → whole_at session_at bytes ≡ None
    by None is = is
    by (Some session) is = let (session_fits, same) = whole-takes session_encoding SessionFits session_at session_form bytes session fits is in absurd (none session session_fits same)

-- ---- a session of the call is well-formed

and-right : (a b : Bool) → (a && b) ≡ true → b ≡ true
and-right true b is = is
and-right false b is = absurd (let e : false ≡ true = is in cc)

none-from : (fault : Option Malformed) → is_none fault ≡ true → fault ≡ None
none-from None is = refl
none-from (Some fault) is = absurd (let e : false ≡ true = is in cc)

pub formed-of : (config : Config) (number : ℕ) (x : Session) → is_of_call config number x ≡ true → IsWellFormed config x
formed-of config number x is = none-from (fault_of config x) (and-right (x.number == number) (is_none (fault_of config x)) is)

-- ---- what decides, and which statuses there are

module _ (setup : Setup) (call : CallFile) (hosts : Option Hosts) (details : Bool) (until : Until) (Failed : Type 0) (old new : Beside LinkTold) (status : ℕ) where
  resumes-done : (session : Option Session) → Resumes setup call hosts details until Failed session old new status → (Failed → ⊥) → status ≢ 6 → status ≢ 8 → IsToldOf status
  resumes-done None goes links writes other = inr (inr (goes.1.verdict writes other).0)
  resumes-done (Some x) goes links writes other = tries-done setup call (Some x) hosts (wishes_of details) until Failed old new status None goes links writes other

  resumes-other : (session : Option Session) (n : ℕ) → Resumes setup call hosts details until Failed session old new status → 0 ≢ n → 10 ≢ n → 3 ≢ n → 7 ≢ n → 6 ≢ n → 8 ≢ n → status ≢ n
  resumes-other None n goes zero ten three seven six eight = answers-other no_session_answer old.written new.written status n goes.1 three six eight
  resumes-other (Some x) n goes zero ten three seven six eight = tries-other setup call (Some x) hosts (wishes_of details) until Failed old new status None n goes zero ten three seven six eight

  session-done : (word : List ℕ) → SessionGoes setup call hosts word details until Failed old new status → (Failed → ⊥) → status ≢ 6 → status ≢ 8 → IsToldOf status
  session-done word (inl is) links writes other = absurd (other is.silent.0)
  session-done word (inr goes) links writes other = resumes-done _ goes links writes other

  session-other : (word : List ℕ) (n : ℕ) → SessionGoes setup call hosts word details until Failed old new status → 0 ≢ n → 10 ≢ n → 3 ≢ n → 7 ≢ n → 6 ≢ n → 8 ≢ n → status ≢ n
  session-other word n (inl is) zero ten three seven six eight = λ p. eight (sym is.silent.0 ∙ p)
  session-other word n (inr goes) zero ten three seven six eight = resumes-other _ n goes zero ten three seven six eight

module _ (site keys call : List ℕ) (hosts : Option (List ℕ)) (word : List ℕ) (details : Bool) (until : Until) (Failed Linked : Type 0) (files : Option Files) (old new : Beside LinkTold) (status : ℕ) where
  pub session-runs-decided : SessionRuns site keys call hosts word details until Failed Linked files old new status → (Failed → ⊥) → (Linked → ⊥) → status ≢ 6 → IsDecided (ClientFilesCome site keys call hosts) IsToldOf files status
  session-runs-decided runs stores links writes =
      runs-decided (ClientFilesCome site keys call hosts) (λ taken. SessionGoes taken.0.0 taken.0.1 taken.1 word details until Linked) Failed files old new status IsToldOf runs stores writes
      (λ taken goes other. session-done taken.0.0 taken.0.1 taken.1 details until Linked old new status word goes links writes other)

  pub session-runs-other : (n : ℕ) → SessionRuns site keys call hosts word details until Failed Linked files old new status → 0 ≢ n → 10 ≢ n → 3 ≢ n → 7 ≢ n → 12 ≢ n → 6 ≢ n → 8 ≢ n → status ≢ n
  session-runs-other n runs zero ten three seven twelve six eight =
      runs-other (ClientFilesCome site keys call hosts) (λ taken. SessionGoes taken.0.0 taken.0.1 taken.1 word details until Linked) Failed files old new status n runs twelve six eight
      (λ taken goes. session-other taken.0.0 taken.0.1 taken.1 details until Linked old new status word n goes zero ten three seven six eight)
