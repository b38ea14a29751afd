-- The command `client` whose call is made again after it was aborted, or that tells details, or asks for dummies of its
-- own.
use Rattle.std.specs.Prelude.{◌≡◌, ◌⊎◌, ℕ, Bool, List, Option, Some, None, if◌then◌else◌}
use Rattle.std.specs.Io.KnownBytes.{Keeps}
use Rattle.cs_base.specs.Answers.{Answer, Answers}
use Rattle.cs_io.specs.Store.{Files}
use Rattle.cs_io.specs.Link.{Binds}
use Rattle.cs_io.specs.Outside.{LinkTold, Beside}
use Rattle.cs_io.specs.declared.link.Bound.TheVariants as bind
use Rattle.cs_io.specs.declared.until.Until.{Until}
use Rattle.cs_config.specs.declared.call.CallFile.{CallFile}
use Rattle.cs_config.specs.declared.hosts.Hosts.{Hosts}
use Rattle.cs_tx_types.specs.declared.session.Session.{Session}
use Rattle.cs_judge.specs.declared.fault.CallFault.{CallFault}
use Rattle.cs_judge.specs.Faults.{fault_of_call, fault_line}
use Rattle.cs_client.specs.declared.errand.Errand.{Errand}
use Rattle.cs_tries.specs.Tries.{try_begun}
use Rattle.cs_serve.specs.declared.client_ending.Ending.TheVariants.{LinkFault}
use Rattle.cs_tries.specs.declared.ending.TryEnding.{TryEnding}
use Rattle.cs_tries.specs.declared.ending.TryEnding.TheVariants.{Ended, Told, Waits, WriteFault}
use Rattle.cs_tries.specs.Trying.{AttendsTries}
use Rattle.cs_deploy.specs.declared.setups.Setup.{Setup}
use Rattle.cs_deploy.specs.declared.wishes.Wishes.{Wishes}
use Rattle.cs_deploy.specs.Hosts.{ClientFilesCome}
use Rattle.cs_deploy.specs.Binding.{IsUntouched, IsToldHosts, IsShort, IsUnbound, Runs}
use Rattle.cs_deploy.specs.Client.{TellsEnding, errand_of}

-- what is printed of a client that knows nothing
abbrev pub waits_answer : List ℕ → Answer
waits_answer text = record { status = 10; printed = text }

-- what is printed behind the lines of the tries that others followed, and the status
abbrev pub TellsTryEnding : TryEnding → Option (List ℕ) → Option (List ℕ) → ℕ → Type 0
TellsTryEnding (Ended ending) written written' status = TellsEnding ending written written' status
TellsTryEnding (Told digest) written written' status = (status ≡ 0) × Keeps written written'
TellsTryEnding (Waits text) written written' status = Answers (waits_answer text) written written' status
TellsTryEnding WriteFault written written' status = (status ≡ 6) × Keeps written written'

-- The link is told where all are and bound as the client of these keys, and so many tries are made at most.
pub record IsTried (errand : Errand) (base_port : ℕ) (hosts : Option Hosts) (wishes : Wishes) (until : Until)
    (LinkFailed : Type 0) (old new : Beside LinkTold) (status : ℕ) : Type 0 where
  pub placed : IsToldHosts hosts old.told new.told
  pub bound : Binds old.told.bound new.told.bound errand.keys.me base_port bind.Done
  pub ending : TryEnding
  pub written : Option (List ℕ)
  pub attends : AttendsTries (try_begun wishes.details errand wishes.tries) until old (record new { written = written }) ending
  pub failed : ending ≡ Ended LinkFault → LinkFailed
  pub told : TellsTryEnding ending written new.written status

-- ---- the call is judged

-- the first fault of a call, by its file and the contracts alone; without details it isn't looked for
abbrev pub judged : Bool → Setup → CallFile → Option CallFault
judged details setup call = if details then fault_of_call setup.book call else None

abbrev pub fault_answer : CallFault → Answer
fault_answer fault = record { status = 3; printed = fault_line fault }

-- ---- the command

-- what becomes of a client whose files are taken, of whose call this is known, and which submits this session of it, if
-- it was made before; a fault of the call is told, and the link left alone
abbrev pub TriesGoBy : Option CallFault → Setup → CallFile → Option Session → Option Hosts → Wishes → Until → Type 0
    → Beside LinkTold → Beside LinkTold → ℕ → Type 0
TriesGoBy (Some fault) setup call session hosts wishes until LinkFailed old new status =
    IsUntouched old.told new.told × Answers (fault_answer fault) old.written new.written status
TriesGoBy None setup call session hosts wishes until LinkFailed old new status =
    IsShort old new status
    ⊎ (IsUnbound setup.keys.me setup.site.base_port hosts LinkFailed old new status
    ⊎ IsTried (errand_of setup call session wishes.dummy) setup.site.base_port hosts wishes until LinkFailed old new status)

abbrev pub TriesGo : Setup → CallFile → Option Hosts → Wishes → Until → Type 0 → Beside LinkTold → Beside LinkTold → ℕ
    → Type 0
TriesGo setup call hosts wishes = TriesGoBy (judged wishes.details setup call) setup call None hosts wishes

-- what it comes to
abbrev pub TriesRun : List ℕ → List ℕ → List ℕ → Option (List ℕ) → Wishes → Until → Type 0 → Type 0 → Option Files
    → Beside LinkTold → Beside LinkTold → ℕ → Type 0
TriesRun site keys call hosts wishes until StoreFailed LinkFailed files old new status =
    Runs (ClientFilesCome site keys call hosts)
    (λ taken. TriesGo taken.0.0 taken.0.1 taken.1 wishes until LinkFailed) StoreFailed files old new status
