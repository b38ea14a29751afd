-- The command `client`.
use Rattle.std.specs.Prelude.{◌≡◌, ◌⊎◌, ℕ, List, [], codes, ◌++◌, Option, None}
use Rattle.cs_base.specs.Answers.{Answer, Answers}
use Rattle.cs_io.specs.Store.{Files}
use Rattle.cs_io.specs.Link.{Binds}
use Rattle.cs_io.specs.Outside.{LinkTold, Beside}
use Rattle.cs_io.specs.declared.link.Bound.TheVariants as bind
use Rattle.cs_io.specs.declared.until.Until.{Until}
use Rattle.cs_config.specs.declared.call.CallFile.{CallFile}
use Rattle.cs_config.specs.declared.hosts.Hosts.{Hosts}
use Rattle.cs_tx_types.specs.declared.session.Session.{Session}
use Rattle.cs_proc.specs.declared.error.ProcError.{ProcError}
use Rattle.cs_proc.specs.declared.error.ProcError.TheVariants as refusal
use Rattle.cs_client.specs.declared.errand.Errand.{Errand}
use Rattle.cs_client.specs.declared.known.Known.{Known}
use Rattle.cs_client.specs.declared.known.Known.TheVariants as known
use Rattle.cs_client.specs.Lines.{known_line}
use Rattle.cs_client.specs.Standing.{errand_with}
use Rattle.cs_serve.specs.declared.client_ending.Ending.{Ending}
use Rattle.cs_serve.specs.declared.client_ending.Ending.TheVariants.{Knows, Refused, LinkFault, Memory}
use Rattle.cs_serve.specs.Attending.{Attends}
use Rattle.cs_deploy.specs.declared.setups.Setup.{Setup}
use Rattle.cs_deploy.specs.Hosts.{ClientFilesCome}
use Rattle.cs_deploy.specs.Untaken.{IsSilent}
use Rattle.cs_deploy.specs.Binding.{IsToldHosts, IsShort, IsUnbound, Runs, link_answer}

-- ---- the last line

abbrev pub known_status : Known → ℕ
known_status known.Open = 10
known_status (known.Accepted digest) = 0
known_status (known.Aborted digest) = 0

abbrev pub known_answer : Known → Answer
known_answer so = record { status = known_status so; printed = known_line so }

-- why a method isn't run; want of memory has no such line
abbrev pub cause_text : ProcError → List ℕ
cause_text refusal.NoMethod = codes "method"
cause_text refusal.BadArgs = codes "args"
cause_text (refusal.Trap place) = codes "trap"
cause_text refusal.TooLarge = codes "large"
cause_text (refusal.CheckerNo place) = codes "checker"
cause_text refusal.Memory = []

abbrev pub refused_answer : ProcError → Answer
refused_answer cause = record { status = 3; printed = codes "refused call " ++ (cause_text cause ++ codes "\n") }

-- a client prints its last line alone
abbrev pub TellsEnding : Ending → Option (List ℕ) → Option (List ℕ) → ℕ → Type 0
TellsEnding (Knows so) written written' status = Answers (known_answer so) written written' status
TellsEnding (Refused cause) written written' status = Answers (refused_answer cause) written written' status
TellsEnding LinkFault written written' status = Answers link_answer written written' status
TellsEnding Memory written written' status = IsSilent written written' status

-- ---- the command

-- what a client of this setup is to do that makes this call, or submits the session of it that was made before; it asks
-- for dummies from this serial on, or for any
abbrev pub errand_of : Setup → CallFile → Option Session → Option ℕ → Errand
errand_of setup call session dummy = errand_with setup.site setup.keys setup.book call session dummy

-- The link is told where all are and bound as the client of these keys, and the client is run until it knows what has
-- become of its session.
pub record IsAttended (errand : Errand) (base_port : ℕ) (hosts : Option Hosts) (until : Until) (LinkFailed : Type 0)
    (old new : Beside LinkTold) (status : ℕ) : Type 0 where
  pub placed : IsToldHosts hosts old.told new.told
  pub bound : Binds old.told.bound new.told.bound errand.keys.me base_port bind.Done
  pub ending : Ending
  pub attends : Attends errand until old.told new.told ending
  pub failed : ending ≡ LinkFault → LinkFailed
  pub told : TellsEnding ending old.written new.written status

-- what becomes of a client whose files are taken
abbrev pub ClientGoes : Setup → CallFile → Option Hosts → Until → Type 0 → Beside LinkTold → Beside LinkTold → ℕ
    → Type 0
ClientGoes setup call hosts until LinkFailed old new status =
    IsShort old new status
    ⊎ (IsUnbound setup.keys.me setup.site.base_port hosts LinkFailed old new status
    ⊎ IsAttended (errand_of setup call None None) setup.site.base_port hosts until LinkFailed old new status)

-- what the command comes to
abbrev pub ClientRuns : List ℕ → List ℕ → List ℕ → Option (List ℕ) → Until → Type 0 → Type 0 → Option Files
    → Beside LinkTold → Beside LinkTold → ℕ → Type 0
ClientRuns site keys call hosts until StoreFailed LinkFailed files old new status =
    Runs (ClientFilesCome site keys call hosts) (λ taken. ClientGoes taken.0.0 taken.0.1 taken.1 until LinkFailed)
    StoreFailed files old new status

-- it is known what has become of the session, or it is open, or the method is refused
abbrev pub IsToldOf : ℕ → Type 0
IsToldOf status = (status ≡ 0) ⊎ ((status ≡ 10) ⊎ (status ≡ 3))
