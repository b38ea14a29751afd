-- The command `client` that submits a session of its call which was made before.
use Rattle.std.specs.Prelude.{◌⊎◌, ℕ, Bool, ◌&&◌, ◌==◌, is_none, List, codes, Option, Some, None, option_and_then, if◌then◌else◌}
use Rattle.cs_base.specs.Answers.{Answer, Answers}
use Rattle.cs_base.specs.Codes.{bytes_of}
use Rattle.cs_base.specs.Fields.{whole_at}
use Rattle.cs_base.specs.declared.config.Config.{Config}
use Rattle.cs_io.specs.Store.{Files}
use Rattle.cs_io.specs.Outside.{LinkTold, Beside}
use Rattle.cs_io.specs.declared.until.Until.{Until}
use Rattle.cs_tx_types.specs.declared.session.Session.{Session}
use Rattle.cs_tx_types.specs.Reading.{session_at}
use Rattle.cs_tx.specs.WellFormed.{fault_of}
use Rattle.cs_config.specs.declared.call.CallFile.{CallFile}
use Rattle.cs_config.specs.declared.hosts.Hosts.{Hosts}
use Rattle.cs_deploy.specs.declared.setups.Setup.{Setup}
use Rattle.cs_deploy.specs.declared.wishes.Wishes.{Wishes}
use Rattle.cs_deploy.specs.Hosts.{ClientFilesCome}
use Rattle.cs_deploy.specs.Binding.{IsUntouched, IsShort, Runs}
use Rattle.cs_deploy.specs.Tries.{TriesGoBy}

-- ---- the session that a word says

-- it has the number of the call, and is well-formed at the site
abbrev pub is_of_call : Config → ℕ → Session → Bool
is_of_call config number x = (x.number == number) && is_none (fault_of config x)

abbrev pub where_of_call : Config → ℕ → Session → Option Session
where_of_call config number x = if is_of_call config number x then Some x else None

-- its encoding in hex
abbrev pub session_of_hex : List ℕ → Option Session
session_of_hex word = option_and_then (whole_at session_at) (bytes_of word)

abbrev pub session_of_word : Config → ℕ → List ℕ → Option Session
session_of_word config number word = option_and_then (where_of_call config number) (session_of_hex word)

-- ---- the command

abbrev pub no_session_answer : Answer
no_session_answer = record { status = 3; printed = codes "refused call session\n" }

-- one that submits a session makes no call again, and needs no dummy
abbrev pub wishes_of : Bool → Wishes
wishes_of details = record { details = details; tries = 1; dummy = None }

-- what becomes of a client whose files are taken and whose word says this: it submits that session, and makes no other
-- one; where the word says no session of the call that is told, and the link is left alone
abbrev pub Resumes : Setup → CallFile → Option Hosts → Bool → Until → Type 0 → Option Session → Beside LinkTold
    → Beside LinkTold → ℕ → Type 0
Resumes setup call hosts details until LinkFailed None old new status =
    IsUntouched old.told new.told × Answers no_session_answer old.written new.written status
Resumes setup call hosts details until LinkFailed (Some x) old new status =
    TriesGoBy None setup call (Some x) hosts (wishes_of details) until LinkFailed old new status

abbrev pub SessionGoes : Setup → CallFile → Option Hosts → List ℕ → Bool → Until → Type 0 → Beside LinkTold
    → Beside LinkTold → ℕ → Type 0
SessionGoes setup call hosts word details until LinkFailed old new status =
    IsShort old new status
    ⊎ Resumes setup call hosts details until LinkFailed (session_of_word setup.site.config call.number word) old new
    status

-- what the command comes to
abbrev pub SessionRuns : List ℕ → List ℕ → List ℕ → Option (List ℕ) → List ℕ → Bool → Until → Type 0 → Type 0
    → Option Files → Beside LinkTold → Beside LinkTold → ℕ → Type 0
SessionRuns site keys call hosts word details until StoreFailed LinkFailed files old new status =
    Runs (ClientFilesCome site keys call hosts)
    (λ taken. SessionGoes taken.0.0 taken.0.1 taken.1 word details until LinkFailed) StoreFailed files old new status
