-- What a replay answers and prints.
use Rattle.std.specs.Prelude.{◌≡◌, ℕ, Bool, if◌then◌else◌, List, [], ◌++◌, Option, Result, Ok, Err}
use Rattle.cs_base.specs.Answers.{Answer}
use Rattle.cs_io.specs.Answers.{SourceGives, GivesWhole}
use Rattle.cs_sched.specs.Text.{schedule_of}
use Rattle.cs_text.specs.Refusals.{refusal_status, refusal_text}
use Rattle.cs_text.specs.declared.cause.Refusal.{Refusal}
use Rattle.cs_sched.specs.declared.schedule.Schedule.{Schedule}
use Rattle.cs_tx_types.specs.declared.transaction.Tx.{Tx}
use Rattle.cs_native.specs.Approval.{is_approved_by}
use Rattle.cs_ledger.specs.Ledger.{Bytes}
use Rattle.cs_replay_rules.specs.Dumps.{dump_text}
use Rattle.cs_replay_rules.specs.Play.{Course, Goes, Stops, Forges, played_by, lines}
use Rattle.cs_node_rules.specs.Site.{Site}
use Rattle.cs_node_rules.specs.World.{Happening}
use Rattle.cs_replay.specs.Site.{site_of_schedule}
use Rattle.cs_replay.specs.Played.{course_of}
use Rattle.cs_replay.specs.declared.schedule.Mode.{Mode}
use Rattle.cs_replay.specs.declared.outcome.Summary.{Summary}
use Rattle.cs_replay.specs.declared.outcome.ReplayError.{ReplayError}
use Rattle.cs_replay.specs.declared.outcome.ReplayError.TheVariants.{Forged, Limit, WriteFault, Memory}

-- ---- a replay

-- it is done, or an event would have passed a limit, or a line injects what is forged
abbrev pub course_status : {M : Type 0} → Course M → ℕ
course_status {M} (Goes p) = 0
course_status {M} (Stops p line) = 13
course_status {M} (Forges p line) = 4

-- the dump, where it is wanted
abbrev pub dump_if : {M : Type 0} → Bool → Site M → List Bytes → List (Happening M) → Bytes
dump_if {M} dumps site contracts world = if dumps then dump_text site contracts world else []

-- it stands behind the lines of all events
abbrev pub dump_behind : {M : Type 0} → Bool → Site M → List Bytes → Course M → Bytes
dump_behind {M} dumps site contracts (Goes p) = dump_if dumps site contracts p.world
dump_behind {M} dumps site contracts (Stops p line) = []
dump_behind {M} dumps site contracts (Forges p line) = []

-- the answer to a schedule: what its events print, and then the history, and the dump where it is wanted; or the line of
-- the event that was refused
abbrev pub schedule_answer : (Tx → Bool) → Mode → Schedule → Answer
schedule_answer approves mode schedule =
    let site = site_of_schedule approves schedule in
    let course = course_of approves mode.traced schedule in
    record {
      status = course_status course;
      printed = lines site mode.traced schedule.events ++ dump_behind mode.dumps site schedule.contracts course;
    }

abbrev pub error_status : ReplayError → ℕ
error_status (Forged line) = 4
error_status (Limit line) = 13
error_status WriteFault = 6
error_status Memory = 8

abbrev pub replay_status : Result Summary ReplayError → ℕ
replay_status (Ok summary) = 0
replay_status (Err error) = error_status error

-- all events were played, or those before the line that is answered; or the replay was cut short
abbrev pub EndsAs : {M : Type 0} → Course M → Result Summary ReplayError → Type 0
EndsAs {M} course (Ok summary) = course ≡ Goes (played_by course)
EndsAs {M} course (Err (Limit line)) = course ≡ Stops (played_by course) line
EndsAs {M} course (Err (Forged line)) = course ≡ Forges (played_by course) line
EndsAs {M} course (Err WriteFault) = Unit {0}
EndsAs {M} course (Err Memory) = Unit {0}

-- ---- a replay of a source's text, whose judge is the book of the schedule's contracts, with the rules

-- the answer to a first bad line
abbrev pub refusal_answer : Refusal → Answer
refusal_answer refusal =
    record { status = refusal_status refusal.cause; printed = refusal_text refusal.line refusal.cause }

abbrev pub answer_to : Mode → Result Schedule Refusal → Answer
answer_to mode (Ok schedule) = schedule_answer (is_approved_by schedule.contracts) mode schedule
answer_to mode (Err refusal) = refusal_answer refusal

-- the answer to a text
abbrev pub replay_answer : ℕ → Mode → List ℕ → Answer
replay_answer limit mode text = answer_to mode (schedule_of limit text)

-- the source has failed, or its text is answered so
abbrev pub Replays : ℕ → Mode → Option (List ℕ) → Option (List ℕ) → Option (List ℕ) → Option (List ℕ)
    → Type 0 → ℕ → Type 0
Replays limit mode = SourceGives limit (replay_answer limit mode)

-- where no fault came about, the answer to the text is given and all of it printed, unless memory ran out
abbrev pub Completes : ℕ → Mode → Option (List ℕ) → Option (List ℕ) → Option (List ℕ) → ℕ → Type 0
Completes limit mode = GivesWhole limit (replay_answer limit mode)
