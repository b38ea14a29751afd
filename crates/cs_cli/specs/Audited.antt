-- The answer to the text of a dump, whose judge is the book of the dump's contracts.
use Rattle.std.specs.Prelude.{◌≡◌, ℕ, ◌≤◌, Bool, true, List, length, Result, Ok, Err}
use Rattle.cs_base.specs.Answers.{Answer}
use Rattle.cs_node_state.specs.Setup.{Setup}
use Rattle.cs_native.specs.Approval.{is_approved_by}
use Rattle.cs_text.specs.declared.cause.Refusal.{Refusal}
use Rattle.cs_sched.specs.declared.schedule.Schedule.{Schedule}
use Rattle.cs_node_rules.specs.Collisions.{NoCollision}
use Rattle.cs_replay.specs.Answers.{refusal_answer, schedule_answer, dump_behind}
use Rattle.cs_replay.specs.Played.{course_of, world_of, history_of}
use Rattle.cs_replay.specs.Site.{site_of_schedule}
use Rattle.cs_audit_dump.specs.declared.limits.TheConstants.{MOST_DUMP}
use Rattle.cs_audit_dump.specs.declared.dump.Dump.{Dump}
use Rattle.cs_audit_dump.specs.Text.{dump_of}
use Rattle.cs_audit_rules.specs.declared.verdict.Verdict.{Verdict}
use Rattle.cs_audit_rules.specs.declared.verdict.Verdict.TheVariants.{Yes}
use Rattle.cs_audit_rules.specs.Verdicts.{setup_in, verdict_of}
use Rattle.cs_audit.specs.Printed.{verdict_text, verdict_status}
use Rattle.cs_audit_law.specs.Answered.{digests}

-- what a dump fixes
abbrev pub dump_setup : Dump → Setup
dump_setup dump = setup_in (is_approved_by dump.contracts) dump

-- yes with its history, or the first rule that it breaks
abbrev pub dump_verdict : Dump → Verdict
dump_verdict dump = verdict_of (is_approved_by dump.contracts) dump

abbrev pub verdict_answer : Verdict → Answer
verdict_answer verdict = record { status = verdict_status verdict; printed = verdict_text verdict }

abbrev pub audited : Result Dump Refusal → Answer
audited (Ok dump) = verdict_answer (dump_verdict dump)
audited (Err refusal) = refusal_answer refusal

-- the answer to a text
abbrev pub audit_answer : ℕ → List ℕ → Answer
audit_answer limit text = audited (dump_of limit text)

-- yes with this history, where the text is within the limit
abbrev pub IsAnsweredYesWith : List (List ℕ) → List ℕ → Type 0
IsAnsweredYesWith history text = length text ≤ MOST_DUMP → audit_answer MOST_DUMP text ≡ verdict_answer (Yes history)

-- Where no hashed strings collide, the answer to all that a replay of status 0 prints with its dump, and to the dump
-- alone, is yes with the history that it printed.
abbrev pub DumpsAreAnsweredYes : Schedule → Type 0
DumpsAreAnsweredYes schedule =
    (traced : Bool) →
    let approves = is_approved_by schedule.contracts in
    let site = site_of_schedule approves schedule in
    let course = course_of approves traced schedule in
    let answer = schedule_answer approves (record { traced = traced; dumps = true }) schedule in
    let history = digests (history_of approves traced schedule) in
    answer.status ≡ 0 → NoCollision site schedule.genesis (world_of approves traced schedule)
    → IsAnsweredYesWith history answer.printed
    × IsAnsweredYesWith history (dump_behind true site schedule.contracts course)
