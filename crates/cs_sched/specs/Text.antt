-- A text, and what it comes to: a schedule, or its first bad line.
use Rattle.std.specs.Prelude.{ℕ, List, Option, Some, None, Result, if◌then◌else◌}
use Rattle.cs_text.specs.Text.{TextForm, whole_of}
use Rattle.cs_text.specs.declared.cause.Refusal.{Refusal}
use Rattle.cs_sched.specs.Drafts.{empty_draft, has_ended}
use Rattle.cs_sched.specs.Places.{schedule_line_at}
use Rattle.cs_sched.specs.declared.draft.Draft.{Draft}
use Rattle.cs_sched.specs.declared.schedule.Schedule.{Schedule}

-- a schedule is whole where the line `end` was met
abbrev pub schedule_in : Draft → Option Schedule
schedule_in draft = if has_ended draft.stage then Some draft.schedule else None

-- how schedules are read
abbrev pub schedule_form : TextForm Draft Schedule
schedule_form = record {
  start = empty_draft;
  step = λ number draft word fields. schedule_line_at draft.stage number draft word fields;
  finish = schedule_in;
}

-- the schedule of a text, or its first bad line; of a text above the limit the lines that end within it are read
unfoldable pub schedule_of : ℕ → List ℕ → Result Schedule Refusal
schedule_of limit text = whole_of schedule_form limit text
