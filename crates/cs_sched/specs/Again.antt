-- A schedule as its own text numbers its events.
use Rattle.std.specs.Prelude.{◌≡◌, ◌≤◌, ℕ, ◌+◌, List, [], ◌∷◌, length, Ok}
use Rattle.cs_sched.specs.declared.schedule.Event.{Event}
use Rattle.cs_sched.specs.declared.schedule.Schedule.{Schedule}
use Rattle.cs_sched.specs.Text.{schedule_of}
use Rattle.cs_sched.specs.Printed.{schedule_text}

-- events that stand on lines one after the other, the first on the line of this number
abbrev pub numbered_events : ℕ → List (ℕ × Event) → List (ℕ × Event)
numbered_events line [] = []
numbered_events line (event ∷ events) = (line, event.1) ∷ numbered_events (line + 1) events

-- the number of the line of the first event: before it stand four lines, those of liars, contracts and objects,
-- and `run`
abbrev pub first_line : Schedule → ℕ
first_line schedule = 6 + (length schedule.liars + (length schedule.contracts + length schedule.genesis))

-- the same schedule, with the numbers of the lines of its own text
abbrev pub renumbered : Schedule → Schedule
renumbered schedule = record schedule { events = numbered_events (first_line schedule) schedule.events }

-- A schedule that was read of a text is read again of the text that is printed of it, up to the numbers of lines,
-- where that text is within the limit.
abbrev pub ScheduleIsReadAgain : ℕ → Type 0
ScheduleIsReadAgain limit =
    (text : List ℕ) (schedule : Schedule) → schedule_of limit text ≡ Ok schedule
    → length (schedule_text schedule) ≤ limit
    → schedule_of limit (schedule_text schedule) ≡ Ok (renumbered schedule)
