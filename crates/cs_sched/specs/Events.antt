-- What each event's line says, or why it is refused: the word is tested first, then the count of fields, then the
-- fields from left to right.
use Rattle.std.specs.Prelude.{ℕ, List, [], ◌∷◌, Result, Ok, Err, codes, if◌then◌else◌}
use Rattle.std.specs.Str.{bytes_eq}
use Rattle.cs_base.specs.declared.limits.TheConstants.{MOST_BODY, MOST_DATAGRAM}
use Rattle.cs_sched.specs.declared.schedule.Schedule.{Schedule}
use Rattle.cs_sched.specs.declared.schedule.Event.{Event}
use Rattle.cs_sched.specs.declared.schedule.Event.TheVariants.{Say, Inject, Deliver, Tick, Drain}
use Rattle.cs_text.specs.Values.{◌>>=◌, number_within, bytes_within, only_field, number_said}
use Rattle.cs_sched.specs.Naming.{speaker_in, honest_in}
use Rattle.cs_text.specs.declared.cause.Cause.{Cause}
use Rattle.cs_text.specs.declared.cause.Cause.TheVariants as cause

-- who says what to whom: a datagram of a kind and a body
abbrev pub say_of : Schedule → List ℕ → List ℕ → List ℕ → List ℕ → Result Event Cause
say_of schedule from to kind body = do
  speaker ← speaker_in schedule.config schedule.liars from
  listener ← honest_in schedule.config schedule.liars to
  number ← number_within 255 kind
  bytes ← bytes_within MOST_BODY body
  Ok (Say speaker listener number bytes)

-- to whom these bytes are given
abbrev pub inject_of : Schedule → List ℕ → List ℕ → Result Event Cause
inject_of schedule to bytes = do
  node ← honest_in schedule.config schedule.liars to
  given ← bytes_within MOST_DATAGRAM bytes
  Ok (Inject node given)

abbrev pub say_said : Schedule → List (List ℕ) → Result Event Cause
say_said schedule (from ∷ to ∷ kind ∷ body ∷ []) = say_of schedule from to kind body
say_said schedule _ = Err cause.Count

abbrev pub inject_said : Schedule → List (List ℕ) → Result Event Cause
inject_said schedule (to ∷ bytes ∷ []) = inject_of schedule to bytes
inject_said schedule _ = Err cause.Count

-- which datagram comes
abbrev pub deliver_said : List (List ℕ) → Result Event Cause
deliver_said fields = do
  number ← number_said fields
  Ok (Deliver number)

-- where time passes
abbrev pub tick_said : Schedule → List (List ℕ) → Result Event Cause
tick_said schedule fields = do
  field ← only_field fields
  node ← honest_in schedule.config schedule.liars field
  Ok (Tick node)

-- how many datagrams come
abbrev pub drain_said : List (List ℕ) → Result Event Cause
drain_said fields = do
  times ← number_said fields
  Ok (Drain times)

-- an event, by the word and the fields of its line
abbrev pub event_said : Schedule → List ℕ → List (List ℕ) → Result Event Cause
event_said schedule word fields =
    if bytes_eq word (codes "say") then say_said schedule fields
    else if bytes_eq word (codes "inject") then inject_said schedule fields
    else if bytes_eq word (codes "deliver") then deliver_said fields
    else if bytes_eq word (codes "tick") then tick_said schedule fields
    else if bytes_eq word (codes "drain") then drain_said fields
    else Err cause.Word
