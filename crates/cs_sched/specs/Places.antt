-- Which lines can stand at each place. The word of a line is tested first.
use Rattle.std.specs.Prelude.{ℕ, List, Result, Err, codes, if◌then◌else◌}
use Rattle.std.specs.Str.{bytes_eq}
use Rattle.cs_sched.specs.Lines.{shards_line, faulty_line, dummies_line, master_line, liar_line, contract_line, genesis_line, run_line, event_line, end_line}
use Rattle.cs_text.specs.declared.cause.Cause.{Cause}
use Rattle.cs_text.specs.declared.cause.Cause.TheVariants as cause
use Rattle.cs_sched.specs.declared.draft.Draft.{Draft}
use Rattle.cs_sched.specs.declared.draft.Stage.{Stage}
use Rattle.cs_sched.specs.declared.draft.Stage.TheVariants as stage

-- objects, and then the events
abbrev pub genesis_place : Draft → List ℕ → List (List ℕ) → Result Draft Cause
genesis_place draft word fields =
    if bytes_eq word (codes "genesis") then genesis_line draft fields
    else if bytes_eq word (codes "run") then run_line draft fields
    else Err cause.Word

-- contracts, and then objects
abbrev pub contracts_place : Draft → List ℕ → List (List ℕ) → Result Draft Cause
contracts_place draft word fields =
    if bytes_eq word (codes "contract") then contract_line draft fields
    else genesis_place draft word fields

-- liars, and then contracts
abbrev pub liars_place : Draft → List ℕ → List (List ℕ) → Result Draft Cause
liars_place draft word fields =
    if bytes_eq word (codes "liar") then liar_line draft fields
    else contracts_place draft word fields

-- events, and then the end
abbrev pub events_place : ℕ → Draft → List ℕ → List (List ℕ) → Result Draft Cause
events_place line draft word fields =
    if bytes_eq word (codes "end") then end_line draft fields
    else event_line line draft word fields

-- a line of this word and these fields, where it has this place
abbrev pub schedule_line_at : Stage → ℕ → Draft → List ℕ → List (List ℕ) → Result Draft Cause
schedule_line_at stage.Shards line draft word fields =
    if bytes_eq word (codes "shards") then shards_line draft fields else Err cause.Word
schedule_line_at stage.Faulty line draft word fields =
    if bytes_eq word (codes "faulty") then faulty_line draft fields else Err cause.Word
schedule_line_at stage.Dummies line draft word fields =
    if bytes_eq word (codes "dummies") then dummies_line draft fields else Err cause.Word
schedule_line_at stage.Master line draft word fields =
    if bytes_eq word (codes "master") then master_line draft fields else Err cause.Word
schedule_line_at stage.Liars line draft word fields = liars_place draft word fields
schedule_line_at stage.Contracts line draft word fields = contracts_place draft word fields
schedule_line_at stage.Genesis line draft word fields = genesis_place draft word fields
schedule_line_at stage.Events line draft word fields = events_place line draft word fields
schedule_line_at stage.Ended line draft word fields = Err cause.After
