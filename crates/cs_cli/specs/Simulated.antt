-- What a simulation answers and prints.
use Rattle.std.specs.Prelude.{◌≡◌, ◌⊎◌, ℕ, ◌+◌, Bool, false, List, ◌++◌, Option, Some, None, codes}
use Rattle.std.specs.Fmt.{decimal}
use Rattle.cs_base.specs.Answers.{Answer}
use Rattle.cs_tx_types.specs.declared.transaction.Tx.{Tx}
use Rattle.cs_order_rules.specs.declared.message.OrderMessage.{OrderMessage}
use Rattle.cs_native.specs.Approval.{is_approved_by}
use Rattle.cs_sched.specs.declared.schedule.Schedule.{Schedule}
use Rattle.cs_text.specs.declared.cause.Cause.TheVariants.{Key, Limit}
use Rattle.cs_replay_rules.specs.Lines.{forged_line}
use Rattle.cs_replay_rules.specs.Play.{Course, Goes, Stops, Forges}
use Rattle.cs_node_rules.specs.Site.{Site}
use Rattle.cs_replay.specs.Answers.{refusal_answer}
use Rattle.cs_replay.specs.Closing.{summary_of}
use Rattle.cs_replay.specs.Played.{course_of}
use Rattle.cs_replay.specs.Site.{site_of_schedule}
use Rattle.cs_replay.specs.declared.outcome.Summary.{Summary}
use Rattle.cs_gen.specs.Schedules.{drawn_schedule}
use Rattle.cs_cli.specs.Keys.{repeated_key}

-- ---- the five lines of a simulation

abbrev pub asked_line : ℕ → ℕ → List ℕ
asked_line number size = codes "simulated " ++ (decimal number ++ (codes " " ++ (decimal size ++ codes "\n")))

abbrev pub decided_lines : ℕ → ℕ → List ℕ
decided_lines accepted aborted =
    codes "accepted " ++ (decimal accepted ++ (codes "\naborted " ++ (decimal aborted ++ codes "\n")))

abbrev pub spent_lines : ℕ → ℕ → List ℕ
spent_lines events sent = codes "events " ++ (decimal events ++ (codes "\nsent " ++ (decimal sent ++ codes "\n")))

abbrev pub simulation_text : ℕ → ℕ → Summary → List ℕ
simulation_text number size summary =
    asked_line number size
    ++ decided_lines summary.accepted summary.aborted
    ++ spent_lines summary.events summary.sent

-- all was played
abbrev pub done_answer : ℕ → ℕ → Summary → Answer
done_answer number size summary = record { status = 0; printed = simulation_text number size summary }

-- ---- the answer

-- the numbers of what was played; or the line of the event that would have passed a limit, or of one that injects what is
-- forged, which no generated schedule has
abbrev pub course_answer : ℕ → ℕ → Site OrderMessage → Course OrderMessage → Answer
course_answer number size site (Goes p) = done_answer number size (summary_of site p)
course_answer number size site (Stops p line) = refusal_answer (record { line = line; cause = Limit })
course_answer number size site (Forges p line) = record { status = 4; printed = forged_line line }

-- a schedule is played by nodes that approve so
abbrev pub played_answer : (Tx → Bool) → ℕ → ℕ → Schedule → Answer
played_answer approves number size schedule =
    course_answer number size (site_of_schedule approves schedule) (course_of approves false schedule)

-- where no object has the key of an earlier one the schedule is played, by the book of its contracts; in its text four
-- lines stand before that of the first object
abbrev pub answer_by : ℕ → ℕ → Schedule → Option ℕ → Answer
answer_by number size schedule None = played_answer (is_approved_by schedule.contracts) number size schedule
answer_by number size schedule (Some place) = refusal_answer (record { line = 5 + place; cause = Key })

-- the answer to a number and a size
unfoldable pub simulate_answer : ℕ → ℕ → Answer
simulate_answer number size =
    let schedule = drawn_schedule number size in answer_by number size schedule (repeated_key schedule.genesis)

-- done, or refused for a key or a limit
abbrev pub IsEndOfReplay : Answer → Type 0
IsEndOfReplay answer = (answer.status ≡ 0) ⊎ ((answer.status ≡ 3) ⊎ (answer.status ≡ 13))
