-- What is told of how a schedule ended.
use Rattle.std.proofs.Common.{◌≡◌, ◌≢◌, ℕ, Bool, false, List, length, Option, Some, None, Result, Err, subst, inl, inr, refl, ap, sym, ◌∙◌}
use Rattle.std.specs.Prelude.{OnOk, OnErr, string_bytes}
use Rattle.std.specs.Io.KnownBytes.{Appends}
use Rattle.cs_base.specs.Answers.{Answer, Answers, AppendsFront}
use Rattle.cs_base.specs.declared.printing.WriteError.{WriteError}
use Rattle.cs_base.specs.declared.printing.WriteError.TheVariants as write
use Rattle.cs_io.specs.Answers.{closing_status}
use Rattle.cs_io.proofs.Closings.{closed, closing-other, closing-failed}
use Rattle.cs_tx_value.specs.declared.object.Object.{Object}
use Rattle.cs_tx_types.specs.declared.transaction.Tx.{Tx}
use Rattle.cs_order_rules.specs.declared.message.OrderMessage.{OrderMessage}
use Rattle.cs_native.specs.Approval.{is_approved_by}
use Rattle.cs_text.specs.declared.cause.Cause.TheVariants.{Limit}
use Rattle.cs_sched.specs.declared.schedule.Schedule.{Schedule}
use Rattle.cs_node_rules.specs.Site.{Site}
use Rattle.cs_replay_rules.specs.Play.{Course, Goes, Stops, Forges, unplayed, played_by, size_of}
use Rattle.cs_sched.specs.Playable.{IsPlayable}
use Rattle.cs_replay.specs.Answers.{refusal_answer}
use Rattle.cs_replay.specs.Closing.{summary_of}
use Rattle.cs_replay.specs.Played.{course_of, history_of, aborted_of, world_of, sent_of}
use Rattle.cs_replay.specs.Site.{site_of_schedule}
use Rattle.cs_replay.specs.declared.outcome.Summary.{Summary}
use Rattle.cs_gen.specs.Schedules.{drawn_schedule}
use Rattle.cs_gen.specs.Sound.{IsPlayableUnlessTwice}
use Rattle.cs_cli.specs.Keys.{repeated_key}
use Rattle.cs_cli.specs.Simulated.{done_answer, course_answer, played_answer, answer_by, simulate_answer, IsEndOfReplay}
use Rattle.cs_cli.specs.Unforged.{InjectsNothing}
use Rattle.cs_cli.specs.SimulatedReports.{ReportTells, AnswersWhole}
use Rattle.cs_cli.specs.declared.simulated.Report.{Report}
use Rattle.cs_cli.proofs.Courses.{IsUnforged, all-unforged}
use Rattle.cs_cli.proofs.Generated.{injects-nothing}
use Rattle.cs_cli.proofs.Repeats.{keys-differ}

pub unforged : (approves : Tx → Bool) (schedule : Schedule) → InjectsNothing schedule → IsUnforged (course_of approves false schedule)
unforged approves schedule plain = all-unforged (site_of_schedule approves schedule) false schedule.events unplayed plain

-- a schedule that was played to its end is told by the numbers that its replay answers, and one that stopped by its line
pub told-goes : (approves : Tx → Bool) (number size : ℕ) (schedule : Schedule) (summary : Summary) → course_of approves false schedule ≡ Goes (played_by (course_of approves false schedule))
    → summary.accepted ≡ length (history_of approves false schedule) → summary.aborted ≡ length (aborted_of approves false schedule)
    → summary.events ≡ length (world_of approves false schedule) → summary.sent ≡ size_of (sent_of approves false schedule)
    → done_answer number size summary ≡ played_answer approves number size schedule
told-goes approves number size schedule summary is accepted aborted events sent =
    let numbers : summary ≡ summary_of (site_of_schedule approves schedule) (played_by (course_of approves false schedule)) =
    λ i. record { accepted = accepted i; aborted = aborted i; events = events i; sent = sent i } in
    ap (done_answer number size) numbers ∙ sym (ap (course_answer number size (site_of_schedule approves schedule)) is)

pub told-stops : (approves : Tx → Bool) (number size : ℕ) (schedule : Schedule) (line : ℕ) → course_of approves false schedule ≡ Stops (played_by (course_of approves false schedule)) line
    → refusal_answer (record { line = line; cause = Limit }) ≡ played_answer approves number size schedule
told-stops approves number size schedule line is = sym (ap (course_answer number size (site_of_schedule approves schedule)) is)

course-ends : (number size : ℕ) (site : Site OrderMessage) (course : Course OrderMessage) → IsUnforged course → IsEndOfReplay (course_answer number size site course)
course-ends number size site (Goes p) plain = inl refl
course-ends number size site (Stops p line) plain = inr (inr refl)
course-ends number size site (Forges p line) plain = absurd plain

by-ends : (number size : ℕ) (schedule : Schedule) (place : Option ℕ) → InjectsNothing schedule → IsEndOfReplay (answer_by number size schedule place)
by-ends number size schedule None plain =
    course-ends number size (site_of_schedule (is_approved_by schedule.contracts) schedule) (course_of (is_approved_by schedule.contracts) false schedule)
    (unforged (is_approved_by schedule.contracts) schedule plain)
by-ends number size schedule (Some place) plain = inr (inl refl)

-- a simulation is answered by 0, 3 or 13
pub simulate-ends : (number size : ℕ) → IsEndOfReplay (simulate_answer number size)
unfolding simulate_answer
simulate-ends number size = by-ends number size (drawn_schedule number size) (repeated_key (drawn_schedule number size).genesis) (injects-nothing number size)

-- and by nothing else
pub ended-other : (answer : Answer) (n : ℕ) → IsEndOfReplay answer → 0 ≢ n → 3 ≢ n → 13 ≢ n → answer.status ≢ n
ended-other answer n (inl is) zero three thirteen = λ same. zero (sym is ∙ same)
ended-other answer n (inr (inl is)) zero three thirteen = λ same. three (sym is ∙ same)
ended-other answer n (inr (inr is)) zero three thirteen = λ same. thirteen (sym is ∙ same)

-- the answer to the schedule of a number and a size
pub answered : (number size : ℕ) (schedule : Schedule) (place : Option ℕ) → schedule ≡ drawn_schedule number size → place ≡ repeated_key schedule.genesis → answer_by number size schedule place ≡ simulate_answer number size
unfolding simulate_answer
answered number size schedule place is found =
    ap (answer_by number size schedule) found ∙ ap (λ (s : Schedule). answer_by number size s (repeated_key s.genesis)) is

-- ---- what it is played by

-- no object of it has the key of an earlier one
pub can-play : (number size : ℕ) (schedule : Schedule) (objects : List Object) → IsPlayableUnlessTwice number size → schedule ≡ drawn_schedule number size → objects ≡ schedule.genesis
    → None ≡ repeated_key objects → IsPlayable schedule
can-play number size schedule objects law is of_genesis none =
    subst IsPlayable (sym is)
    (law (keys-differ (drawn_schedule number size).genesis (sym (none ∙ ap repeated_key (of_genesis ∙ ap (λ (s : Schedule). s.genesis) is)))))

pub injects-none : (number size : ℕ) (schedule : Schedule) → schedule ≡ drawn_schedule number size → InjectsNothing schedule
injects-none number size schedule is = subst InjectsNothing (sym is) (injects-nothing number size)

-- ---- what is printed of it

module _ (answer : Answer) (report : Report) (r : Result (Unit {0}) WriteError) (status : ℕ) (tells : ReportTells answer report) (ends : status ≡ closing_status r report.status) where
  pub printed-answers : (shown : List ℕ) (written written' : Option (List ℕ)) → shown ≡ string_bytes report.printed → OnOk r (Appends written written' shown) → OnErr r (AppendsFront written written' shown)
      → Answers answer written written' status
  printed-answers shown written written' is all part =
      let same : shown ≡ answer.printed = is ∙ tells.printed in
      subst (λ (s : ℕ). Answers answer written written' s) (sym (ends ∙ ap (closing_status r) tells.status))
      (closed answer r written written' (subst (λ (printed : List ℕ). OnOk r (Appends written written' printed)) same all)
      (subst (λ (printed : List ℕ). OnErr r (AppendsFront written written' printed)) same part))

  pub printed-other : (n : ℕ) → IsEndOfReplay answer → 0 ≢ n → 3 ≢ n → 13 ≢ n → 6 ≢ n → 8 ≢ n → status ≢ n
  printed-other n ended zero three thirteen six eight =
      λ is. closing-other r report.status n (λ own. ended-other answer n ended zero three thirteen (sym tells.status ∙ own)) six eight (sym ends ∙ is)

  -- it is 6 only where the sink failed
  pub printed-failed : IsEndOfReplay answer → status ≡ 6 → r ≡ Err write.Failed
  printed-failed ended six =
      closing-failed r report.status (λ own. ended-other answer 6 ended (λ is. absurd cc) (λ is. absurd cc) (λ is. absurd cc) (sym tells.status ∙ own)) (sym ends ∙ six)

-- where no write fails all is printed, unless memory ran out
pub answers-whole : (answer : Answer) (written written' : Option (List ℕ)) (status : ℕ) → Answers answer written written' status → status ≢ 6 → AnswersWhole answer written written' status
answers-whole answer written written' status answers writes = λ other. answers.verdict writes other
