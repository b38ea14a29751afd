-- What is known of every dump that is read.
use Rattle.std.proofs.Common.{◌≡◌, ℕ, ◌+◌, cond, List, [], ◌∷◌, ◌++◌, length, Option, Some, None, Ok, ◌≤◌, true, refl, sym, ap, subst, ◌∙◌, arith}
use Rattle.std.specs.List.{AllByRecursion, position_from}
use Rattle.std.proofs.lemmas.List.Elements.{recursion_from_All}
use Rattle.cs_types.specs.Accepting.{is_refused}
use Rattle.cs_sched.specs.Playable.{IsContractText}
use Rattle.cs_native.specs.Approval.{is_approved_by}
use Rattle.cs_approve.specs.Books.{first_refused}
use Rattle.cs_audit_dump.specs.declared.dump.Dump.{Dump}
use Rattle.cs_audit_dump.specs.Formed.{IsFormed}
use Rattle.cs_audit_dump.specs.Text.{dump_of}
use Rattle.cs_audit_dump.proofs.Whole.{given_formed}
use Rattle.cs_audit_rules.specs.declared.verdict.Fault.{Fault}
use Rattle.cs_audit_rules.specs.declared.verdict.Verdict.TheVariants.{Yes}
use Rattle.cs_audit_rules.specs.Sound.{SaysSound}
use Rattle.cs_audit_rules.specs.Verdicts.{first_fault, verdict_by, verdict_of}
use Rattle.cs_audit_rules.proofs.Unbroken.{unbroken_sound}
use Rattle.cs_sched.specs.declared.schedule.Schedule.{Schedule}
use Rattle.cs_replay_rules.specs.Dumps.{dump_text}
use Rattle.cs_replay_rules.specs.Play.{Course, Goes, Stops, Forges, played_by, lines}
use Rattle.cs_node_rules.specs.Site.{Site}
use Rattle.cs_replay.specs.Answers.{course_status, dump_behind}
use Rattle.cs_replay.specs.Played.{course_of, world_of, history_of}
use Rattle.cs_replay.specs.Site.{site_of_schedule}
use Rattle.cs_audit_dump.specs.declared.limits.TheConstants.{MOST_DUMP}
use Rattle.cs_audit_law.specs.Answered.{digests, IsYes, IsAnsweredYes}
use Rattle.cs_cli.specs.Audited.{dump_setup, dump_verdict, verdict_answer, audited, audit_answer, DumpsAreAnsweredYes}

none_refused : (place : ℕ) (texts : List (List ℕ)) → AllByRecursion IsContractText texts → position_from is_refused place texts ≡ None
none_refused place [] all = refl
none_refused place (text ∷ texts) all =
    ap (λ b. cond b (Some place) (position_from is_refused (place + 1) texts)) all.0.accepted ∙ none_refused (place + 1) texts all.1

-- no contract of a dump is refused
pub never_refused : (dump : Dump) (place : ℕ) → IsFormed dump → first_refused dump.contracts ≡ Some place → ⊥
never_refused dump place formed refused =
    let none : first_refused dump.contracts ≡ None =
    none_refused 0 dump.contracts (recursion_from_All IsContractText dump.contracts formed.contracts) in
    let same : None ≡ Some place = sym none ∙ refused in cc

-- a yes says that it is sound
pub says_sound : (limit : ℕ) (text : List ℕ) (dump : Dump) → dump_of limit text ≡ Ok dump → SaysSound (dump_setup dump) dump (dump_verdict dump)
says_sound limit text dump is = by (first_fault (dump_setup dump) dump) refl
  where
    by : (fault : Option Fault) → first_fault (dump_setup dump) dump ≡ fault → SaysSound (dump_setup dump) dump (verdict_by dump.history fault)
    by None none = unbroken_sound (is_approved_by dump.contracts) dump (given_formed (Ok dump) limit text is) none
    by (Some fault) broken = tt

-- what is read as a dump of its contracts is answered by their book
told_yes : (schedule : Schedule) (history : List (List ℕ)) (text : List ℕ) → IsYes MOST_DUMP (is_approved_by schedule.contracts) schedule.contracts history text → audit_answer MOST_DUMP text ≡ verdict_answer (Yes history)
told_yes schedule history text is =
    ap audited is.read
    ∙ ap (λ (contracts : List (List ℕ)). verdict_answer (verdict_of (is_approved_by contracts) is.dump)) is.contracts_are
    ∙ ap verdict_answer is.verdict

-- behind a course that is done stands the dump of its world
dumped_world : {M : Type 0} (site : Site M) (contracts : List (List ℕ)) (course : Course M) → course_status course ≡ 0 → dump_behind true site contracts course ≡ dump_text site contracts (played_by course).world
dumped_world site contracts (Goes p) done = refl
dumped_world site contracts (Stops p line) done = absurd (omega arith)
dumped_world site contracts (Forges p line) done = absurd (omega arith)

pub answers_yes : (schedule : Schedule) → IsAnsweredYes MOST_DUMP (is_approved_by schedule.contracts) schedule → DumpsAreAnsweredYes schedule
answers_yes schedule answered = λ traced done apart.
    let approves = is_approved_by schedule.contracts in
    let course = course_of approves traced schedule in
    let site = site_of_schedule approves schedule in
    let before = lines site traced schedule.events in
    let dumped = dump_behind true site schedule.contracts course in
    let text = dump_text site schedule.contracts (world_of approves traced schedule) in
    let same : dumped ≡ text = dumped_world site schedule.contracts course done in
    let yes = answered traced apart in (
      λ small. ap (λ (t : List ℕ). audit_answer MOST_DUMP (before ++ t)) same
          ∙ told_yes schedule (digests (history_of approves traced schedule)) (before ++ text) (yes.behind (subst (λ (t : List ℕ). length (before ++ t) ≤ MOST_DUMP) same small)),
      λ small. ap (audit_answer MOST_DUMP) same
          ∙ told_yes schedule (digests (history_of approves traced schedule)) text (yes.alone (subst (λ (t : List ℕ). length t ≤ MOST_DUMP) same small)),
    )
