-- The lines of the events, and then the history, are the whole.
use Rattle.std.proofs.Common.{◌≡◌, ℕ, Bool, ◌++◌, List, [], length, Option, Result, Ok, Err, IfOk, refl, ap, sym, subst, ◌∙◌, append_assoc, append-nil}
use Rattle.std.specs.Io.KnownBytes.{Appends}
use Rattle.std.proofs.KnownBytes.{Appends-trans}
use Rattle.cs_base.specs.Answers.{Answers, AppendsFront}
use Rattle.cs_sched.specs.declared.schedule.Event.{Event}
use Rattle.cs_sched.specs.declared.schedule.Schedule.{Schedule}
use Rattle.cs_replay.specs.Settled.{IsSetupOf}
use Rattle.cs_replay_play.proofs.Printed.{same-count}
use Rattle.cs_node_rules.specs.Site.{Site}
use Rattle.cs_node_rules.specs.World.{recorded_history}
use Rattle.cs_replay_rules.specs.Lines.{history_text, limit_line, forged_line}
use Rattle.cs_replay_rules.specs.Play.{Played, Course, Goes, Stops, Forges, played_by, size_of, closing_text, unplayed, play_all, lines}
use Rattle.cs_replay.specs.declared.outcome.Summary.{Summary}
use Rattle.cs_replay.specs.declared.outcome.ReplayError.{ReplayError}
use Rattle.cs_replay.specs.declared.outcome.ReplayError.TheVariants.{Forged, Limit, WriteFault, Memory}
use Rattle.cs_replay.specs.Answers.{course_status, dump_behind, replay_status, EndsAs}
use Rattle.cs_replay.specs.Closing.{summary_of, sums_of, EndsWith, IsLast, IsCutShort, whole_text, Closes}
use Rattle.cs_tx_types.specs.declared.transaction.Tx.{Tx}
use Rattle.cs_order.specs.Deeds.{Member, Machine}
use Rattle.cs_node_rules.specs.Site.{Carriers}
use Rattle.cs_replay_play.specs.declared.play.Replay.{Replay}
use Rattle.cs_replay_play.specs.declared.halt.Halt.{Halt}
use Rattle.cs_replay_play.specs.declared.halt.Halt.TheVariants as halt
use Rattle.cs_replay_play.specs.Standing.{Setting, site_in, Stands}
use Rattle.cs_replay_play.specs.Ends.{ReplayEnds}

pub lines-are : {M : Type 0} (site : Site M) (traced : Bool) (events : List (ℕ × Event)) → lines site traced events ≡ closing_text site (play_all site traced events unplayed)
unfolding lines
lines-are site traced events = refl

-- two more texts behind a front
two-more : (text front rest first second : List ℕ) → text ≡ front ++ rest → (text ++ first) ++ second ≡ front ++ ((rest ++ first) ++ second)
two-more text front rest first second is =
    ap (λ t. (t ++ first) ++ second) is
    ∙ ap (λ t. t ++ second) (append_assoc front rest first)
    ∙ append_assoc front (rest ++ first) second

-- the lines of the events alone are a front
pub front-of-lines : {M : Type 0} (site : Site M) (dumps : Bool) (contracts : List (List ℕ)) (course : Course M) (a b : Option (List ℕ)) → AppendsFront a b (played_by course).text → AppendsFront a b (whole_text site dumps contracts course)
front-of-lines site dumps contracts (Goes p) a b (front, rest, is, written) =
    let told = history_text (recorded_history site p.world) in
    let behind = dump_behind dumps site contracts (Goes p) in
    (front, (rest ++ told) ++ behind, two-more p.text front rest told behind is, written)
front-of-lines site dumps contracts (Stops p line) a b (front, rest, is, written) =
    (front, (rest ++ limit_line line) ++ [], two-more p.text front rest (limit_line line) [] is, written)
front-of-lines site dumps contracts (Forges p line) a b (front, rest, is, written) =
    (front, (rest ++ forged_line line) ++ [], two-more p.text front rest (forged_line line) [] is, written)

-- ---- behind the lines of the events

-- a replay that was cut short has written a front
cut : {M : Type 0} (before b : Option (List ℕ)) (site : Site M) (dumps : Bool) (contracts : List (List ℕ)) (course : Course M) (error : ReplayError) → IsCutShort error → AppendsFront before b (whole_text site dumps contracts course) → Closes before b site dumps contracts course (Err error)
cut before b site dumps contracts course (Forged line) never front = absurd never
cut before b site dumps contracts course (Limit line) never front = absurd never
cut before b site dumps contracts course WriteFault short front = front
cut before b site dumps contracts course Memory short front = front

module _ {O J M : Type 0} (stands : O → Member M → Type 0) (approves : J → Tx → Bool) (rules : Machine M) (carrier : Carriers M) (s : Setting) (schedule : Schedule) (setup : IsSetupOf schedule s.setup) (dumps : Bool) (course : Course M) (r : Replay O J M) (a : Option (List ℕ)) where
  abbrev here : Site M
  here = site_in rules carrier s

  abbrev all_lines : List ℕ
  all_lines = whole_text here dumps schedule.contracts course

  -- what is kept has the numbers of what was played
  sums-are : (q : Played M) → Stands stands approves rules carrier s r q → sums_of r ≡ summary_of here q
  sums-are q st =
      let accepted : length r.history.told ≡ length (recorded_history here q.world) = ap length st.kept.told ∙ same-count (recorded_history here q.world) in
      let aborts = ap length st.aborted in
      let sent = ap size_of st.parcels in
      λ i. record { accepted = accepted i; aborted = aborts i; events = st.events i; sent = sent i }

  -- a text behind the lines of the events
  behind : (b : Option (List ℕ)) (q : Played M) (text : List ℕ) → all_lines ≡ q.text ++ text → Appends s.before a q.text → Appends a b text → Appends s.before b all_lines
  behind b q text is first all = subst (λ (t : List ℕ). Appends s.before b t) (sym is) (Appends-trans s.before a b q.text text first all)

  behind-front : (b : Option (List ℕ)) (q : Played M) (text : List ℕ) → all_lines ≡ q.text ++ text → Appends s.before a q.text → AppendsFront a b text → AppendsFront s.before b all_lines
  behind-front b q text whole_is first (front, rest, is, written) =
      (q.text ++ front, rest, whole_is ∙ ap (λ t. q.text ++ t) is ∙ sym (append_assoc q.text front rest), Appends-trans s.before a b q.text front first written)

  -- the last lines, by how the events ended, are those of their course
  whole-done : (q : Played M) (text : List ℕ) → course ≡ Goes q → Stands stands approves rules carrier s r q → EndsWith stands approves rules carrier r schedule dumps text → all_lines ≡ q.text ++ text
  whole-done q text goes st ends =
      ap (whole_text here dumps schedule.contracts) goes
      ∙ append_assoc q.text (history_text (recorded_history here q.world)) (dump_behind dumps here schedule.contracts (Goes q))
      ∙ ap (λ t. q.text ++ t) (sym (ends s q st setup))

  whole-refused : (q : Played M) (refused : Course M) (text line : List ℕ) → whole_text here dumps schedule.contracts refused ≡ (q.text ++ line) ++ [] → course ≡ refused → text ≡ line → all_lines ≡ q.text ++ text
  whole-refused q refused text line lines_are course_is is =
      ap (whole_text here dumps schedule.contracts) course_is ∙ lines_are ∙ append-nil (q.text ++ line) ∙ ap (λ t. q.text ++ t) (sym is)

  pub closes-last : (b : Option (List ℕ)) (played : Result (Unit {0}) Halt) (text : List ℕ) (answer : Result Summary ReplayError)
      → ReplayEnds stands approves rules carrier s course r a played → IsLast stands approves rules carrier r schedule dumps played text answer → Appends a b text → Closes s.before b here dumps schedule.contracts course answer
  closes-last b (Ok done) text answer (q, goes, end) (ends, answered) all =
      subst (λ (x : Result Summary ReplayError). Closes s.before b here dumps schedule.contracts course x) (sym answered)
      (q, goes, sums-are q end.holds, behind b q text (whole-done q text goes end.holds ends) end.printed all)
  closes-last b (Err (halt.Limit line)) text answer (q, stops, printed) (is, answered) all =
      subst (λ (x : Result Summary ReplayError). Closes s.before b here dumps schedule.contracts course x) (sym answered)
      (q, stops, behind b q text (whole-refused q (Stops q line) text (limit_line line) refl stops is) printed all)
  closes-last b (Err (halt.Forged line)) text answer (q, stops, printed) (is, answered) all =
      subst (λ (x : Result Summary ReplayError). Closes s.before b here dumps schedule.contracts course x) (sym answered)
      (q, stops, behind b q text (whole-refused q (Forges q line) text (forged_line line) refl stops is) printed all)
  closes-last b (Err halt.Failed) text answer ends never all = absurd never
  closes-last b (Err halt.Memory) text answer ends never all = absurd never

  -- or a front of them was written
  front-last : (b : Option (List ℕ)) (played : Result (Unit {0}) Halt) (text : List ℕ) (answer : Result Summary ReplayError)
      → ReplayEnds stands approves rules carrier s course r a played → IsLast stands approves rules carrier r schedule dumps played text answer → AppendsFront a b text → AppendsFront s.before b all_lines
  front-last b (Ok done) text answer (q, goes, end) (ends, answered) front = behind-front b q text (whole-done q text goes end.holds ends) end.printed front
  front-last b (Err (halt.Limit line)) text answer (q, stops, printed) (is, answered) front =
      behind-front b q text (whole-refused q (Stops q line) text (limit_line line) refl stops is) printed front
  front-last b (Err (halt.Forged line)) text answer (q, stops, printed) (is, answered) front =
      behind-front b q text (whole-refused q (Forges q line) text (forged_line line) refl stops is) printed front
  front-last b (Err halt.Failed) text answer ends never front = absurd never
  front-last b (Err halt.Memory) text answer ends never front = absurd never

  pub closes-cut : (b : Option (List ℕ)) (played : Result (Unit {0}) Halt) (text : List ℕ) (answer : Result Summary ReplayError) (error : ReplayError)
      → ReplayEnds stands approves rules carrier s course r a played → IsLast stands approves rules carrier r schedule dumps played text answer → IsCutShort error → AppendsFront a b text
      → Closes s.before b here dumps schedule.contracts course (Err error)
  closes-cut b played text answer error ends last short front = cut s.before b here dumps schedule.contracts course error short (front-last b played text answer ends last front)

  lines-so-far : (p : Played M) → played_by course ≡ p → Appends s.before a p.text → AppendsFront s.before a (played_by course).text
  lines-so-far p is written = (p.text, [], ap (λ (q : Played M). q.text) is ∙ sym (append-nil p.text), written)

  -- without them those of the events are a front
  events-front : (played : Result (Unit {0}) Halt) → ReplayEnds stands approves rules carrier s course r a played → AppendsFront s.before a (played_by course).text
  events-front (Ok done) (q, goes, end) = lines-so-far q (ap played_by goes) end.printed
  events-front (Err (halt.Limit line)) (q, stops, printed) = lines-so-far q (ap played_by stops) printed
  events-front (Err (halt.Forged line)) (q, stops, printed) = lines-so-far q (ap played_by stops) printed
  events-front (Err halt.Failed) part = part
  events-front (Err halt.Memory) part = part

  pub closes-early : (played : Result (Unit {0}) Halt) (error : ReplayError) → ReplayEnds stands approves rules carrier s course r a played → IsCutShort error → Closes s.before a here dumps schedule.contracts course (Err error)
  closes-early played error ends short = cut s.before a here dumps schedule.contracts course error short (front-of-lines here dumps schedule.contracts course s.before a (events-front played ends))

-- ---- what closes a schedule

module _ {M : Type 0} (before b : Option (List ℕ)) (site : Site M) (dumps : Bool) (contracts : List (List ℕ)) (course : Course M) where
  pub closes-ends : (r : Result Summary ReplayError) → Closes before b site dumps contracts course r → EndsAs course r
  closes-ends (Ok summary) (p, goes, is, all) = goes ∙ ap (λ q. Goes q) (sym (ap played_by goes))
  closes-ends (Err (Limit line)) (p, stops, all) = stops ∙ ap (λ q. Stops q line) (sym (ap played_by stops))
  closes-ends (Err (Forged line)) (p, stops, all) = stops ∙ ap (λ q. Forges q line) (sym (ap played_by stops))
  closes-ends (Err WriteFault) front = tt
  closes-ends (Err Memory) front = tt

  -- each number is that of what was played
  pub closes-number : (number : Summary → ℕ) (r : Result Summary ReplayError) → Closes before b site dumps contracts course r → IfOk r (λ summary. number summary ≡ number (summary_of site (played_by course)))
  closes-number number (Ok summary) (p, goes, is, all) = ap number (is ∙ ap (summary_of site) (sym (ap played_by goes)))
  closes-number number (Err error) closes = tt

  -- the whole text was written, with the status of the course
  whole-answer : (printed : List ℕ) (status : ℕ) → printed ≡ whole_text site dumps contracts course → status ≡ course_status course → Appends before b (whole_text site dumps contracts course) → Answers (record { status = course_status course; printed = printed }) before b status
  whole-answer printed status is same all =
      let written = subst (λ (t : List ℕ). Appends before b t) (sym is) all in
      record { verdict = λ x y. (same, written); cut_short = λ ended. (printed, [], sym (append-nil printed), written) }

  pub closes-answers : (printed : List ℕ) (r : Result Summary ReplayError) → printed ≡ whole_text site dumps contracts course → Closes before b site dumps contracts course r → Answers (record { status = course_status course; printed = printed }) before b (replay_status r)
  closes-answers printed (Ok summary) is (p, goes, sums, all) = whole-answer printed 0 is (sym (ap course_status goes)) all
  closes-answers printed (Err (Limit line)) is (p, stops, all) = whole-answer printed 13 is (sym (ap course_status stops)) all
  closes-answers printed (Err (Forged line)) is (p, stops, all) = whole-answer printed 4 is (sym (ap course_status stops)) all
  closes-answers printed (Err WriteFault) is front = record { verdict = λ x y. absurd (x refl); cut_short = λ ended. subst (λ (t : List ℕ). AppendsFront before b t) (sym is) front }
  closes-answers printed (Err Memory) is front = record { verdict = λ x y. absurd (y refl); cut_short = λ ended. subst (λ (t : List ℕ). AppendsFront before b t) (sym is) front }
