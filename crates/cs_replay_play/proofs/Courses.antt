-- What is played adds to the text, and parts of a course make up the whole.
use Rattle.std.proofs.Common.{◌≡◌, ℕ, zero, suc, ◌+◌, ◌-◌, ◌<◌, ◌≤◌, nat_lt, nat_le, Bool, true, false, cond, List, [], ◌∷◌, ◌++◌, length, take, drop, get_or, slice_get, Option, Some, None, Ok, Err, refl, ap, sym, subst, ◌∙◌, append_assoc, append-nil, arith}
use Rattle.std.specs.List.{All}
use Rattle.std.specs.Io.KnownBytes.{Appends}
use Rattle.std.proofs.lemmas.List.Elements.{All-get_or}
use Rattle.std.proofs.KnownBytes.{Appends-trans}
use Rattle.cs_base.specs.Answers.{AppendsFront}
use Rattle.cs_base.specs.declared.printing.WriteError.{WriteError}
use Rattle.cs_base.specs.declared.printing.WriteError.TheVariants as write
use Rattle.cs_base.specs.declared.node_id.NodeId.{NodeId}
use Rattle.cs_ledger.specs.Ledger.{Bytes}
use Rattle.cs_tx_types.specs.declared.transaction.Tx.{Tx}
use Rattle.cs_order.specs.Deeds.{Member, Machine}
use Rattle.cs_sched.specs.declared.schedule.Event.{Event}
use Rattle.cs_sched.specs.declared.schedule.Event.TheVariants.{Say, Inject, Deliver, Tick, Drain}
use Rattle.cs_node_rules.specs.Site as Given
use Rattle.cs_node_rules.specs.Site.{Input, Datagram, Carriers, Site}
use Rattle.cs_node_rules.specs.World.{happens, is_genuine}
use Rattle.cs_node_rules.specs.Lines.{Parcel, parcels_of}
use Rattle.cs_replay_rules.specs.Lines.{event_lines}
use Rattle.cs_replay_rules.specs.Play.{Played, Course, Goes, Stops, Forges, played_by, then_plays, size_of, most_events, most_sent, signs_of_last, plays, occurs, injects, with_arrived, comes, delivers, first_left, drains, drained, play, play_all}
use Rattle.cs_replay_play.specs.declared.play.Replay.{Replay}
use Rattle.cs_replay_play.specs.declared.halt.Halt.{Halt}
use Rattle.cs_replay_play.specs.declared.halt.Halt.TheVariants as halt
use Rattle.cs_replay_play.specs.Standing.{Setting, Stands}
use Rattle.cs_replay_play.specs.Ends.{halt_of_write, Sends, TakesEvent, ReplayEnds, parcels_from}
use Rattle.cs_wire.specs.declared.input.Out.{Out}

-- ---- lists

pub take-whole : {X : Type 0} (k : ℕ) (xs : List X) → length xs ≤ k → take k xs ≡ xs
take-whole zero [] h = refl
take-whole zero (x ∷ xs) h = absurd (omega arith)
take-whole (suc k) [] h = refl
take-whole (suc k) (x ∷ xs) h = ap (λ ys. x ∷ ys) (take-whole k xs (omega arith))

drop-suc : {X : Type 0} (k : ℕ) (xs : List X) (x : X) → k < length xs → x ≡ get_or xs k x → drop k xs ≡ x ∷ drop (suc k) xs
drop-suc {X} k [] x h is = absurd (omega arith)
drop-suc {X} zero (y ∷ xs) x h is = ap (λ z. z ∷ xs) (sym is)
drop-suc {X} (suc k) (y ∷ xs) x h is = drop-suc k xs x (omega arith) is

pub drop-next : {X : Type 0} (k : ℕ) (xs : List X) (x : X) → k < length xs → x ≡ get_or xs k x → drop k xs ≡ x ∷ drop (k + 1) xs
drop-next {X} k xs x h is = let same : suc k ≡ k + 1 = omega arith in drop-suc k xs x h is ∙ ap (λ n. x ∷ drop n xs) same

pub drop-whole : {X : Type 0} (k : ℕ) (xs : List X) → length xs ≤ k → drop k xs ≡ []
drop-whole {X} zero [] h = refl
drop-whole {X} zero (x ∷ xs) h = absurd (omega arith)
drop-whole {X} (suc k) [] h = refl
drop-whole {X} (suc k) (x ∷ xs) h = drop-whole k xs (omega arith)

pub drop-front : {X : Type 0} (xs ys : List X) → drop (length xs) (xs ++ ys) ≡ ys
drop-front {X} [] ys = refl
drop-front {X} (x ∷ xs) ys = drop-front xs ys

pub all-at : {X : Type 0} (P : X → Type 0) (xs : List X) (k : ℕ) (x : X) → All P xs → k < length xs → x ≡ get_or xs k x → P x
all-at P xs k x all h is = subst P (sym is) (All-get_or P xs k x h all)

-- ---- texts grow

abbrev pub IsStart : List ℕ → List ℕ → Type 0
IsStart text whole = (rest : List ℕ) × (whole ≡ text ++ rest)

pub start-self : (text : List ℕ) → IsStart text text
start-self text = ([], sym (append-nil text))

start-trans : (a b c : List ℕ) → IsStart a b → IsStart b c → IsStart a c
start-trans a b c (one, first) (two, second) = (one ++ two, second ∙ ap (λ t. t ++ two) first ∙ append_assoc a one two)

then-grows : {M : Type 0} (course : Course M) (next : Played M → Course M) (text : List ℕ) → IsStart text (played_by course).text → ((p : Played M) → IsStart p.text (played_by (next p)).text) → IsStart text (played_by (then_plays course next)).text
then-grows {M} (Goes p) next text first later = start-trans text p.text (played_by (next p)).text first (later p)
then-grows {M} (Stops p line) next text first later = first
then-grows {M} (Forges p line) next text first later = first

pub drained-zero : {M : Type 0} (site : Site M) (traced : Bool) (line : ℕ) (p : Played M) → drained site traced line zero p ≡ Goes p
unfolding drained
drained-zero site traced line p = refl

pub drained-suc : {M : Type 0} (site : Site M) (traced : Bool) (line times : ℕ) (p : Played M) → drained site traced line (suc times) p ≡ drains site traced line (drained site traced line times) (first_left 0 p.parcels) p
unfolding drained
drained-suc site traced line times p = refl

module _ {M : Type 0} (site : Site M) (traced : Bool) where
  -- the lines of an event
  abbrev pub added : ℕ → NodeId → Input → Played M → List ℕ
  added line i input p =
      let world = happens site i input p.world in
      event_lines site.setup traced (length p.world) line i (signs_of_last world) (length p.parcels) (parcels_of site.net i (signs_of_last world))

  pub occurs-grows : (line : ℕ) (i : NodeId) (input : Input) (p : Played M) → IsStart p.text (played_by (occurs site traced line i input p)).text
  occurs-grows line i input p = by (nat_lt (length p.world) most_events) (nat_le (size_of (plays site traced line i input p).parcels) most_sent)
    where
      by : (b c : Bool) → IsStart p.text (played_by (cond b (cond c (Goes (plays site traced line i input p)) (Stops p line)) (Stops p line))).text
      by true true = (added line i input p, refl)
      by true false = start-self p.text
      by false c = start-self p.text

  pub injects-grows : (line : ℕ) (to : NodeId) (bytes : Bytes) (p : Played M) → IsStart p.text (played_by (injects site traced line to bytes p)).text
  injects-grows line to bytes p =
      by (nat_lt (length p.world) most_events) (is_genuine site.net to bytes p.parcels) (nat_le (size_of (plays site traced line to (Datagram bytes) p).parcels) most_sent)
    where
      by : (b c d : Bool) → IsStart p.text (played_by (cond b (cond c (cond d (Goes (plays site traced line to (Datagram bytes) p)) (Stops p line)) (Forges p line)) (Stops p line))).text
      by true true true = (added line to (Datagram bytes) p, refl)
      by true true false = start-self p.text
      by true false d = start-self p.text
      by false c d = start-self p.text

  comes-grows : (line : ℕ) (parcel : Parcel) (p : Played M) → IsStart p.text (played_by (comes site traced line parcel p)).text
  comes-grows line parcel p = by (site.net.is_honest parcel.to)
    where
      by : (b : Bool) → IsStart p.text (played_by (cond b (occurs site traced line parcel.to (Datagram parcel.bytes) p) (Goes p))).text
      by true = occurs-grows line parcel.to (Datagram parcel.bytes) p
      by false = start-self p.text

  pub delivers-grows : (line number : ℕ) (found : Option Parcel) (p : Played M) → IsStart p.text (played_by (delivers site traced line number found p)).text
  delivers-grows line number None p = start-self p.text
  delivers-grows line number (Some parcel) p = comes-grows line parcel (with_arrived number parcel p)

  drains-grows : (line : ℕ) (later : Played M → Course M) → ((p : Played M) → IsStart p.text (played_by (later p)).text) → (found : Option ℕ) (p : Played M) → IsStart p.text (played_by (drains site traced line later found p)).text
  drains-grows line later grows None p = start-self p.text
  drains-grows line later grows (Some number) p = then-grows (delivers site traced line number (slice_get p.parcels number) p) later p.text (delivers-grows line number (slice_get p.parcels number) p) grows

  pub drained-grows : (line times : ℕ) (p : Played M) → IsStart p.text (played_by (drained site traced line times p)).text
  drained-grows line zero p = subst (λ (course : Course M). IsStart p.text (played_by course).text) (sym (drained-zero site traced line p)) (start-self p.text)
  drained-grows line (suc times) p =
      subst (λ (course : Course M). IsStart p.text (played_by course).text) (sym (drained-suc site traced line times p))
      (drains-grows line (drained site traced line times) (drained-grows line times) (first_left 0 p.parcels) p)

  -- where some are left to be delivered
  pub drained-left : (line left : ℕ) (p : Played M) → 0 < left → drained site traced line left p ≡ drains site traced line (drained site traced line (left - 1)) (first_left 0 p.parcels) p
  drained-left line zero p some = absurd (omega arith)
  drained-left line (suc left) p some =
      let same : left ≡ suc left - 1 = omega arith in
      drained-suc site traced line left p ∙ ap (λ n. drains site traced line (drained site traced line n) (first_left 0 p.parcels) p) same

  pub play-grows : (line : ℕ) (event : Event) (p : Played M) → IsStart p.text (played_by (play site traced line event p)).text
  play-grows line (Say from to kind body) p = occurs-grows line to (Datagram (site.net.datagram from to kind body)) p
  play-grows line (Inject to bytes) p = injects-grows line to bytes p
  play-grows line (Deliver number) p = delivers-grows line number (slice_get p.parcels number) p
  play-grows line (Tick node) p = occurs-grows line node Given.Tick p
  play-grows line (Drain times) p = drained-grows line times p

  pub all-grows : (events : List (ℕ × Event)) (p : Played M) → IsStart p.text (played_by (play_all site traced events p)).text
  all-grows [] p = start-self p.text
  all-grows (e ∷ events) p = then-grows (play site traced e.0 e.1 p) (play_all site traced events) p.text (play-grows e.0 e.1 p) (all-grows events)

-- ---- how calls end

later-grows : {M : Type 0} (course : Course M) (next : Played M → Course M) → ((p : Played M) → IsStart p.text (played_by (next p)).text) → IsStart (played_by course).text (played_by (then_plays course next)).text
later-grows {M} (Goes p) next later = later p
later-grows {M} (Stops p line) next later = start-self p.text
later-grows {M} (Forges p line) next later = start-self p.text

front-more : (a b : Option (List ℕ)) (text whole : List ℕ) → AppendsFront a b text → IsStart text whole → AppendsFront a b whole
front-more a b text whole (front, rest, is, written) (more, grown) =
    (front, rest ++ more, grown ∙ ap (λ t. t ++ more) is ∙ append_assoc front rest more, written)

module _ {O J M : Type 0} (stands : O → Member M → Type 0) (approves : J → Tx → Bool) (rules : Machine M) (carrier : Carriers M) (s : Setting) where
  -- where the first part stops, the whole does
  pub ends-then : (course : Course M) (next : Played M → Course M) (r : Replay O J M) (written : Option (List ℕ)) (h : Halt) → ((p : Played M) → IsStart p.text (played_by (next p)).text)
      → ReplayEnds stands approves rules carrier s course r written (Err h) → ReplayEnds stands approves rules carrier s (then_plays course next) r written (Err h)
  ends-then course next r written (halt.Limit line) later (p, is, w) = (p, ap (λ c. then_plays c next) is, w)
  ends-then course next r written (halt.Forged line) later (p, is, w) = (p, ap (λ c. then_plays c next) is, w)
  ends-then course next r written halt.Failed later part = front-more s.before written (played_by course).text (played_by (then_plays course next)).text part (later-grows course next later)
  ends-then course next r written halt.Memory later part = front-more s.before written (played_by course).text (played_by (then_plays course next)).text part (later-grows course next later)

  -- it stops before anything was written
  pub ends-early : (course : Course M) (r : Replay O J M) (written : Option (List ℕ)) (p : Played M) (h : Halt) → h ≡ halt.Memory → Appends s.before written p.text → IsStart p.text (played_by course).text
      → ReplayEnds stands approves rules carrier s course r written (Err h)
  ends-early course r written p h is w (rest, grown) =
      subst (λ (halt : Halt). ReplayEnds stands approves rules carrier s course r written (Err halt)) (sym is) (p.text, rest, grown, w)

  -- what stopped before the lines of an event were printed
  pub takes-ends : (course : Course M) (p : Played M) (r : Replay O J M) (written : Option (List ℕ)) (h : Halt) → TakesEvent stands approves rules carrier s course p r (Err h) → Appends s.before written p.text → IsStart p.text (played_by course).text
      → ReplayEnds stands approves rules carrier s course r written (Err h)
  takes-ends course p r written (halt.Limit line) stops w start = (p, stops, w)
  takes-ends course p r written (halt.Forged line) stops w start = absurd stops
  takes-ends course p r written halt.Failed stops w start = absurd stops
  takes-ends course p r written halt.Memory stops w (rest, grown) = (p.text, rest, grown, w)

  pub takes-sent : (course : Course M) (p : Played M) (r : Replay O J M) (line : ℕ) (to : NodeId) (outs : List Out) (old new : List Parcel) (h : Halt) → Sends line to outs old new (Err h)
      → (most_sent < size_of (old ++ parcels_from to outs) → course ≡ Stops p line) → TakesEvent stands approves rules carrier s course p r (Err h)
  takes-sent course p r line to outs old new (halt.Limit by) (same, large) stops = stops large ∙ ap (λ l. Stops p l) (sym same)
  takes-sent course p r line to outs old new (halt.Forged by) sent stops = absurd sent
  takes-sent course p r line to outs old new halt.Failed sent stops = absurd sent
  takes-sent course p r line to outs old new halt.Memory sent stops = tt

  -- the lines of an event were printed in part
  pub ends-printed : (course : Course M) (p q : Played M) (r : Replay O J M) (text : List ℕ) (written written' : Option (List ℕ)) (error : WriteError) → course ≡ Goes q → q.text ≡ p.text ++ text
      → Appends s.before written p.text → AppendsFront written written' text → ReplayEnds stands approves rules carrier s course r written' (Err (halt_of_write error))
  ends-printed course p q r text written written' error goes is w (front, rest, parts, more) = by error
    where
      part : AppendsFront s.before written' (played_by course).text
      part = (
        p.text ++ front,
        rest,
        ap (λ c. (played_by c).text) goes ∙ is ∙ ap (λ t. p.text ++ t) parts ∙ sym (append_assoc p.text front rest),
        Appends-trans s.before written written' p.text front w more,
      )

      by : (e : WriteError) → ReplayEnds stands approves rules carrier s course r written' (Err (halt_of_write e))
      by write.Failed = part
      by write.Memory = part

  pub ends-done : (course : Course M) (p q : Played M) (r : Replay O J M) (text : List ℕ) (written written' : Option (List ℕ)) → course ≡ Goes q → Stands stands approves rules carrier s r q → q.text ≡ p.text ++ text
      → Appends s.before written p.text → Appends written written' text → ReplayEnds stands approves rules carrier s course r written' (Ok tt)
  ends-done course p q r text written written' goes holds is w more =
      (q, goes, record { holds = holds; printed = subst (λ (t : List ℕ). Appends s.before written' t) (sym is) (Appends-trans s.before written written' p.text text w more) })
