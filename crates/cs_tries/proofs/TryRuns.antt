-- How the run of a client goes on from try to try, and how it ends.
use Rattle.std.proofs.Common.{◌≡◌, ℕ, ◌+◌, ◌-◌, ◌^◌, ◌⊎◌, inl, inr, Bool, true, false, List, [], ◌∷◌, ◌++◌, length, Option, Some, None, Result, Ok, Err, refl, sym, ap, subst, ◌∙◌, arith, append-nil, append_assoc, if◌then◌else◌}
use Rattle.std.specs.Prelude.{min, count_by, is_none, ◌&&◌}
use Rattle.std.specs.Int.{from_bool}
use Rattle.std.specs.Io.KnownBytes.{Appends}
use Rattle.std.specs.Option.{option_map_or}
use Rattle.std.proofs.KnownBytes.{Appends-nil, Appends-trans}
use Rattle.cs_base.specs.Answers.{AppendsFront}
use Rattle.cs_base.specs.Outside.{HasCause}
use Rattle.cs_base.specs.declared.printing.WriteError.{WriteError}
use Rattle.cs_base.specs.declared.printing.WriteError.TheVariants as write
use Rattle.cs_tx_types.specs.declared.session.Session.{Session}
use Rattle.cs_io.specs.Told.{Changes, Stays}
use Rattle.cs_io.specs.Link.{Offers}
use Rattle.cs_io.specs.Outside.{LinkTold, Beside, beside}
use Rattle.cs_io.specs.Until.{IsOver, AreNeeded}
use Rattle.cs_io.specs.declared.until.Until.{Until}
use Rattle.cs_io.specs.laws.Told.{stays-same, stays-both}
use Rattle.cs_wire.specs.declared.input.Out.{Out}
use Rattle.cs_client.specs.declared.known.Known.{Known}
use Rattle.cs_client.specs.declared.known.Known.TheVariants as known
use Rattle.cs_client.specs.declared.errand.Errand.{Errand}
use Rattle.cs_client.specs.Inputs.{ClientInput}
use Rattle.cs_client.specs.Phases.{Phase, Asking, Wanting, Submitting, Idle, submitted}
use Rattle.cs_client.specs.Knowing.{knows}
use Rattle.cs_client.specs.Lines.{known_line}
use Rattle.cs_client.specs.Sayings.{says_at, outs_of_sayings}
use Rattle.cs_client.specs.Seen.{Client}
use Rattle.cs_client.specs.Standing.{errand_again, ClientStandsFor}
use Rattle.cs_waits.specs.declared.noted.NotedClient.{NotedClient}
use Rattle.cs_waits.specs.Standing.{NotedStandsFor}
use Rattle.cs_details.specs.Lines.{session_line, tx_lines}
use Rattle.cs_tries.specs.Tries.{Try, try_begun, may_follow, has_next, with_input, known_in_try, then_next, moved_on, try_after, announcement, newly, line_before, lines_accepted, line_between, line_behind, lines_in, phase_in_try}
use Rattle.cs_serve.specs.declared.receiving.TheConstants.{MOST_MISSED}
use Rattle.cs_serve.specs.declared.client_ending.Ending.TheVariants.{Knows, Refused, LinkFault, Memory}
use Rattle.cs_tries.specs.declared.ending.TryEnding.{TryEnding}
use Rattle.cs_tries.specs.declared.ending.TryEnding.TheVariants.{Ended, Told, Waits, WriteFault}
use Rattle.cs_serve.specs.Offering.{offers_in, AddsOffers, AddsFront}
use Rattle.cs_serve.specs.Giving.{Gives}
use Rattle.cs_serve.specs.Attending.{is_tick, ClientTakes, offers_at, InputsAreOver, missed_past}
use Rattle.cs_tries.specs.Trying.{offers_in_tries, GivesTries, WasOpenInTries, TriesEnd, AttendsTries, Going, GoesOnAs, GoesBehind, PrintsBehind, GivenBy, TryGoesBy, TryAnswers, TryTakesTurn, TriesCut, GivesPart, EndsOpen, HasNoTurn, unwritten}
use Rattle.cs_serve.specs.laws.Offering.{adds-still, adds-later, front-all, front-later}
use Rattle.cs_serve.specs.laws.Taken.{ticks-more, over-by, still-by}
use Rattle.cs_serve.proofs.Giving.{AppendsFront-all, AppendsFront-none, Gives-nil, Gives-more}
use Rattle.cs_serve.proofs.Told.{takes-none, takes-still, takes-more, takes-one}

-- the client of one that may keep notes
pub at-client : (t : Try) (client : Client) (noted : NotedClient) → client ≡ noted.client → NotedStandsFor t.errand t.details t.inputs noted → ClientStandsFor t.errand t.inputs client
at-client t client noted is stands = subst (ClientStandsFor t.errand t.inputs) (sym is) stands.client

-- ---- behind what is known of a try

pub follows : (t : Try) (client : Client) (tries number : ℕ) → true ≡ may_follow tries number → number ≡ client.errand.call.number → client.errand ≡ t.errand → tries ≡ t.tries → has_next t ≡ true
follows t client tries number may is same left =
    sym (may ∙ (ap (may_follow tries) (is ∙ ap (λ (e : Errand). e.call.number) same) ∙ ap (λ n. may_follow n t.errand.call.number) left))

pub follows-not : (t : Try) (client : Client) (tries number : ℕ) → false ≡ may_follow tries number → number ≡ client.errand.call.number → client.errand ≡ t.errand → tries ≡ t.tries → has_next t ≡ false
follows-not t client tries number may is same left =
    sym (may ∙ (ap (may_follow tries) (is ∙ ap (λ (e : Errand). e.call.number) same) ∙ ap (λ n. may_follow n t.errand.call.number) left))

module _ (t : Try) where
  abbrev next : Try
  next = try_begun t.details (errand_again t.errand) (t.tries - 1)

  abbrev told-text : List ℕ → List ℕ
  told-text digest = known_line (known.Accepted digest) ++ option_map_or (λ (x : Session). tx_lines t.errand.config x.tx) (submitted (phase_in_try t)) []

  pub open-goes : (noted : NotedClient) (tries : ℕ) → known_in_try t ≡ known.Open → NotedStandsFor t.errand t.details t.inputs noted → tries ≡ t.tries → GoesBehind (then_next (known_in_try t) t) (Ok (noted, tries))
  open-goes noted tries open_yet stands left =
      subst (λ (u : Try). GoesOnAs u (noted, tries)) (sym (ap (λ (k : Known). then_next k t) open_yet)) (record { stands = stands; tries_are = left; unknown = open_yet })

  pub open-printed : (written : Option (List ℕ)) (going : Going) → known_in_try t ≡ known.Open → PrintsBehind (line_between (known_in_try t) t) written written (Ok going)
  open-printed written going open_yet =
      subst (λ (line : List ℕ). Appends written written line) (sym (ap (λ (k : Known). line_between k t) open_yet)) (Appends-nil written)

  pub accepted-goes : (digest : List ℕ) → known_in_try t ≡ known.Accepted digest → GoesBehind (then_next (known.Accepted digest) t) (Err (Ended (Knows (known.Accepted digest))))
  accepted-goes digest is = (is, λ open_yet. let q : known.Accepted digest ≡ known.Open = open_yet in cc)

  pub accepted-printed : (written : Option (List ℕ)) (digest : List ℕ) → t.details ≡ false → PrintsBehind (line_between (known.Accepted digest) t) written written (Err (Ended (Knows (known.Accepted digest))))
  accepted-printed written digest plain =
      subst (λ (line : List ℕ). Appends written written line) (sym (ap (λ (b : Bool). if b then told-text digest else []) plain)) (Appends-nil written)

  -- with details it is told
  pub told-goes : (digest : List ℕ) → known_in_try t ≡ known.Accepted digest → GoesBehind (then_next (known.Accepted digest) t) (Err (Told digest))
  told-goes digest is = is

  pub told-lines : (digest text : List ℕ) → t.details ≡ true → text ≡ told-text digest → text ≡ lines_accepted digest t
  told-lines digest text detailed is = is ∙ sym (ap (λ (b : Bool). if b then told-text digest else []) detailed)

  -- another one follows
  pub next-goes : (digest : List ℕ) (result : Result Going TryEnding) → has_next t ≡ true → GoesBehind next result → GoesBehind (then_next (known.Aborted digest) t) result
  next-goes digest result may goes = subst (λ (u : Try). GoesBehind u result) (sym (ap (λ (b : Bool). if b then next else t) may)) goes

  pub next-printed : (digest : List ℕ) (written written' : Option (List ℕ)) (result : Result Going TryEnding) → has_next t ≡ true → PrintsBehind (known_line (known.Aborted digest)) written written' result
      → PrintsBehind (line_between (known.Aborted digest) t) written written' result
  next-printed digest written written' result may printed =
      subst (λ (line : List ℕ). PrintsBehind line written written' result) (sym (ap (λ (b : Bool). if b then known_line (known.Aborted digest) else []) may)) printed

  -- none follows
  pub last-goes : (digest : List ℕ) → has_next t ≡ false → known_in_try t ≡ known.Aborted digest → GoesBehind (then_next (known.Aborted digest) t) (Err (Ended (Knows (known.Aborted digest))))
  last-goes digest may is =
      (ap known_in_try (ap (λ (b : Bool). if b then next else t) may) ∙ is, λ open_yet. let q : known.Aborted digest ≡ known.Open = open_yet in cc)

  pub last-printed : (digest : List ℕ) (written : Option (List ℕ)) (so : Known) → has_next t ≡ false → PrintsBehind (line_between (known.Aborted digest) t) written written (Err (Ended (Knows so)))
  last-printed digest written so may =
      subst (λ (line : List ℕ). Appends written written line) (sym (ap (λ (b : Bool). if b then known_line (known.Aborted digest) else []) may)) (Appends-nil written)

  -- it begins without inputs
  pub begun-goes : (noted : NotedClient) (tries : ℕ) → NotedStandsFor (errand_again t.errand) t.details [] noted → tries ≡ t.tries - 1 → GoesBehind next (Ok (noted, tries))
  begun-goes noted tries stands left = record { stands = stands; tries_are = left; unknown = refl }

-- ---- what is given at an input

-- whether a session is announced
pub announced : (t : Try) (input : ClientInput) (announcing : Bool) → announcing ≡ (t.details && is_none (submitted (phase_in_try t))) → announcement announcing (phase_in_try (with_input input t)) ≡ line_before input t
announced t input announcing is =
    ap (λ (b : Bool). announcement b (phase_in_try (with_input input t))) is ∙ by t.details (phase_in_try t) (phase_in_try (with_input input t))
  where
    by : (details : Bool) (old new : Phase) → announcement (details && is_none (submitted old)) new ≡ (if details then option_map_or session_line (newly old new) [] else [])
    by false old new = refl
    by true Asking new = refl
    by true (Wanting x) new = refl
    by true (Submitting x) new = refl
    by true Idle new = refl

-- the line of a session that is announced
pub announced-text : (t : Try) (announcing : Bool) (x : Session) → announcing ≡ true → Some x ≡ submitted (phase_in_try t) → session_line x ≡ announcement announcing (phase_in_try t)
announced-text t announcing x on is =
    ap (λ (o : Option Session). option_map_or session_line o []) is
    ∙ sym (ap (λ (b : Bool). if b then option_map_or session_line (submitted (phase_in_try t)) [] else []) on)

-- all that was given at it, one after the other
pub given-by : (offers : Offers) (before behind : List ℕ) (a b : LinkTold) (w m w' : Option (List ℕ)) (result : Result Going TryEnding) → Appends w m before → AddsOffers offers a.offered b.offered → PrintsBehind behind m w' result
    → GivenBy offers before behind (beside a w) (beside b w') result
given-by offers before behind a b w m w' (Ok going) first adds printed = record { offered = adds; written = Appends-trans w m w' before behind first printed }
given-by offers before behind a b w m w' (Err (Ended (Knows so))) first adds printed = record { offered = adds; written = Appends-trans w m w' before behind first printed }
given-by offers before behind a b w m w' (Err (Ended (Refused cause))) first adds printed = record { offered = adds; written = Appends-trans w m w' before behind first printed }
given-by offers before behind a b w m w' (Err (Ended LinkFault)) first adds printed = record { offered = adds; written = Appends-trans w m w' before behind first printed }
given-by offers before behind a b w m w' (Err (Ended Memory)) first adds printed = inr (record { between = m; announced = first; offered = front-all a.offered b.offered offers adds; written = printed })
given-by offers before behind a b w m w' (Err (Told digest)) first adds printed = record { offered = adds; written = Appends-trans w m w' before behind first printed }
given-by offers before behind a b w m w' (Err (Waits text)) first adds printed = record { offered = adds; written = Appends-trans w m w' before behind first printed }
given-by offers before behind a b w m w' (Err WriteFault) first adds printed = inr (record { between = m; announced = first; offered = front-all a.offered b.offered offers adds; written = printed })

-- memory ran out while what is said was offered
pub given-short : (offers : Offers) (before behind : List ℕ) (a b : LinkTold) (w m : Option (List ℕ)) → Appends w m before → AddsFront offers a.offered b.offered → GivenBy offers before behind (beside a w) (beside b m) (Err (Ended Memory))
given-short offers before behind a b w m first front = inr (record { between = m; announced = first; offered = front; written = AppendsFront-none m behind })

-- the session could not be announced, and nothing was offered
pub given-none : (offers : Offers) (before behind : List ℕ) (a : LinkTold) (w w' : Option (List ℕ)) (error : WriteError) → AppendsFront w w' before → GivenBy offers before behind (beside a w) (beside a w') (Err (unwritten error))
given-none offers before behind a w w' write.Failed front = inl (record { offered = stays-same a.offered; written = front })
given-none offers before behind a w w' write.Memory front = inl (record { offered = stays-same a.offered; written = front })

pub none-goes : (t : Try) (error : WriteError) → GoesBehind t (Err (unwritten error))
none-goes t write.Failed = tt
none-goes t write.Memory = tt

pub none-printed : (line : List ℕ) (w w' : Option (List ℕ)) (error : WriteError) → AppendsFront w w' line → PrintsBehind line w w' (Err (unwritten error))
none-printed line w w' write.Failed front = front
none-printed line w w' write.Memory front = front

-- where a text isn't written the sink failed, or memory ran out
abbrev FailedWrite : WriteError → Type 0
FailedWrite error = let r : Result (Unit {0}) WriteError = Err error in r ≡ Err write.Failed

failed-write : (error : WriteError) → unwritten error ≡ WriteFault → FailedWrite error
failed-write write.Failed is = refl
failed-write write.Memory is = absurd (let e : Ended Memory ≡ WriteFault = is in cc)

pub unwritten-told : (a b : ℕ) (error : WriteError) (ending : TryEnding) → ending ≡ unwritten error → HasCause a b (FailedWrite error) → HasCause a b (ending ≡ WriteFault)
unwritten-told a b error ending is cause = record { later = cause.later; cause = λ failed. cause.cause (failed-write error (sym is ∙ failed)) }

abbrev err-of : {A : Type 0} → TryEnding → Result A TryEnding → TryEnding
err-of other (Ok x) = other
err-of other (Err ending) = ending

pub same-ending : (A : Type 0) (x y : TryEnding) → (let r : Result A TryEnding = Err x in r ≡ Err y) → x ≡ y
same-ending A x y same = ap (λ (r : Result A TryEnding). err-of x r) same

pub unwritten-sink : (A : Type 0) (a b : ℕ) (error : WriteError) (ending : TryEnding) → ending ≡ unwritten error → HasCause a b (FailedWrite error)
    → HasCause a b (let r : Result A TryEnding = Err ending in r ≡ Err WriteFault)
unwritten-sink A a b error ending is cause =
    record { later = cause.later; cause = λ failed. cause.cause (failed-write error (sym is ∙ same-ending A ending WriteFault failed)) }

-- memory ran out before anything was given
pub none-given : (offers : Offers) (before behind : List ℕ) (a : Beside LinkTold) → GivesPart offers before behind a a
none-given offers before behind a = inl (record { offered = stays-same a.told.offered; written = AppendsFront-none a.written before })

pub said-goes : (t : Try) (input : ClientInput) (announcing : Bool) (outs : List Out) (old new : Beside LinkTold) (result : Result Going TryEnding) → announcing ≡ (t.details && is_none (submitted (phase_in_try t))) → outs ≡ outs_of_sayings t.errand.keys (says_at t.errand input t.inputs)
    → GoesBehind (moved_on (with_input input t)) result → GivenBy (offers_in outs) (announcement announcing (phase_in_try (with_input input t))) (line_behind input t) old new result → TryGoesBy t input old new result
said-goes t input announcing outs old new result announces is goes given =
    by result goes
    (subst (λ (text : List ℕ). GivenBy (offers_at t.errand input t.inputs) text (line_behind input t) old new result) (announced t input announcing announces)
    (subst (λ (o : List Out). GivenBy (offers_in o) (announcement announcing (phase_in_try (with_input input t))) (line_behind input t) old new result) is given))
  where
    by : (result : Result Going TryEnding) → GoesBehind (moved_on (with_input input t)) result → GivenBy (offers_at t.errand input t.inputs) (line_before input t) (line_behind input t) old new result → TryGoesBy t input old new result
    by (Ok going) goes given = (goes, given)
    by (Err (Ended (Knows so))) goes given = (goes, given)
    by (Err (Ended (Refused cause))) goes given = absurd goes
    by (Err (Ended LinkFault)) goes given = (goes, given)
    by (Err (Ended Memory)) goes given = (goes, given)
    by (Err (Told digest)) goes given = (goes, given)
    by (Err (Waits text)) goes given = (goes, given)
    by (Err WriteFault) goes given = (goes, given)

-- a link that takes an input was offered nothing
module _ (a b : LinkTold) (w : Option (List ℕ)) (c : Beside LinkTold) (stays : Stays a.offered b.offered) where
  gives-later : (offers : Offers) (line : List ℕ) → Gives offers line (beside b w) c → Gives offers line (beside a w) c
  gives-later offers line gives = record { offered = adds-later a.offered b.offered c.told.offered offers stays gives.offered; written = gives.written }

  part-later : (offers : Offers) (before behind : List ℕ) → GivesPart offers before behind (beside b w) c → GivesPart offers before behind (beside a w) c
  part-later offers before behind (inl cut) = inl (record { offered = stays-both a.offered b.offered c.told.offered stays cut.offered; written = cut.written })
  part-later offers before behind (inr cut) =
      inr (record { between = cut.between; announced = cut.announced; offered = front-later a.offered b.offered c.told.offered offers stays cut.offered; written = cut.written })

  pub goes-later : (t : Try) (input : ClientInput) (result : Result Going TryEnding) → TryGoesBy t input (beside b w) c result → TryGoesBy t input (beside a w) c result
  goes-later t input (Ok going) (goes, given) = (goes, gives-later _ _ given)
  goes-later t input (Err (Ended (Knows so))) (goes, given) = (goes, gives-later _ _ given)
  goes-later t input (Err (Ended (Refused cause))) (goes, given) = (goes, gives-later _ _ given)
  goes-later t input (Err (Ended LinkFault)) (goes, given) = absurd goes
  goes-later t input (Err (Ended Memory)) (goes, given) = (goes, part-later _ _ _ given)
  goes-later t input (Err (Told digest)) (goes, given) = (goes, gives-later _ _ given)
  goes-later t input (Err (Waits text)) (goes, given) = (goes, gives-later _ _ given)
  goes-later t input (Err WriteFault) (goes, given) = (goes, part-later _ _ _ given)

-- ---- one turn

-- the first input that was left was taken and answered
pub try-answered : (t : Try) (input : ClientInput) (a b c : LinkTold) (w w' : Option (List ℕ)) (result : Result Going TryEnding) → Changes (λ (before now : List ClientInput). before ≡ input ∷ now) a.left b.left → b.missed ≡ 0 → Stays a.offered b.offered
    → Stays b.left c.left → c.missed ≡ b.missed → TryGoesBy t input (beside b w) (beside c w') result → TryAnswers t (beside a w) (beside c w') result
try-answered t input a b c w w' result gone missed offered left same goes = record {
  input = input;
  takes = takes-one a b c input gone left;
  missed = same ∙ missed;
  goes = goes-later a b w (beside c w') offered t input result goes;
}

-- and the run goes on
pub try-on : (t : Try) (input : ClientInput) (a b c : LinkTold) (w w' : Option (List ℕ)) (client : NotedClient) (tries : ℕ) (ticked : Bool) → ticked ≡ is_tick input → Changes (λ (before now : List ClientInput). before ≡ input ∷ now) a.left b.left → b.missed ≡ 0
    → Stays a.offered b.offered → Stays b.left c.left → c.missed ≡ b.missed → TryGoesBy t input (beside b w) (beside c w') (Ok (client, tries)) → TryTakesTurn t (beside a w) (beside c w') (Ok (client, tries, ticked))
try-on t input a b c w w' client tries ticked is gone missed offered left same goes = (
  record {
    input = input;
    takes = takes-one a b c input gone left;
    missed = same ∙ missed;
    goes = goes-later a b w (beside c w') offered t input (Ok (client, tries)) goes;
  },
  is,
)

-- and that ended the run
pub try-ended : (t : Try) (a c : Beside LinkTold) (ending : TryEnding) → TryAnswers t a c (Err ending) → TryTakesTurn t a c (Err ending)
try-ended t a c (Ended (Knows so)) one = inl one
try-ended t a c (Ended (Refused cause)) one = inl one
try-ended t a c (Ended LinkFault) one = absurd one.goes.0
try-ended t a c (Ended Memory) one = inl one
try-ended t a c (Told digest) one = inl one
try-ended t a c (Waits text) one = inl one
try-ended t a c WriteFault one = inl one

-- no input was left
pub try-none : (t : Try) (a c : Beside LinkTold) (ending : TryEnding) → HasNoTurn t a c ending → TryTakesTurn t a c (Err ending)
try-none t a c (Ended (Knows so)) none = inr none
try-none t a c (Ended (Refused cause)) none = inr none
try-none t a c (Ended LinkFault) none = absurd none.ends
try-none t a c (Ended Memory) none = inr none
try-none t a c (Told digest) none = inr none
try-none t a c (Waits text) none = inr none
try-none t a c WriteFault none = inr none

-- ---- so many turns

-- so many inputs were taken, so many of them ticks, none of them too many, and nothing is known of the try that is made
pub record TriesSoFar (first : Try) (until : Until) (turns ticks : ℕ) (old new : Beside LinkTold) (going : Going) : Type 0 where
  pub inputs : List ClientInput
  pub all : length inputs ≡ turns
  pub ticked : count_by is_tick inputs ≡ ticks
  pub needed : AreNeeded is_tick until inputs
  pub takes : ClientTakes inputs old.told new.told
  pub unknown : WasOpenInTries first inputs
  pub goes : GoesOnAs (try_after first inputs) going
  pub missed : new.told.missed ≡ missed_past old.told.missed inputs
  pub gives : GivesTries first inputs old new

pub tries-begin : (details : Bool) (e : Errand) (tries : ℕ) (until : Until) (a : Beside LinkTold) (client : NotedClient) → NotedStandsFor e details [] client → knows e [] ≡ known.Open → TriesSoFar (try_begun details e tries) until 0 0 a a (client, tries)
tries-begin details e tries until a client stands open_yet = record {
  inputs = [];
  all = refl;
  ticked = refl;
  needed = tt;
  takes = takes-none a.told a.told (stays-same a.told.left);
  unknown = tt;
  goes = record { stands = stands; tries_are = refl; unknown = open_yet };
  missed = refl;
  gives = Gives-nil a;
}

-- a turn, whatever came before
abbrev pub TurnOf : Bool → NotedClient → ℕ → Beside LinkTold → Beside LinkTold → Result (NotedClient × ℕ × Bool) TryEnding → Type 0
TurnOf details client tries old new result = (t : Try) → NotedStandsFor t.errand t.details t.inputs client → details ≡ t.details → tries ≡ t.tries → TryTakesTurn t old new result

-- all tries of a run have details, or none
same-details : (k : Known) (t : Try) → (then_next k t).details ≡ t.details
same-details known.Open t = refl
same-details (known.Accepted digest) t = refl
same-details (known.Aborted digest) t = by (has_next t)
  where
    by : (b : Bool) → (if b then try_begun t.details (errand_again t.errand) (t.tries - 1) else t).details ≡ t.details
    by true = refl
    by false = refl

details-kept : (first : Try) (inputs : List ClientInput) → first.details ≡ (try_after first inputs).details
details-kept first [] = refl
details-kept first (input ∷ past) =
    let t = with_input input (try_after first past) in details-kept first past ∙ sym (same-details (known_in_try t) t)

one-more : (input : ClientInput) (past : List ClientInput) (n : ℕ) → length past ≡ n → length (input ∷ past) ≡ n + 1
one-more input past n is = omega arith

pub tries-go-on : (first : Try) (details : Bool) (same : details ≡ first.details) (until : Until) (turns ticks : ℕ) (a b c : Beside LinkTold) (client later : NotedClient) (tries left : ℕ) (ticked : Bool) (more : ℕ) → more ≡ from_bool ticked → (IsOver until turns ticks → ⊥) → TriesSoFar first until turns ticks a b (client, tries)
    → TurnOf details client tries b c (Ok (later, left, ticked)) → TriesSoFar first until (turns + 1) (ticks + more) a c (later, left)
tries-go-on first details same until turns ticks a b c client later tries left ticked more counted still so turn =
    let t = try_after first so.inputs in
    let both = turn t so.goes.stands (same ∙ details-kept first so.inputs) so.goes.tries_are in
    let one = both.0 in
    record {
      inputs = one.input ∷ so.inputs;
      all = one-more one.input so.inputs turns so.all;
      ticked = ticks-more is_tick one.input so.inputs ticks more ticked so.ticked both.1 counted;
      needed = still-by is_tick until so.inputs turns ticks so.all so.ticked still;
      takes = takes-more a.told b.told c.told so.inputs (one.input ∷ []) so.takes one.takes;
      unknown = (so.goes.unknown, so.unknown);
      goes = one.goes.0;
      missed = one.missed;
      gives = Gives-more a b c (offers_in_tries first so.inputs) (offers_at t.errand one.input t.inputs) (lines_in first so.inputs) (line_before one.input t ++ line_behind one.input t) so.gives one.goes.1;
    }

-- ---- how it ends

-- want of memory before the first turn
pub tries-nothing : (first : Try) (until : Until) (a : Beside LinkTold) → AttendsTries first until a a (Ended Memory)
tries-nothing first until a = record {
  inputs = [];
  needed = tt;
  takes = takes-none a.told a.told (stays-same a.told.left);
  unknown = tt;
  ends = Gives-nil a;
}

-- ---- a text, or offers, one part of which came before the other

between-texts : (a c : Option (List ℕ)) (one two : List ℕ) → Appends a c (one ++ two) → (b : Option (List ℕ)) × Appends a b one × Appends b c two
between-texts None c one two p = (None, tt, tt)
between-texts (Some a) None one two p = absurd p
between-texts (Some a) (Some c) one two p = (Some (a ++ one), refl, p ∙ sym (append_assoc a one two))

between-offers : (a c : Option Offers) (one two : Offers) → AddsOffers (one ++ two) a c → (b : Option Offers) × AddsOffers one a b × AddsOffers two b c
between-offers None c one two p = (None, tt, tt)
between-offers (Some a) None one two p = absurd p
between-offers (Some a) (Some c) one two p = (Some (a ++ one), refl, p ∙ sym (append_assoc a one two))

-- all that was to be given is part of it
pub tries-cut : (first : Try) (inputs : List ClientInput) (a c : Beside LinkTold) → GivesTries first inputs a c → TriesCut first inputs a c
tries-cut first [] a c gives = gives
tries-cut first (input ∷ past) a c gives =
    let t = try_after first past in
    let told = between-offers a.told.offered c.told.offered (offers_in_tries first past) (offers_at t.errand input t.inputs) gives.offered in
    let written = between-texts a.written c.written (lines_in first past) (line_before input t ++ line_behind input t) gives.written in
    let behind = between-texts written.0 c.written (line_before input t) (line_behind input t) written.2 in (
      beside (record c.told { offered = told.0 }) written.0,
      record { offered = told.1; written = written.1 },
      inr (record {
        between = behind.0;
        announced = behind.1;
        offered = front-all told.0 c.told.offered (offers_at t.errand input t.inputs) told.2;
        written = AppendsFront-all behind.0 c.written (line_behind input t) behind.2;
      }),
    )

-- a run that ends so, of which nothing is known in the end
ends-open : (first : Try) (until : Until) (inputs : List ClientInput) (a c : Beside LinkTold) (ending : TryEnding) → known_in_try (try_after first inputs) ≡ known.Open → InputsAreOver until inputs c.told → GivesTries first inputs a c
    → EndsOpen (try_after first inputs) ending → TriesEnd first until inputs a c ending
ends-open first until inputs a c (Ended (Knows known.Open)) unknown over gives ends = (unknown, λ open_yet. (ends, over), gives)
ends-open first until inputs a c (Ended (Knows (known.Accepted digest))) unknown over gives ends = absurd ends
ends-open first until inputs a c (Ended (Knows (known.Aborted digest))) unknown over gives ends = absurd ends
ends-open first until inputs a c (Ended (Refused cause)) unknown over gives ends = absurd ends
ends-open first until inputs a c (Ended LinkFault) unknown over gives ends = absurd ends
ends-open first until inputs a c (Ended Memory) unknown over gives ends = tries-cut first inputs a c gives
ends-open first until inputs a c (Told digest) unknown over gives ends = absurd ends
ends-open first until inputs a c (Waits text) unknown over gives ends = (unknown, ends, over, gives)
ends-open first until inputs a c WriteFault unknown over gives ends = absurd ends

-- they were enough
pub tries-over : (first : Try) (until : Until) (turns ticks : ℕ) (a b : Beside LinkTold) (client : NotedClient) (tries : ℕ) (ending : TryEnding) → IsOver until turns ticks → TriesSoFar first until turns ticks a b (client, tries)
    → ((t : Try) → NotedStandsFor t.errand t.details t.inputs client → EndsOpen t ending) → AttendsTries first until a b ending
tries-over first until turns ticks a b client tries ending enough so ends = record {
  inputs = so.inputs;
  needed = so.needed;
  takes = so.takes;
  unknown = so.unknown;
  ends = ends-open first until so.inputs a b ending so.goes.unknown (inl (over-by is_tick until so.inputs turns ticks so.all so.ticked enough)) so.gives (ends (try_after first so.inputs) so.goes.stands);
}

-- nothing more was given
kept : (offers : Offers) (lines : List ℕ) (a b c : Beside LinkTold) → Stays b.told.offered c.told.offered → c.written ≡ b.written → Gives offers lines a b → Gives offers lines a c
kept offers lines a b c stays same gives = record {
  offered = adds-still a.told.offered b.told.offered c.told.offered offers gives.offered stays;
  written = subst (λ (w : Option (List ℕ)). Appends a.written w lines) (sym same) gives.written;
}

module _ (first : Try) (details : Bool) (same : details ≡ first.details) (until : Until) (turns ticks : ℕ) (a b c : Beside LinkTold) (client : NotedClient) (tries : ℕ) (still : IsOver until turns ticks → ⊥) (so : TriesSoFar first until turns ticks a b (client, tries)) where
  abbrev now : Try
  now = try_after first so.inputs

  one-needed : (input : ClientInput) → AreNeeded is_tick until (input ∷ so.inputs)
  one-needed input = still-by is_tick until so.inputs turns ticks so.all so.ticked still

  more-given : (input : ClientInput) → Gives (offers_at now.errand input now.inputs) (line_before input now ++ line_behind input now) b c → GivesTries first (input ∷ so.inputs) a c
  more-given input gives = Gives-more a b c (offers_in_tries first so.inputs) (offers_at now.errand input now.inputs) (lines_in first so.inputs) (line_before input now ++ line_behind input now) so.gives gives

  more-part : (input : ClientInput) → GivesPart (offers_at now.errand input now.inputs) (line_before input now) (line_behind input now) b c → TriesCut first (input ∷ so.inputs) a c
  more-part input part = (b, so.gives, part)

  at-last : (ending : TryEnding) → (one : TryAnswers now b c (Err ending)) → TriesEnd first until (one.input ∷ so.inputs) a c ending → AttendsTries first until a c ending
  at-last ending one ends = record {
    inputs = one.input ∷ so.inputs;
    needed = one-needed one.input;
    takes = takes-more a.told b.told c.told so.inputs (one.input ∷ []) so.takes one.takes;
    unknown = (so.goes.unknown, so.unknown);
    ends = ends;
  }

  turned : (ending : TryEnding) → TurnOf details client tries b c (Err ending) → TryTakesTurn now b c (Err ending)
  turned ending turn = turn now so.goes.stands (same ∙ details-kept first so.inputs) so.goes.tries_are

  -- no input was left
  none-left : (ending : TryEnding) → HasNoTurn now b c ending → AttendsTries first until a c ending
  none-left ending one = record {
    inputs = so.inputs;
    needed = so.needed;
    takes = takes-still a.told b.told c.told so.inputs so.takes one.none.left;
    unknown = so.unknown;
    ends = ends-open first until so.inputs a c ending so.goes.unknown (inr one.none.none) (kept (offers_in_tries first so.inputs) (lines_in first so.inputs) a b c one.none.offered one.written so.gives) one.ends;
  }

  refused-gives : Gives [] [] b c → GivesTries first so.inputs a c
  refused-gives gives =
      subst (λ (xs : Offers). Gives xs (lines_in first so.inputs) a c) (append-nil (offers_in_tries first so.inputs))
      (subst (λ (ys : List ℕ). Gives (offers_in_tries first so.inputs ++ []) ys a c) (append-nil (lines_in first so.inputs))
      (Gives-more a b c (offers_in_tries first so.inputs) [] (lines_in first so.inputs) [] so.gives gives))

  -- the last input was answered
  answered-last : (ending : TryEnding) → TryAnswers now b c (Err ending) → AttendsTries first until a c ending
  answered-last (Ended (Knows k)) one = at-last (Ended (Knows k)) one (one.goes.0.0, λ open_yet. absurd (one.goes.0.1 open_yet), more-given one.input one.goes.1)
  answered-last (Ended (Refused cause)) one = at-last (Ended (Refused cause)) one (one.goes.0, refused-gives one.goes.1)
  answered-last (Ended LinkFault) one = absurd one.goes.0
  answered-last (Ended Memory) one = at-last (Ended Memory) one (more-part one.input one.goes.1)
  answered-last (Told digest) one = at-last (Told digest) one (one.goes.0, more-given one.input one.goes.1)
  answered-last (Waits text) one = absurd one.goes.0
  answered-last WriteFault one = at-last WriteFault one (more-part one.input one.goes.1)

  either : (ending : TryEnding) → TryAnswers now b c (Err ending) ⊎ HasNoTurn now b c ending → AttendsTries first until a c ending
  either ending (inl one) = answered-last ending one
  either ending (inr none) = none-left ending none

  pub tries-end : (ending : TryEnding) → TurnOf details client tries b c (Err ending) → AttendsTries first until a c ending
  tries-end (Ended (Knows k)) turn = either (Ended (Knows k)) (turned (Ended (Knows k)) turn)
  tries-end (Ended (Refused cause)) turn = either (Ended (Refused cause)) (turned (Ended (Refused cause)) turn)
  tries-end (Ended LinkFault) turn =
      let one = turned (Ended LinkFault) turn in
      record {
        inputs = so.inputs;
        needed = so.needed;
        takes = takes-still a.told b.told c.told so.inputs so.takes one.0.left;
        unknown = so.unknown;
        ends = (
          one.0.missed ∙ ap (λ m. min (m + MOST_MISSED) (2 ^ 64 - 1)) so.missed,
          so.goes.unknown,
          kept (offers_in_tries first so.inputs) (lines_in first so.inputs) a b c one.0.offered one.1 so.gives,
        );
      }
  tries-end (Ended Memory) turn = either (Ended Memory) (turned (Ended Memory) turn)
  tries-end (Told digest) turn = either (Told digest) (turned (Told digest) turn)
  tries-end (Waits text) turn = either (Waits text) (turned (Waits text) turn)
  tries-end WriteFault turn = either WriteFault (turned WriteFault turn)
