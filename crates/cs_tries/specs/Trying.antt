-- A client over a link whose call is made again after it was aborted: what it takes, what is offered and printed, and
-- how its run ends.
use Rattle.std.specs.Prelude.{◌≡◌, ◌≢◌, ◌⊎◌, ℕ, ◌+◌, ◌-◌, ◌^◌, min, Bool, List, [], ◌∷◌, ◌++◌, Option, Some, None, Result, Ok, Err}
use Rattle.std.specs.Io.KnownBytes.{Appends}
use Rattle.cs_base.specs.Answers.{AppendsFront}
use Rattle.cs_base.specs.declared.printing.WriteError.{WriteError}
use Rattle.cs_base.specs.declared.printing.WriteError.TheVariants as write
use Rattle.cs_io.specs.Told.{Stays}
use Rattle.cs_io.specs.Link.{Offers}
use Rattle.cs_io.specs.Outside.{LinkTold, Beside}
use Rattle.cs_io.specs.Until.{AreNeeded}
use Rattle.cs_io.specs.declared.until.Until.{Until}
use Rattle.cs_proc.specs.declared.error.ProcError.{ProcError}
use Rattle.cs_client.specs.declared.known.Known.{Known}
use Rattle.cs_client.specs.declared.known.Known.TheVariants as known
use Rattle.cs_client.specs.Inputs.{ClientInput}
use Rattle.cs_client.specs.Standing.{MethodIsRefused}
use Rattle.cs_waits.specs.declared.noted.NotedClient.{NotedClient}
use Rattle.cs_waits.specs.Standing.{NotedStandsFor}
use Rattle.cs_tries.specs.Tries.{Try, with_input, known_in_try, then_next, moved_on, try_after, line_before, line_behind, lines_in, lines_open}
use Rattle.cs_serve.specs.declared.receiving.TheConstants.{MOST_MISSED}
use Rattle.cs_serve.specs.declared.client_ending.Ending.{Ending}
use Rattle.cs_serve.specs.declared.client_ending.Ending.TheVariants.{Knows, Refused, LinkFault, Memory}
use Rattle.cs_tries.specs.declared.ending.TryEnding.{TryEnding}
use Rattle.cs_tries.specs.declared.ending.TryEnding.TheVariants.{Ended, Told, Waits, WriteFault}
use Rattle.cs_serve.specs.Offering.{AddsFront}
use Rattle.cs_serve.specs.Giving.{Gives}
use Rattle.cs_serve.specs.Attending.{is_tick, ClientTakes, offers_at, InputsAreOver, missed_past, HasNone, HasFailed}

-- all that is said at these inputs, as datagrams with who they are for
abbrev pub offers_in_tries : Try → List ClientInput → Offers
offers_in_tries first [] = []
offers_in_tries first (input ∷ past) =
    let t = try_after first past in offers_in_tries first past ++ offers_at t.errand input t.inputs

-- it was offered, and the lines of all tries printed that others followed
abbrev pub GivesTries : Try → List ClientInput → Beside LinkTold → Beside LinkTold → Type 0
GivesTries first inputs = Gives (offers_in_tries first inputs) (lines_in first inputs)

-- ---- part of what was to be given at an input, in this order: a text, these offers, another text

-- the first text wasn't printed whole, so nothing was offered
pub record IsCutBefore (before : List ℕ) (old new : Beside LinkTold) : Type 0 where
  pub offered : Stays old.told.offered new.told.offered
  pub written : AppendsFront old.written new.written before

-- it was; behind it there is a front of each of the others
pub record IsCutBehind (offers : Offers) (before behind : List ℕ) (old new : Beside LinkTold) : Type 0 where
  pub between : Option (List ℕ)
  pub announced : Appends old.written between before
  pub offered : AddsFront offers old.told.offered new.told.offered
  pub written : AppendsFront between new.written behind

abbrev pub GivesPart : Offers → List ℕ → List ℕ → Beside LinkTold → Beside LinkTold → Type 0
GivesPart offers before behind old new = IsCutBefore before old new ⊎ IsCutBehind offers before behind old new

-- ---- how it ends

-- before the last of these inputs nothing was known of the try that was made then
abbrev pub WasOpenInTries : Try → List ClientInput → Type 0
WasOpenInTries first [] = Unit {0}
WasOpenInTries first (input ∷ past) = (known_in_try (try_after first past) ≡ known.Open) × WasOpenInTries first past

-- the method is refused at the last of these inputs; of that one nothing is said
abbrev pub TriesRefused : Try → List ClientInput → Beside LinkTold → Beside LinkTold → ProcError → Type 0
TriesRefused first [] old new cause = ⊥
TriesRefused first (input ∷ past) old new cause =
    let t = try_after first past in MethodIsRefused t.errand t.inputs input cause × GivesTries first past old new

-- all was given before the last of these inputs, and part of what was to be given at it
abbrev pub TriesCut : Try → List ClientInput → Beside LinkTold → Beside LinkTold → Type 0
TriesCut first [] old new = Gives [] [] old new
TriesCut first (input ∷ past) old new =
    let t = try_after first past in
    (between : Beside LinkTold) × GivesTries first past old between
    × GivesPart (offers_at t.errand input t.inputs) (line_before input t) (line_behind input t) between new

-- as a client ends, with the last try; or it told that it is accepted; or it tells what it waits for; or a line could
-- not be printed
abbrev pub TriesEnd : Try → Until → List ClientInput → Beside LinkTold → Beside LinkTold → TryEnding → Type 0
TriesEnd first until inputs old new (Ended (Knows so)) =
    (known_in_try (try_after first inputs) ≡ so)
    × (so ≡ known.Open → (lines_open (try_after first inputs) ≡ None) × InputsAreOver until inputs new.told)
    × GivesTries first inputs old new
TriesEnd first until inputs old new (Ended (Refused cause)) = TriesRefused first inputs old new cause
TriesEnd first until inputs old new (Ended LinkFault) =
    (new.told.missed ≡ min (missed_past old.told.missed inputs + MOST_MISSED) (2 ^ 64 - 1))
    × (known_in_try (try_after first inputs) ≡ known.Open) × GivesTries first inputs old new
TriesEnd first until inputs old new (Ended Memory) = TriesCut first inputs old new
TriesEnd first until inputs old new (Told digest) =
    (known_in_try (try_after first inputs) ≡ known.Accepted digest) × GivesTries first inputs old new
TriesEnd first until inputs old new (Waits text) =
    (known_in_try (try_after first inputs) ≡ known.Open) × (lines_open (try_after first inputs) ≡ Some text)
    × InputsAreOver until inputs new.told × GivesTries first inputs old new
TriesEnd first until inputs old new WriteFault = TriesCut first inputs old new

-- A client was run: these inputs were taken, none of them too many, and before the last of them nothing was known; and
-- it ended so.
pub record AttendsTries (first : Try) (until : Until) (old new : Beside LinkTold) (ending : TryEnding) : Type 0 where
  pub inputs : List ClientInput
  pub needed : AreNeeded is_tick until inputs
  pub takes : ClientTakes inputs old.told new.told
  pub unknown : WasOpenInTries first inputs
  pub ends : TriesEnd first until inputs old new ending

-- ---- one input

-- where a text isn't written
abbrev pub unwritten : WriteError → TryEnding
unwritten write.Failed = WriteFault
unwritten write.Memory = Ended Memory

-- the client that goes on, with how many tries may be made with it
abbrev pub Going : Type 0
Going = NotedClient × ℕ

-- the client stands for this try, of which nothing is known
pub record GoesOnAs (t : Try) (going : Going) : Type 0 where
  pub stands : NotedStandsFor t.errand t.details t.inputs going.0
  pub tries_are : going.1 ≡ t.tries
  pub unknown : known_in_try t ≡ known.Open

-- what came of what is known of a try: the next one goes on, or this is what is known
abbrev pub GoesBehind : Try → Result Going TryEnding → Type 0
GoesBehind t (Ok going) = GoesOnAs t going
GoesBehind t (Err (Ended (Knows so))) = (known_in_try t ≡ so) × (so ≢ known.Open)
GoesBehind t (Err (Ended (Refused cause))) = ⊥
GoesBehind t (Err (Ended LinkFault)) = ⊥
GoesBehind t (Err (Ended Memory)) = Unit {0}
GoesBehind t (Err (Told digest)) = known_in_try t ≡ known.Accepted digest
GoesBehind t (Err (Waits text)) = ⊥
GoesBehind t (Err WriteFault) = Unit {0}

-- what was printed at it; a front of it where that could not be, and for want of memory
abbrev pub PrintsBehind : List ℕ → Option (List ℕ) → Option (List ℕ) → Result Going TryEnding → Type 0
PrintsBehind line written written' (Err (Ended Memory)) = AppendsFront written written' line
PrintsBehind line written written' (Err WriteFault) = AppendsFront written written' line
PrintsBehind line written written' result = Appends written written' line

-- what was given at it; part of it where a line could not be printed, and for want of memory
abbrev pub GivenBy : Offers → List ℕ → List ℕ → Beside LinkTold → Beside LinkTold → Result Going TryEnding → Type 0
GivenBy offers before behind old new (Err (Ended Memory)) = GivesPart offers before behind old new
GivenBy offers before behind old new (Err WriteFault) = GivesPart offers before behind old new
GivenBy offers before behind old new result = Gives offers (before ++ behind) old new

-- an input was answered, or the method is refused at it
abbrev pub TryGoesBy : Try → ClientInput → Beside LinkTold → Beside LinkTold → Result Going TryEnding → Type 0
TryGoesBy t input old new (Err (Ended (Refused cause))) =
    MethodIsRefused t.errand t.inputs input cause × Gives [] [] old new
TryGoesBy t input old new result =
    GoesBehind (moved_on (with_input input t)) result
    × GivenBy (offers_at t.errand input t.inputs) (line_before input t) (line_behind input t) old new result

-- the first input that was left is gone, and was answered
pub record TryAnswers (t : Try) (old new : Beside LinkTold) (result : Result Going TryEnding) : Type 0 where
  pub input : ClientInput
  pub takes : ClientTakes (input ∷ []) old.told new.told
  pub missed : new.told.missed ≡ 0
  pub goes : TryGoesBy t input old new result

-- how a try ends of which nothing is known in the end, for which memory may not do
abbrev pub EndsOpen : Try → TryEnding → Type 0
EndsOpen t (Ended (Knows known.Open)) = lines_open t ≡ None
EndsOpen t (Ended Memory) = Unit {0}
EndsOpen t (Waits text) = lines_open t ≡ Some text
EndsOpen t ending = ⊥

-- no input was left
pub record HasNoTurn (t : Try) (old new : Beside LinkTold) (ending : TryEnding) : Type 0 where
  pub none : HasNone old.told new.told
  pub written : new.written ≡ old.written
  pub ends : EndsOpen t ending

-- what came of one turn, which tells whether its input was a tick
abbrev pub TryTakesTurn : Try → Beside LinkTold → Beside LinkTold → Result (NotedClient × ℕ × Bool) TryEnding → Type 0
TryTakesTurn t old new (Ok (noted, tries, ticked)) =
    (one : TryAnswers t old new (Ok (noted, tries))) × (ticked ≡ is_tick one.input)
TryTakesTurn t old new (Err (Ended LinkFault)) = HasFailed old.told new.told × (new.written ≡ old.written)
TryTakesTurn t old new (Err ending) = TryAnswers t old new (Err ending) ⊎ HasNoTurn t old new ending
