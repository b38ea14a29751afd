-- Looking a key up over a link: what is taken, what is offered, and how it ends.
use Rattle.std.specs.Prelude.{◌≡◌, ℕ, ◌+◌, ◌-◌, ◌^◌, min, Bool, List, [], ◌∷◌, ◌++◌, Option, Some, None, Result, Ok, Err}
use Rattle.cs_io.specs.Link.{Offers}
use Rattle.cs_io.specs.Outside.{LinkTold}
use Rattle.cs_io.specs.Until.{AreNeeded}
use Rattle.cs_io.specs.declared.until.Until.{Until}
use Rattle.cs_client.specs.Inputs.{ClientInput}
use Rattle.cs_client.specs.Sayings.{outs_of_sayings}
use Rattle.cs_serve.specs.declared.receiving.TheConstants.{MOST_MISSED}
use Rattle.cs_serve.specs.Offering.{offers_in, AddsOffers, AddsFront}
use Rattle.cs_serve.specs.Attending.{is_tick, ClientTakes, InputsAreOver, missed_past, HasNone, HasFailed}
use Rattle.cs_show.specs.declared.ending.Ending.{Ending}
use Rattle.cs_show.specs.declared.ending.Ending.TheVariants.{Tells, Open, LinkFault, Memory}
use Rattle.cs_show.specs.declared.lookup.Lookup.{Lookup}
use Rattle.cs_show.specs.declared.looker.Looker.{Looker}
use Rattle.cs_show.specs.Words.{seen}
use Rattle.cs_show.specs.Sayings.{asks_at}
use Rattle.cs_show.specs.Standing.{LookerStandsFor}

-- what is asked at an input, as datagrams with who they are for
abbrev pub offers_at : Lookup → ClientInput → Offers
offers_at l input = offers_in (outs_of_sayings l.keys (asks_at l input))

-- all that is asked at these inputs, the oldest first
abbrev pub offers_by : Lookup → List ClientInput → Offers
offers_by l [] = []
offers_by l (input ∷ past) = offers_by l past ++ offers_at l input

-- ---- how it ends

-- before the last of these inputs nothing was seen
abbrev pub WasUnseen : Lookup → List ClientInput → Type 0
WasUnseen l [] = Unit {0}
WasUnseen l (input ∷ past) = (seen l past ≡ None) × WasUnseen l past

-- Tells: this is seen. Open: nothing is, and the inputs are over. LinkFault: so many receives in a row failed. With these
-- all that is asked was offered; for want of memory a front of it.
abbrev pub LookEnds : Lookup → Until → List ClientInput → LinkTold → LinkTold → Ending → Type 0
LookEnds l until inputs old new (Tells line) =
    (seen l inputs ≡ Some line) × AddsOffers (offers_by l inputs) old.offered new.offered
LookEnds l until inputs old new Open =
    (seen l inputs ≡ None) × InputsAreOver until inputs new × AddsOffers (offers_by l inputs) old.offered new.offered
LookEnds l until inputs old new LinkFault =
    (new.missed ≡ min (missed_past old.missed inputs + MOST_MISSED) (2 ^ 64 - 1))
    × (seen l inputs ≡ None) × AddsOffers (offers_by l inputs) old.offered new.offered
LookEnds l until inputs old new Memory = AddsFront (offers_by l inputs) old.offered new.offered

-- A key was looked up: these inputs were taken, none of them too many, and before the last of them nothing was seen; and
-- it ended so.
pub record Looks (l : Lookup) (until : Until) (old new : LinkTold) (ending : Ending) : Type 0 where
  pub inputs : List ClientInput
  pub needed : AreNeeded is_tick until inputs
  pub takes : ClientTakes inputs old new
  pub unseen : WasUnseen l inputs
  pub ends : LookEnds l until inputs old new ending

-- ---- one input

-- what came of it: nothing is seen yet, or that, or memory ran out
abbrev pub Hears : Lookup → List ClientInput → Result Looker Ending → Type 0
Hears l inputs (Ok looker) = LookerStandsFor l inputs looker × (seen l inputs ≡ None)
Hears l inputs (Err (Tells line)) = seen l inputs ≡ Some line
Hears l inputs (Err Open) = ⊥
Hears l inputs (Err LinkFault) = ⊥
Hears l inputs (Err Memory) = Unit {0}

-- this line is told, unless memory ran out
abbrev pub IsTold : List ℕ → Ending → Type 0
IsTold line (Tells other) = other ≡ line
IsTold line Open = ⊥
IsTold line LinkFault = ⊥
IsTold line Memory = Unit {0}

-- this was offered at it; for want of memory a front of it
abbrev pub Offered : Offers → Option Offers → Option Offers → Result Looker Ending → Type 0
Offered offers old new (Err Memory) = AddsFront offers old new
Offered offers old new result = AddsOffers offers old new

-- the first input that was left is gone, and was answered
pub record LookAnswers (l : Lookup) (past : List ClientInput) (old new : LinkTold) (result : Result Looker Ending)
    : Type 0 where
  pub input : ClientInput
  pub takes : ClientTakes (input ∷ []) old new
  pub missed : new.missed ≡ 0
  pub hears : Hears l (input ∷ past) result
  pub offered : Offered (offers_at l input) old.offered new.offered result

-- what came of one turn, which tells whether its input was a tick
abbrev pub LookTakesTurn : Lookup → List ClientInput → LinkTold → LinkTold → Result (Looker × Bool) Ending → Type 0
LookTakesTurn l past old new (Ok (looker, ticked)) =
    (one : LookAnswers l past old new (Ok looker)) × (ticked ≡ is_tick one.input)
LookTakesTurn l past old new (Err Open) = HasNone old new
LookTakesTurn l past old new (Err LinkFault) = HasFailed old new
LookTakesTurn l past old new (Err ending) = LookAnswers l past old new (Err ending)
