-- A client over a link: what it takes, what is offered, and how its run ends.
use Rattle.std.specs.Prelude.{◌≡◌, ◌≢◌, ◌⊎◌, ℕ, ◌+◌, ◌-◌, ◌^◌, min, Bool, true, false, List, [], ◌∷◌, ◌++◌, reverse, Option, Result, Ok, Err, IfSome}
use Rattle.cs_io.specs.Told.{Changes, Stays}
use Rattle.cs_io.specs.Link.{Offers}
use Rattle.cs_io.specs.Outside.{LinkTold}
use Rattle.cs_io.specs.Until.{AreEnough, AreNeeded}
use Rattle.cs_io.specs.declared.until.Until.{Until}
use Rattle.cs_io.specs.declared.link.MemInput.TheVariants as came
use Rattle.cs_proc.specs.declared.error.ProcError.{ProcError}
use Rattle.cs_serve.specs.declared.receiving.TheConstants.{MOST_MISSED}
use Rattle.cs_serve.specs.Offering.{offers_in, AddsOffers, AddsFront}
use Rattle.cs_client.specs.declared.errand.Errand.{Errand}
use Rattle.cs_client.specs.declared.known.Known.TheVariants as known
use Rattle.cs_client.specs.Inputs.{ClientInput}
use Rattle.cs_client.specs.Knowing.{knows}
use Rattle.cs_client.specs.Sayings.{says_at, says_by, outs_of_sayings}
use Rattle.cs_client.specs.Seen.{Client}
use Rattle.cs_client.specs.Standing.{ClientStandsFor, MethodIsRefused}
use Rattle.cs_serve.specs.declared.client_ending.Ending.{Ending}
use Rattle.cs_serve.specs.declared.client_ending.Ending.TheVariants.{Knows, Refused, LinkFault, Memory}

abbrev pub is_tick : ClientInput → Bool
is_tick (came.Datagram bytes) = false
is_tick came.Tick = true

-- the first inputs that were left are gone, and are these, the newest first
abbrev pub ClientTakes : List ClientInput → LinkTold → LinkTold → Type 0
ClientTakes inputs old new =
    Changes (λ before now. (taken : List ClientInput)
    × (before ≡ taken ++ now) × (inputs ≡ reverse taken)) old.left new.left

-- all that the client says at these inputs, as datagrams with who they are for
abbrev pub offers_by : Errand → List ClientInput → Offers
offers_by e inputs = offers_in (outs_of_sayings e.keys (says_by e inputs))

abbrev pub offers_at : Errand → ClientInput → List ClientInput → Offers
offers_at e input past = offers_in (outs_of_sayings e.keys (says_at e input past))

-- ---- how it ends

-- before the last of these inputs nothing was known
abbrev pub WasOpen : Errand → List ClientInput → Type 0
WasOpen e [] = Unit {0}
WasOpen e (input ∷ past) = (knows e past ≡ known.Open) × WasOpen e past

-- no more inputs were to be taken, or none was left
abbrev pub InputsAreOver : Until → List ClientInput → LinkTold → Type 0
InputsAreOver until inputs new = AreEnough is_tick until inputs ⊎ IfSome new.left (λ left. left ≡ [])

-- so many receives in a row had failed, before the link was asked again
abbrev pub missed_past : ℕ → List ClientInput → ℕ
missed_past before [] = before
missed_past before (input ∷ past) = 0

-- the method is refused at the last of these inputs; of that one nothing is said
abbrev pub EndsRefused : Errand → List ClientInput → LinkTold → LinkTold → ProcError → Type 0
EndsRefused e [] old new cause = ⊥
EndsRefused e (input ∷ past) old new cause =
    MethodIsRefused e past input cause × AddsOffers (offers_by e past) old.offered new.offered

-- Knows: so much is known; where it is nothing, the inputs are over. LinkFault: so many receives in a row failed. With
-- these all that the client says was offered; for want of memory a front of it.
abbrev pub ClientEnds : Errand → Until → List ClientInput → LinkTold → LinkTold → Ending → Type 0
ClientEnds e until inputs old new (Knows so) =
    (knows e inputs ≡ so) × (so ≡ known.Open → InputsAreOver until inputs new)
    × AddsOffers (offers_by e inputs) old.offered new.offered
ClientEnds e until inputs old new (Refused cause) = EndsRefused e inputs old new cause
ClientEnds e until inputs old new LinkFault =
    (new.missed ≡ min (missed_past old.missed inputs + MOST_MISSED) (2 ^ 64 - 1))
    × (knows e inputs ≡ known.Open) × AddsOffers (offers_by e inputs) old.offered new.offered
ClientEnds e until inputs old new Memory = AddsFront (offers_by e inputs) old.offered new.offered

-- A client was run: these inputs were taken, none of them too many, and before the last of them nothing was known; and
-- it ended so.
pub record Attends (e : Errand) (until : Until) (old new : LinkTold) (ending : Ending) : Type 0 where
  pub inputs : List ClientInput
  pub needed : AreNeeded is_tick until inputs
  pub takes : ClientTakes inputs old new
  pub unknown : WasOpen e inputs
  pub ends : ClientEnds e until inputs old new ending

-- ---- one input

-- these were offered, and the client, which stands for these inputs, knows nothing yet; or this is how it ends
abbrev pub Says : Errand → List ClientInput → Offers → Option Offers → Option Offers → Result Client Ending → Type 0
Says e inputs offers old new (Ok client) =
    ClientStandsFor e inputs client × (knows e inputs ≡ known.Open) × AddsOffers offers old new
Says e inputs offers old new (Err (Knows so)) = (knows e inputs ≡ so) × (so ≢ known.Open) × AddsOffers offers old new
Says e inputs offers old new (Err (Refused cause)) = ⊥
Says e inputs offers old new (Err LinkFault) = ⊥
Says e inputs offers old new (Err Memory) = AddsFront offers old new

-- an input was answered, or the method is refused at it
abbrev pub GoesBy : Errand → List ClientInput → ClientInput → Option Offers → Option Offers
    → Result Client Ending → Type 0
GoesBy e past input old new (Err (Refused cause)) = MethodIsRefused e past input cause × Stays old new
GoesBy e past input old new result = Says e (input ∷ past) (offers_at e input past) old new result

-- the first input that was left is gone, and was answered
pub record ClientAnswers (e : Errand) (past : List ClientInput) (old new : LinkTold) (result : Result Client Ending)
    : Type 0 where
  pub input : ClientInput
  pub takes : ClientTakes (input ∷ []) old new
  pub missed : new.missed ≡ 0
  pub goes : GoesBy e past input old.offered new.offered result

-- nothing was left
pub record HasNone (old new : LinkTold) : Type 0 where
  pub none : IfSome new.left (λ left. left ≡ [])
  pub left : Stays old.left new.left
  pub offered : Stays old.offered new.offered

-- too many receives failed
pub record HasFailed (old new : LinkTold) : Type 0 where
  pub missed : new.missed ≡ min (old.missed + MOST_MISSED) (2 ^ 64 - 1)
  pub left : Stays old.left new.left
  pub offered : Stays old.offered new.offered

-- what came of one turn, which tells whether its input was a tick
abbrev pub ClientTakesTurn : Errand → List ClientInput → LinkTold → LinkTold → Result (Client × Bool) Ending → Type 0
ClientTakesTurn e past old new (Ok (client, ticked)) =
    (one : ClientAnswers e past old new (Ok client)) × (ticked ≡ is_tick one.input)
ClientTakesTurn e past old new (Err (Knows known.Open)) = HasNone old new
ClientTakesTurn e past old new (Err LinkFault) = HasFailed old new
ClientTakesTurn e past old new (Err ending) = ClientAnswers e past old new (Err ending)
