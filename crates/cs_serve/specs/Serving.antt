-- Serving: what a node does with the inputs of a link.
use Rattle.std.specs.Prelude.{◌≡◌, ℕ, ◌+◌, ◌-◌, ◌^◌, ◌≤◌, min, Bool, false, List, [], ◌∷◌, ◌++◌, length, map, Option, Some, IfSome, Result, Ok, Err}
use Rattle.cs_ledger.specs.Ledger.{Bytes}
use Rattle.cs_node_rules.specs.Lines.{parcels_of, sign_lines}
use Rattle.cs_node_rules.specs.Site.{Input, Mark, Site, View, view_after, signs_of}
use Rattle.cs_node_rules.specs.Trail.{event_marks}
use Rattle.cs_io.specs.Link.{Offers}
use Rattle.cs_io.specs.Outside.{LinkTold, Beside}
use Rattle.cs_io.specs.Until.{AreEnough, AreNeeded}
use Rattle.cs_io.specs.declared.until.Until.{Until}
use Rattle.cs_serve.specs.declared.ending.End.{End}
use Rattle.cs_serve.specs.declared.ending.End.TheVariants.{Done, Ended, LinkFault, WriteFault, Memory}
use Rattle.cs_serve.specs.declared.receiving.TheConstants.{MOST_MISSED}
use Rattle.cs_serve.specs.Giving.{is_tick, TakesInputs, Gives, GivesFront}

-- ---- what a node does

-- the marks of a node that is given these inputs; both the newest first
abbrev pub trail : {M : Type 0} → Site M → View M → List Input → List (Mark M)
trail {M} site v [] = []
trail {M} site v (input ∷ past) =
    event_marks site (view_after site (trail site v past) v) input ++ trail site v past

-- the datagrams that marks send, with who they are for, the oldest first
abbrev pub offers_of : {M : Type 0} → Site M → View M → List (Mark M) → Offers
offers_of {M} site v marks = map (λ parcel. (parcel.to, parcel.bytes)) (parcels_of site.net v.me (signs_of marks))

-- the lines of what marks execute, the oldest first; none of a trace
abbrev pub lines_of : {M : Type 0} → Site M → View M → List (Mark M) → Bytes
lines_of {M} site v marks = sign_lines site.setup false v.me (signs_of marks)

-- all that marks send was offered, and all their lines were written; or a front of each
abbrev pub NodeGivesAll : {M : Type 0} → Site M → View M → List (Mark M) → Beside LinkTold → Beside LinkTold → Type 0
NodeGivesAll {M} site v marks = Gives (offers_of site v marks) (lines_of site v marks)

abbrev pub GivesPart : {M : Type 0} → Site M → View M → List (Mark M) → Beside LinkTold → Beside LinkTold → Type 0
GivesPart {M} site v marks = GivesFront (offers_of site v marks) (lines_of site v marks)

-- ---- how it ends

-- so many receives in a row had failed, before the link was asked again
abbrev pub missed_past : ℕ → List Input → ℕ
missed_past before [] = before
missed_past before (input ∷ past) = 0

-- Done: so far it goes on. Ended: the link has none left. LinkFault: so many receives in a row failed. With these all
-- was given; where a line couldn't be written, and for want of memory, a front of it.
abbrev pub NodeEnds : {M : Type 0} → Site M → View M → List Input → Beside LinkTold → Beside LinkTold → End → Type 0
NodeEnds {M} site v inputs old new Done =
    (new.told.missed ≡ missed_past old.told.missed inputs) × NodeGivesAll site v (trail site v inputs) old new
NodeEnds {M} site v inputs old new Ended =
    IfSome new.told.left (λ left. left ≡ []) × NodeGivesAll site v (trail site v inputs) old new
NodeEnds {M} site v inputs old new LinkFault =
    (new.told.missed ≡ min (missed_past old.told.missed inputs + MOST_MISSED) (2 ^ 64 - 1))
    × NodeGivesAll site v (trail site v inputs) old new
NodeEnds {M} site v inputs old new WriteFault = GivesPart site v (trail site v inputs) old new
NodeEnds {M} site v inputs old new Memory = GivesPart site v (trail site v inputs) old new

-- These inputs were taken, it ended so, and the node, if there is one, stands for the view after them.
pub record ServesInputs {C M : Type 0} (stands : C → View M → Type 0) (site : Site M) (v : View M) (inputs : List Input)
    (old new : Beside LinkTold) (result : End × Option C) : Type 0 where
  pub takes : TakesInputs inputs old new
  pub ends : NodeEnds site v inputs old new result.0
  pub after : IfSome result.1 (λ core. stands core (view_after site (trail site v inputs) v))

-- A node was served: of the inputs that it took none is too many, and where it is done they are enough.
pub record Serves {C M : Type 0} (stands : C → View M → Type 0) (site : Site M) (v : View M) (until : Until)
    (old new : Beside LinkTold) (result : End × Option C) : Type 0 where
  pub inputs : List Input
  pub needed : AreNeeded is_tick until inputs
  pub enough : result.0 ≡ Done → AreEnough is_tick until inputs
  pub passes : ServesInputs stands site v inputs old new result

-- ---- one turn

-- an input that was answered, unless that ended the serving
abbrev pub served : {C : Type 0} → Result C (End × Option C) → End × Option C
served {C} (Ok core) = (Done, Some core)
served {C} (Err ended) = ended

-- the same of a turn, which tells whether its input was a tick
abbrev pub served_turn : {C : Type 0} → Result (C × Bool) (End × Option C) → End × Option C
served_turn {C} (Ok (core, ticked)) = (Done, Some core)
served_turn {C} (Err ended) = ended

-- one input was taken, and it is a tick or isn't; or one at most, where that ended the serving
abbrev pub TakesOne : {C : Type 0} → List Input → Result (C × Bool) (End × Option C) → Type 0
TakesOne {C} inputs (Ok (core, ticked)) = (input : Input) × (inputs ≡ input ∷ []) × (ticked ≡ is_tick input)
TakesOne {C} inputs (Err ended) = length inputs ≤ 1

pub record TakesTurn {C M : Type 0} (stands : C → View M → Type 0) (site : Site M) (v : View M) (old new : Beside LinkTold)
    (result : Result (C × Bool) (End × Option C)) : Type 0 where
  pub inputs : List Input
  pub one : TakesOne inputs result
  pub passes : ServesInputs stands site v inputs old new (served_turn result)

-- what an input makes was given; or a front of it
abbrev pub GivesBy : {M : Type 0} → Site M → View M → List (Mark M) → Beside LinkTold → Beside LinkTold → End → Type 0
GivesBy {M} site v marks old new Done = NodeGivesAll site v marks old new
GivesBy {M} site v marks old new Ended = ⊥
GivesBy {M} site v marks old new LinkFault = ⊥
GivesBy {M} site v marks old new WriteFault = GivesPart site v marks old new
GivesBy {M} site v marks old new Memory = GivesPart site v marks old new

-- an input was answered
pub record NodeAnswers {C M : Type 0} (stands : C → View M → Type 0) (site : Site M) (v : View M) (input : Input)
    (old new : Beside LinkTold) (result : End × Option C) : Type 0 where
  pub gives : GivesBy site v (event_marks site v input) old new result.0
  pub after : IfSome result.1 (λ core. stands core (view_after site (event_marks site v input) v))
