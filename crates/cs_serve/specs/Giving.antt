-- What a node takes of its link, and what it gives to link and sink.
use Rattle.std.specs.Prelude.{◌≡◌, Bool, true, false, List, ◌++◌, map, reverse}
use Rattle.std.specs.Io.KnownBytes.{Appends}
use Rattle.cs_base.specs.Answers.{AppendsFront}
use Rattle.cs_ledger.specs.Ledger.{Bytes}
use Rattle.cs_node_rules.specs.Site.{Input, Datagram, Tick}
use Rattle.cs_io.specs.Told.{Changes}
use Rattle.cs_io.specs.Link.{Offers}
use Rattle.cs_io.specs.Outside.{LinkTold, Beside}
use Rattle.cs_io.specs.declared.link.MemInput.{MemInput}
use Rattle.cs_io.specs.declared.link.MemInput.TheVariants as came
use Rattle.cs_serve.specs.Offering.{AddsOffers, AddsFront}

-- what comes by a link, as a node is given it
abbrev pub given_of : MemInput → Input
given_of (came.Datagram bytes) = Datagram bytes
given_of came.Tick = Tick

abbrev pub is_tick : Input → Bool
is_tick (Datagram bytes) = false
is_tick Tick = true

-- the first inputs that were left are gone, and are these, the newest first
abbrev pub TakesInputs : List Input → Beside LinkTold → Beside LinkTold → Type 0
TakesInputs inputs old new =
    Changes (λ before now. (taken : List MemInput)
    × (before ≡ taken ++ now) × (inputs ≡ reverse (map given_of taken))) old.told.left new.told.left

-- these were offered, and these lines written, and no more
pub record Gives (offers : Offers) (lines : Bytes) (old new : Beside LinkTold) : Type 0 where
  pub offered : AddsOffers offers old.told.offered new.told.offered
  pub written : Appends old.written new.written lines

-- a front of each
pub record GivesFront (offers : Offers) (lines : Bytes) (old new : Beside LinkTold) : Type 0 where
  pub offered : AddsFront offers old.told.offered new.told.offered
  pub written : AppendsFront old.written new.written lines
