-- What a link was offered.
use Rattle.std.specs.Prelude.{◌≡◌, List, ◌++◌, map, Option}
use Rattle.cs_io.specs.Told.{Changes}
use Rattle.cs_io.specs.Link.{Offers}
use Rattle.cs_wire.specs.declared.input.Out.{Out}

-- these datagrams, with who they are for
abbrev pub offers_in : List Out → Offers
offers_in outs = map (λ out. (out.to, out.bytes)) outs

-- these were offered, and no more
abbrev pub AddsOffers : Offers → Option Offers → Option Offers → Type 0
AddsOffers offers = Changes (λ before now. now ≡ before ++ offers)

-- a front of these was offered
abbrev pub AddsFront : Offers → Option Offers → Option Offers → Type 0
AddsFront offers old new = (front : Offers) × (rest : Offers) × (offers ≡ front ++ rest) × AddsOffers front old new
