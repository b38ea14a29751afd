-- How looking a key up goes on from turn to turn, and how it ends.
use Rattle.std.proofs.Common.{◌≡◌, ℕ, ◌+◌, ◌-◌, ◌^◌, ◌≤◌, inl, inr, Bool, true, false, List, [], ◌∷◌, length, Option, Some, None, Result, Ok, Err, refl, sym, ap, subst, ◌∙◌, arith}
use Rattle.std.specs.Prelude.{min, count_by}
use Rattle.std.specs.Int.{from_bool}
use Rattle.cs_base.specs.Outside.{HasCause}
use Rattle.cs_io.specs.Told.{Changes, Stays}
use Rattle.cs_io.specs.Link.{Offers}
use Rattle.cs_io.specs.Outside.{LinkTold}
use Rattle.cs_io.specs.Until.{IsOver, AreNeeded}
use Rattle.cs_io.specs.declared.until.Until.{Until}
use Rattle.cs_io.specs.declared.link.MemInput.TheVariants as came
use Rattle.cs_io.specs.laws.Told.{stays-same}
use Rattle.cs_wire.specs.declared.input.Out.{Out}
use Rattle.cs_client.specs.Inputs.{ClientInput}
use Rattle.cs_serve.specs.declared.receiving.TheConstants.{MOST_MISSED}
use Rattle.cs_serve.specs.Offering.{offers_in, AddsOffers, AddsFront}
use Rattle.cs_serve.specs.Attending.{is_tick, ClientTakes, missed_past}
use Rattle.cs_serve.specs.laws.Taken.{ticks-more, over-by, still-by}
use Rattle.cs_serve.specs.laws.Offering.{adds-none, adds-more, adds-still, adds-later, front-later, front-more}
use Rattle.cs_serve.proofs.Told.{takes-none, takes-still, takes-more, takes-one}
use Rattle.cs_show.specs.declared.ending.Ending.{Ending}
use Rattle.cs_show.specs.declared.ending.Ending.TheVariants.{Tells, Open, LinkFault, Memory}
use Rattle.cs_show.specs.declared.lookup.Lookup.{Lookup}
use Rattle.cs_show.specs.declared.looker.Looker.{Looker}
use Rattle.cs_show.specs.Words.{seen}
use Rattle.cs_show.specs.Standing.{LookerStandsFor}
use Rattle.cs_show.specs.Looking.{offers_at, offers_by, WasUnseen, Looks, Hears, IsTold, Offered, LookAnswers, LookTakesTurn}

-- ---- one turn

-- a link that takes an input was offered nothing
offered-later : (offers : Offers) (a b c : Option Offers) (result : Result Looker Ending) → Stays a b → Offered offers b c result → Offered offers a c result
offered-later offers a b c (Ok looker) stays p = adds-later a b c offers stays p
offered-later offers a b c (Err (Tells line)) stays p = adds-later a b c offers stays p
offered-later offers a b c (Err Open) stays p = adds-later a b c offers stays p
offered-later offers a b c (Err LinkFault) stays p = adds-later a b c offers stays p
offered-later offers a b c (Err Memory) stays p = front-later a b c offers stays p

-- a line that is seen is told, unless memory ran out
pub told-so : (l : Lookup) (inputs : List ClientInput) (line : List ℕ) (ending : Ending) → seen l inputs ≡ Some line → IsTold line ending → Hears l inputs (Err ending)
told-so l inputs line (Tells other) is told = is ∙ ap Some (sym told)
told-so l inputs line Open is told = absurd told
told-so l inputs line LinkFault is told = absurd told
told-so l inputs line Memory is told = tt

-- of a datagram nothing is asked
none-asked : (a b : Option Offers) (result : Result Looker Ending) → Stays a b → Offered [] a b result
none-asked a b result stays = by result (adds-later a b b [] stays (adds-none b))
  where
    by : (result : Result Looker Ending) → AddsOffers [] a b → Offered [] a b result
    by (Ok looker) p = p
    by (Err (Tells line)) p = p
    by (Err Open) p = p
    by (Err LinkFault) p = p
    by (Err Memory) p = ([], [], refl, p)

module _ (l : Lookup) (past : List ClientInput) where
  -- a datagram was taken, and heard
  pub heard-one : (bytes : List ℕ) (a b : LinkTold) (result : Result Looker Ending) → Changes (λ (before now : List ClientInput). before ≡ came.Datagram bytes ∷ now) a.left b.left → b.missed ≡ 0 → Stays a.offered b.offered
      → Hears l (came.Datagram bytes ∷ past) result → LookAnswers l past a b result
  heard-one bytes a b result gone missed offered hears = record {
    input = came.Datagram bytes;
    takes = takes-one a b b (came.Datagram bytes) gone (stays-same b.left);
    missed = missed;
    hears = hears;
    offered = none-asked a.offered b.offered result offered;
  }

  pub heard-on : (bytes : List ℕ) (a b : LinkTold) (looker : Looker) → Changes (λ (before now : List ClientInput). before ≡ came.Datagram bytes ∷ now) a.left b.left → b.missed ≡ 0 → Stays a.offered b.offered
      → Hears l (came.Datagram bytes ∷ past) (Ok looker) → LookTakesTurn l past a b (Ok (looker, false))
  heard-on bytes a b looker gone missed offered hears = (
    record {
      input = came.Datagram bytes;
      takes = takes-one a b b (came.Datagram bytes) gone (stays-same b.left);
      missed = missed;
      hears = hears;
      offered = none-asked a.offered b.offered (Ok looker) offered;
    },
    refl,
  )

  pub heard-last : (bytes : List ℕ) (a b : LinkTold) (ending : Ending) → Changes (λ (before now : List ClientInput). before ≡ came.Datagram bytes ∷ now) a.left b.left → b.missed ≡ 0 → Stays a.offered b.offered
      → Hears l (came.Datagram bytes ∷ past) (Err ending) → LookTakesTurn l past a b (Err ending)
  heard-last bytes a b (Tells line) gone missed offered hears = heard-one bytes a b (Err (Tells line)) gone missed offered hears
  heard-last bytes a b Open gone missed offered hears = absurd hears
  heard-last bytes a b LinkFault gone missed offered hears = absurd hears
  heard-last bytes a b Memory gone missed offered hears = heard-one bytes a b (Err Memory) gone missed offered hears

  -- a tick was taken: nothing new is heard, and all is asked
  tick-stands : (looker : Looker) → LookerStandsFor l past looker → LookerStandsFor l (came.Tick ∷ past) looker
  tick-stands looker stands = record { lookup_is = stands.lookup_is; asks_are = stands.asks_are; words_are = stands.words_are }

  pub tick-on : (outs : List Out) (a b c : LinkTold) (looker : Looker) → LookerStandsFor l past looker → seen l past ≡ None → outs ≡ looker.asks → Changes (λ (before now : List ClientInput). before ≡ came.Tick ∷ now) a.left b.left → b.missed ≡ 0
      → Stays a.offered b.offered → Stays b.left c.left → c.missed ≡ b.missed → AddsOffers (offers_in outs) b.offered c.offered → LookTakesTurn l past a c (Ok (looker, true))
  tick-on outs a b c looker stands still is gone missed offered left same adds = (
    record {
      input = came.Tick;
      takes = takes-one a b c came.Tick gone left;
      missed = same ∙ missed;
      hears = (tick-stands looker stands, still);
      offered = adds-later a.offered b.offered c.offered (offers_at l came.Tick) offered
          (subst (λ (o : List Out). AddsOffers (offers_in o) b.offered c.offered) (is ∙ stands.asks_are) adds);
    },
    refl,
  )

  pub tick-short : (outs : List Out) (a b c : LinkTold) (looker : Looker) → LookerStandsFor l past looker → outs ≡ looker.asks → Changes (λ (before now : List ClientInput). before ≡ came.Tick ∷ now) a.left b.left → b.missed ≡ 0
      → Stays a.offered b.offered → Stays b.left c.left → c.missed ≡ b.missed → AddsFront (offers_in outs) b.offered c.offered → LookTakesTurn l past a c (Err Memory)
  tick-short outs a b c looker stands is gone missed offered left same adds = record {
    input = came.Tick;
    takes = takes-one a b c came.Tick gone left;
    missed = same ∙ missed;
    hears = tt;
    offered = front-later a.offered b.offered c.offered (offers_at l came.Tick) offered
        (subst (λ (o : List Out). AddsFront (offers_in o) b.offered c.offered) (is ∙ stands.asks_are) adds);
  }

-- ---- so many turns

-- so many inputs were taken, so many of them ticks, none of them too many, and nothing is seen yet
pub record SoFar (l : Lookup) (until : Until) (turns ticks : ℕ) (old new : LinkTold) (looker : Looker) : Type 0 where
  pub inputs : List ClientInput
  pub all : length inputs ≡ turns
  pub ticked : count_by is_tick inputs ≡ ticks
  pub needed : AreNeeded is_tick until inputs
  pub takes : ClientTakes inputs old new
  pub unseen : WasUnseen l inputs
  pub still : seen l inputs ≡ None
  pub missed : new.missed ≡ missed_past old.missed inputs
  pub offered : AddsOffers (offers_by l inputs) old.offered new.offered
  pub stands : LookerStandsFor l inputs looker

-- a turn, whatever came before
abbrev pub Turn : Lookup → Looker → LinkTold → LinkTold → Result (Looker × Bool) Ending → Type 0
Turn l looker old new result = (past : List ClientInput) → seen l past ≡ None → LookerStandsFor l past looker → LookTakesTurn l past old new result

pub begins : (l : Lookup) (until : Until) (a : LinkTold) (looker : Looker) → seen l [] ≡ None → LookerStandsFor l [] looker → SoFar l until 0 0 a a looker
begins l until a looker none stands = record {
  inputs = [];
  all = refl;
  ticked = refl;
  needed = tt;
  takes = takes-none a a (stays-same a.left);
  unseen = tt;
  still = none;
  missed = refl;
  offered = adds-none a.offered;
  stands = stands;
}

one-more : (input : ClientInput) (past : List ClientInput) (n : ℕ) → length past ≡ n → length (input ∷ past) ≡ n + 1
one-more input past n is = omega arith

pub goes-on : (l : Lookup) (until : Until) (turns ticks : ℕ) (a b c : LinkTold) (looker next : Looker) (ticked : Bool) (more : ℕ) → more ≡ from_bool ticked → (IsOver until turns ticks → ⊥) → SoFar l until turns ticks a b looker
    → Turn l looker b c (Ok (next, ticked)) → SoFar l until (turns + 1) (ticks + more) a c next
goes-on l until turns ticks a b c looker next ticked more counted still so turn =
    let both = turn so.inputs so.still so.stands in
    let one = both.0 in
    record {
      inputs = one.input ∷ so.inputs;
      all = one-more one.input so.inputs turns so.all;
      ticked = ticks-more is_tick one.input so.inputs ticks more ticked so.ticked both.1 counted;
      needed = still-by is_tick until so.inputs turns ticks so.all so.ticked still;
      takes = takes-more a b c so.inputs (one.input ∷ []) so.takes one.takes;
      unseen = (so.still, so.unseen);
      still = one.hears.1;
      missed = one.missed;
      offered = adds-more a.offered b.offered c.offered (offers_by l so.inputs) (offers_at l one.input) so.offered one.offered;
      stands = one.hears.0;
    }

-- ---- how it ends

-- want of memory before the first turn
pub nothing : (l : Lookup) (until : Until) (a : LinkTold) → Looks l until a a Memory
nothing l until a = record {
  inputs = [];
  needed = tt;
  takes = takes-none a a (stays-same a.left);
  unseen = tt;
  ends = ([], [], refl, adds-none a.offered);
}

-- they were enough
pub over : (l : Lookup) (until : Until) (turns ticks : ℕ) (a b : LinkTold) (looker : Looker) → IsOver until turns ticks → SoFar l until turns ticks a b looker → Looks l until a b Open
over l until turns ticks a b looker enough so = record {
  inputs = so.inputs;
  needed = so.needed;
  takes = so.takes;
  unseen = so.unseen;
  ends = (so.still, inl (over-by is_tick until so.inputs turns ticks so.all so.ticked enough), so.offered);
}

module _ (l : Lookup) (until : Until) (turns ticks : ℕ) (a b c : LinkTold) (looker : Looker) (still : IsOver until turns ticks → ⊥) (so : SoFar l until turns ticks a b looker) where
  one-needed : (input : ClientInput) → AreNeeded is_tick until (input ∷ so.inputs)
  one-needed input = still-by is_tick until so.inputs turns ticks so.all so.ticked still

  pub ends-so : (ending : Ending) → Turn l looker b c (Err ending) → Looks l until a c ending
  ends-so (Tells line) turn =
      let one = turn so.inputs so.still so.stands in
      record {
        inputs = one.input ∷ so.inputs;
        needed = one-needed one.input;
        takes = takes-more a b c so.inputs (one.input ∷ []) so.takes one.takes;
        unseen = (so.still, so.unseen);
        ends = (one.hears, adds-more a.offered b.offered c.offered (offers_by l so.inputs) (offers_at l one.input) so.offered one.offered);
      }
  ends-so Open turn =
      let one = turn so.inputs so.still so.stands in
      record {
        inputs = so.inputs;
        needed = so.needed;
        takes = takes-still a b c so.inputs so.takes one.left;
        unseen = so.unseen;
        ends = (so.still, inr one.none, adds-still a.offered b.offered c.offered (offers_by l so.inputs) so.offered one.offered);
      }
  ends-so LinkFault turn =
      let one = turn so.inputs so.still so.stands in
      record {
        inputs = so.inputs;
        needed = so.needed;
        takes = takes-still a b c so.inputs so.takes one.left;
        unseen = so.unseen;
        ends = (
          one.missed ∙ ap (λ m. min (m + MOST_MISSED) (2 ^ 64 - 1)) so.missed,
          so.still,
          adds-still a.offered b.offered c.offered (offers_by l so.inputs) so.offered one.offered,
        );
      }
  ends-so Memory turn =
      let one = turn so.inputs so.still so.stands in
      record {
        inputs = one.input ∷ so.inputs;
        needed = one-needed one.input;
        takes = takes-more a b c so.inputs (one.input ∷ []) so.takes one.takes;
        unseen = (so.still, so.unseen);
        ends = front-more a.offered b.offered c.offered (offers_by l so.inputs) (offers_at l one.input) so.offered one.offered;
      }

-- ---- counts

pub le_same : (n : ℕ) → n ≤ n
le_same n = omega arith

pub le_more : (a b c : ℕ) → a ≤ b → b ≤ c → a ≤ c
le_more a b c first second = omega arith

-- faults that came later than some
pub cause-later : {P Q : Type 0} (a b c : ℕ) → a ≤ b → HasCause b c P → (Q → P) → HasCause a c Q
cause-later a b c first cause because = record {
  later = (let second = cause.later in omega arith);
  cause = λ failed. let rose = cause.cause (because failed) in omega arith;
}
