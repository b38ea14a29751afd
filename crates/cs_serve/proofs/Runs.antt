-- How the run of a client goes on from turn to turn, and how it ends.
use Rattle.std.proofs.Common.{◌≡◌, ℕ, ◌+◌, ◌-◌, ◌^◌, ◌≤◌, inl, inr, Bool, List, [], ◌∷◌, length, Option, Result, Ok, Err, refl, sym, ap, subst, ◌∙◌, arith}
use Rattle.std.specs.Prelude.{min, count_by}
use Rattle.std.specs.Int.{from_bool}
use Rattle.cs_base.specs.Outside.{HasCause}
use Rattle.cs_io.specs.Told.{Changes, Stays}
use Rattle.cs_io.specs.Link.{Offers}
use Rattle.cs_io.specs.Until.{IsOver, AreNeeded}
use Rattle.cs_io.specs.declared.until.Until.{Until}
use Rattle.cs_serve.specs.declared.receiving.TheConstants.{MOST_MISSED}
use Rattle.cs_wire.specs.declared.input.Out.{Out}
use Rattle.cs_serve.specs.Offering.{offers_in, AddsOffers, AddsFront}
use Rattle.cs_client.specs.declared.errand.Errand.{Errand}
use Rattle.cs_client.specs.declared.known.Known.TheVariants as known
use Rattle.cs_client.specs.Inputs.{ClientInput}
use Rattle.cs_client.specs.Knowing.{knows}
use Rattle.cs_client.specs.Sayings.{says_at, outs_of_sayings}
use Rattle.cs_client.specs.Seen.{Client}
use Rattle.cs_client.specs.Standing.{ClientStandsFor}
use Rattle.cs_serve.specs.declared.client_ending.Ending.{Ending}
use Rattle.cs_serve.specs.declared.client_ending.Ending.TheVariants.{Knows, Refused, LinkFault, Memory}
use Rattle.cs_io.specs.Outside.{LinkTold}
use Rattle.cs_serve.specs.Attending.{is_tick, ClientTakes, offers_by, offers_at, WasOpen, missed_past, Attends, Says, GoesBy, ClientAnswers, ClientTakesTurn}
use Rattle.cs_io.specs.laws.Told.{stays-same, stays-both}
use Rattle.cs_serve.specs.laws.Taken.{ticks-more, over-by, still-by}
use Rattle.cs_serve.specs.laws.Offering.{adds-none, adds-more, adds-still, adds-later, front-later, front-more}
use Rattle.cs_serve.proofs.Told.{offers-more, takes-none, takes-still, takes-more, takes-one}

-- ---- one turn

goes-later : (e : Errand) (past : List ClientInput) (input : ClientInput) (a b c : Option Offers) (result : Result Client Ending) → Stays a b → GoesBy e past input b c result → GoesBy e past input a c result
goes-later e past input a b c (Ok client) stays goes = (goes.0, goes.1, adds-later a b c (offers_at e input past) stays goes.2)
goes-later e past input a b c (Err (Knows so)) stays goes = (goes.0, goes.1, adds-later a b c (offers_at e input past) stays goes.2)
goes-later e past input a b c (Err (Refused cause)) stays goes = (goes.0, stays-both a b c stays goes.1)
goes-later e past input a b c (Err LinkFault) stays goes = absurd goes
goes-later e past input a b c (Err Memory) stays goes = front-later a b c (offers_at e input past) stays goes

-- what is said at an input
pub goes-said : (e : Errand) (past : List ClientInput) (input : ClientInput) (outs : List Out) (old new : Option Offers) (result : Result Client Ending) → outs ≡ outs_of_sayings e.keys (says_at e input past) → Says e (input ∷ past) (offers_in outs) old new result → GoesBy e past input old new result
goes-said e past input outs old new result is says = by result (subst (λ (o : List Out). Says e (input ∷ past) (offers_in o) old new result) is says)
  where
    by : (result : Result Client Ending) → Says e (input ∷ past) (offers_at e input past) old new result → GoesBy e past input old new result
    by (Ok client) says = says
    by (Err (Knows so)) says = says
    by (Err (Refused cause)) says = absurd says
    by (Err LinkFault) says = says
    by (Err Memory) says = says

-- nothing of it was offered, for want of memory
pub none-offered : (e : Errand) (past : List ClientInput) (input : ClientInput) (a : Option Offers) → AddsFront (offers_at e input past) a a
none-offered e past input a = ([], offers_at e input past, refl, adds-none a)

-- the first input that was left was taken and answered
pub answered : (e : Errand) (past : List ClientInput) (input : ClientInput) (a b c : LinkTold) (result : Result Client Ending) → Changes (λ (before now : List ClientInput). before ≡ input ∷ now) a.left b.left → b.missed ≡ 0 → Stays a.offered b.offered
    → Stays b.left c.left → c.missed ≡ b.missed → GoesBy e past input b.offered c.offered result → ClientAnswers e past a c result
answered e past input a b c result gone missed offered left same goes = record {
  input = input;
  takes = takes-one a b c input gone left;
  missed = same ∙ missed;
  goes = goes-later e past input a.offered b.offered c.offered result offered goes;
}

-- and the run goes on
pub went-on : (e : Errand) (past : List ClientInput) (input : ClientInput) (a b c : LinkTold) (client : Client) (ticked : Bool) → ticked ≡ is_tick input → Changes (λ (before now : List ClientInput). before ≡ input ∷ now) a.left b.left → b.missed ≡ 0
    → Stays a.offered b.offered → Stays b.left c.left → c.missed ≡ b.missed → GoesBy e past input b.offered c.offered (Ok client) → ClientTakesTurn e past a c (Ok (client, ticked))
went-on e past input a b c client ticked is gone missed offered left same goes = (
  record {
    input = input;
    takes = takes-one a b c input gone left;
    missed = same ∙ missed;
    goes = goes-later e past input a.offered b.offered c.offered (Ok client) offered goes;
  },
  is,
)

-- and that ended the run
pub ended-so : (e : Errand) (past : List ClientInput) (a c : LinkTold) (ending : Ending) → ClientAnswers e past a c (Err ending) → ClientTakesTurn e past a c (Err ending)
ended-so e past a c (Knows known.Open) one = absurd (one.goes.1 refl)
ended-so e past a c (Knows (known.Accepted digest)) one = one
ended-so e past a c (Knows (known.Aborted digest)) one = one
ended-so e past a c (Refused cause) one = one
ended-so e past a c LinkFault one = absurd one.goes
ended-so e past a c Memory one = one

-- ---- so many turns

-- so many inputs were taken, so many of them ticks, none of them too many, and nothing is known yet
pub record SoFar (e : Errand) (until : Until) (turns ticks : ℕ) (old new : LinkTold) (client : Client) : Type 0 where
  pub inputs : List ClientInput
  pub all : length inputs ≡ turns
  pub ticked : count_by is_tick inputs ≡ ticks
  pub needed : AreNeeded is_tick until inputs
  pub takes : ClientTakes inputs old new
  pub unknown : WasOpen e inputs
  pub still : knows e inputs ≡ known.Open
  pub missed : new.missed ≡ missed_past old.missed inputs
  pub offered : AddsOffers (offers_by e inputs) old.offered new.offered
  pub stands : ClientStandsFor e inputs client

pub begins : (e : Errand) (until : Until) (a : LinkTold) (client : Client) → ClientStandsFor e [] client → knows e [] ≡ known.Open → SoFar e until 0 0 a a client
begins e until a client stands open_yet = record {
  inputs = [];
  all = refl;
  ticked = refl;
  needed = tt;
  takes = takes-none a a (stays-same a.left);
  unknown = tt;
  still = open_yet;
  missed = refl;
  offered = adds-none a.offered;
  stands = stands;
}

-- what is offered at one input more
offered-more : (e : Errand) (past : List ClientInput) (input : ClientInput) (a b c : Option Offers) → AddsOffers (offers_by e past) a b → AddsOffers (offers_at e input past) b c → AddsOffers (offers_by e (input ∷ past)) a c
offered-more e past input a b c first later =
    subst (λ xs. AddsOffers xs a c) (sym (offers-more e input past)) (adds-more a b c (offers_by e past) (offers_at e input past) first later)

one-more : (input : ClientInput) (past : List ClientInput) (n : ℕ) → length past ≡ n → length (input ∷ past) ≡ n + 1
one-more input past n is = omega arith

pub goes-on : (e : Errand) (until : Until) (turns ticks : ℕ) (a b c : LinkTold) (client next : Client) (ticked : Bool) (more : ℕ) → more ≡ from_bool ticked → (IsOver until turns ticks → ⊥) → SoFar e until turns ticks a b client
    → ((past : List ClientInput) → ClientStandsFor e past client → ClientTakesTurn e past b c (Ok (next, ticked))) → SoFar e until (turns + 1) (ticks + more) a c next
goes-on e until turns ticks a b c client next ticked more counted still so turn =
    let both = turn so.inputs so.stands in
    let one = both.0 in
    record {
      inputs = one.input ∷ so.inputs;
      all = one-more one.input so.inputs turns so.all;
      ticked = ticks-more is_tick one.input so.inputs ticks more ticked so.ticked both.1 counted;
      needed = still-by is_tick until so.inputs turns ticks so.all so.ticked still;
      takes = takes-more a b c so.inputs (one.input ∷ []) so.takes one.takes;
      unknown = (so.still, so.unknown);
      still = one.goes.1;
      missed = one.missed;
      offered = offered-more e so.inputs one.input a.offered b.offered c.offered so.offered one.goes.2;
      stands = one.goes.0;
    }

-- ---- how it ends

-- want of memory before the first turn
pub nothing : (e : Errand) (until : Until) (a : LinkTold) → Attends e until a a Memory
nothing e until a = record {
  inputs = [];
  needed = tt;
  takes = takes-none a a (stays-same a.left);
  unknown = tt;
  ends = ([], [], refl, adds-none a.offered);
}

-- they were enough
pub over : (e : Errand) (until : Until) (turns ticks : ℕ) (a b : LinkTold) (client : Client) → IsOver until turns ticks → SoFar e until turns ticks a b client → Attends e until a b (Knows known.Open)
over e until turns ticks a b client enough so = record {
  inputs = so.inputs;
  needed = so.needed;
  takes = so.takes;
  unknown = so.unknown;
  ends = (so.still, λ open-yet. inl (over-by is_tick until so.inputs turns ticks so.all so.ticked enough), so.offered);
}

module _ (e : Errand) (until : Until) (turns ticks : ℕ) (a b c : LinkTold) (client : Client) (still : IsOver until turns ticks → ⊥) (so : SoFar e until turns ticks a b client) where
  one-needed : (input : ClientInput) → AreNeeded is_tick until (input ∷ so.inputs)
  one-needed input = still-by is_tick until so.inputs turns ticks so.all so.ticked still

  at-last : (ending : Ending) → (one : ClientAnswers e so.inputs b c (Err ending)) → Attends e until a c ending
  at-last (Knows k) one = record {
    inputs = one.input ∷ so.inputs;
    needed = one-needed one.input;
    takes = takes-more a b c so.inputs (one.input ∷ []) so.takes one.takes;
    unknown = (so.still, so.unknown);
    ends = (
      one.goes.0,
      λ open-yet. absurd (one.goes.1 open-yet),
      offered-more e so.inputs one.input a.offered b.offered c.offered so.offered one.goes.2,
    );
  }
  at-last (Refused cause) one = record {
    inputs = one.input ∷ so.inputs;
    needed = one-needed one.input;
    takes = takes-more a b c so.inputs (one.input ∷ []) so.takes one.takes;
    unknown = (so.still, so.unknown);
    ends = (one.goes.0, adds-still a.offered b.offered c.offered (offers_by e so.inputs) so.offered one.goes.1);
  }
  at-last LinkFault one = absurd one.goes
  at-last Memory one = record {
    inputs = one.input ∷ so.inputs;
    needed = one-needed one.input;
    takes = takes-more a b c so.inputs (one.input ∷ []) so.takes one.takes;
    unknown = (so.still, so.unknown);
    ends =
        subst (λ xs. AddsFront xs a.offered c.offered) (sym (offers-more e one.input so.inputs))
        (front-more a.offered b.offered c.offered (offers_by e so.inputs) (offers_at e one.input so.inputs) so.offered one.goes);
  }

  pub ends-so : (ending : Ending) → ((past : List ClientInput) → ClientStandsFor e past client → ClientTakesTurn e past b c (Err ending)) → Attends e until a c ending
  ends-so (Knows known.Open) turn =
      let one = turn so.inputs so.stands in
      record {
        inputs = so.inputs;
        needed = so.needed;
        takes = takes-still a b c so.inputs so.takes one.left;
        unknown = so.unknown;
        ends = (so.still, λ open-yet. inr one.none, adds-still a.offered b.offered c.offered (offers_by e so.inputs) so.offered one.offered);
      }
  ends-so (Knows (known.Accepted digest)) turn = at-last (Knows (known.Accepted digest)) (turn so.inputs so.stands)
  ends-so (Knows (known.Aborted digest)) turn = at-last (Knows (known.Aborted digest)) (turn so.inputs so.stands)
  ends-so (Refused cause) turn = at-last (Refused cause) (turn so.inputs so.stands)
  ends-so LinkFault turn =
      let one = turn so.inputs so.stands in
      record {
        inputs = so.inputs;
        needed = so.needed;
        takes = takes-still a b c so.inputs so.takes one.left;
        unknown = so.unknown;
        ends = (
          one.missed ∙ ap (λ m. min (m + MOST_MISSED) (2 ^ 64 - 1)) so.missed,
          so.still,
          adds-still a.offered b.offered c.offered (offers_by e so.inputs) so.offered one.offered,
        );
      }
  ends-so Memory turn = at-last Memory (turn so.inputs so.stands)

-- ---- counts

pub le_same : (n : ℕ) → n ≤ n
le_same n = omega arith

pub le_more : (a b c : ℕ) → a ≤ b → b ≤ c → a ≤ c
le_more a b c first second = omega arith

-- faults that came later than some
pub cause-later : {P Q : Type 0} (a b c : ℕ) → a ≤ b → HasCause b c P → (Q → P) → HasCause a c Q
cause-later a b c first cause because = record {
  later = (let second = cause.later in omega arith);
  cause = λ failed. let rose = cause.cause (because failed) in omega arith;
}
