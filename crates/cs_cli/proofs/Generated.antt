-- What generated schedules meet: nothing is injected in them, and their objects have encodings.
use Rattle.std.proofs.Common.{ℕ, zero, suc, ◌+◌, ◌<◌, ◌≤◌, ◌^◌, List, [], ◌∷◌, ◌++◌, Option, Some, None, length, map, sym, subst, arith}
use Rattle.std.specs.List.{All, AllByRecursion, enumerate_from}
use Rattle.std.proofs.lemmas.List.{length-map}
use Rattle.std.proofs.lemmas.List.Elements.{All-from_recursion, recursion_from_All}
use Rattle.cs_base.specs.declared.limits.TheConstants.{MOST_GENESIS}
use Rattle.cs_base.specs.NodeId.{members_below}
use Rattle.cs_base.specs.declared.node_id.NodeId.{NodeId}
use Rattle.cs_tx_value.specs.Object.{ObjectFits}
use Rattle.cs_tx_types.specs.declared.session.Session.{Session}
use Rattle.cs_sched.specs.declared.schedule.Event.{Event}
use Rattle.cs_sched.specs.declared.schedule.Event.TheVariants.{Drain}
use Rattle.cs_gen.specs.Draws.{state_after}
use Rattle.cs_gen.specs.Coins.{coin, worths_below}
use Rattle.cs_gen.specs.Rounds.{round_tx, round_session, concerned_by, second_number, submitted, submitted_to, submitted_again, round_with, events_of, events_below}
use Rattle.cs_gen.specs.Schedules.{drawn_schedule}
use Rattle.cs_gen.specs.declared.limits.TheConstants.{MOST_SIZE}
use Rattle.cs_gen.proofs.Fitting.{coin_fits}
use Rattle.cs_gen.proofs.Rounded.{events-none, events-more}
use Rattle.cs_gen.proofs.Worths.{worths-fit, length-worths}
use Rattle.cs_cli.specs.Unforged.{IsNoInjection, InjectsNothing}

abbrev NoneOf : List Event → Type 0
NoneOf events = AllByRecursion IsNoInjection events

none-append : (xs ys : List Event) → NoneOf xs → NoneOf ys → NoneOf (xs ++ ys)
none-append [] ys first second = second
none-append (x ∷ xs) ys first second = (first.0, none-append xs ys first.1 second)

none-each : (x : Session) (nodes : List NodeId) → NoneOf (map (submitted x) nodes)
none-each x [] = tt
none-each x (node ∷ nodes) = (tt, none-each x nodes)

none-to : (x : Session) (shards : List ℕ) → NoneOf (submitted_to x shards)
none-to x [] = tt
none-to x (shard ∷ shards) = none-append (map (submitted x) (members_below shard 4)) (submitted_to x shards) (none-each x (members_below shard 4)) (none-to x shards)

none-again : (x : Session) (shards : List ℕ) (second : Option ℕ) → NoneOf (submitted_again x shards second)
none-again x shards None = tt
none-again x shards (Some number) = none-to (record x { number = number }) shards

none-round : (x : Session) (shards : List ℕ) (second : Option ℕ) → NoneOf (round_with x shards second)
none-round x shards second =
    none-append (submitted_to x shards) (submitted_again x shards second ++ Drain 100000 ∷ []) (none-to x shards)
    (none-append (submitted_again x shards second) (Drain 100000 ∷ []) (none-again x shards second) (tt, tt))

none-below : (state : ℕ) (worths : List ℕ) (n : ℕ) → NoneOf (events_below state worths n)
none-below state worths zero = subst NoneOf (sym (events-none state worths)) tt
none-below state worths (suc n) =
    subst NoneOf (sym (events-more state worths n (suc n) (omega arith)))
    (none-append (events_below state worths n) (events_of state worths n) (none-below state worths n)
    (none-round (round_session state worths n) (concerned_by (round_tx state worths n)) (second_number state worths n)))

none-numbered : (n : ℕ) (events : List Event) → NoneOf events → AllByRecursion (λ numbered. IsNoInjection numbered.1) (enumerate_from n events)
none-numbered n [] none = tt
none-numbered n (event ∷ events) none = (none.0, none-numbered (n + 1) events none.1)

pub injects-nothing : (number size : ℕ) → InjectsNothing (drawn_schedule number size)
unfolding drawn_schedule
injects-nothing number size =
    let first = state_after number 4 in
    let worths = worths_below first size in
    none-numbered (6 + length worths) (events_below (state_after first size) worths (length worths)) (none-below (state_after first size) worths (length worths))

-- ---- objects

coins-fit : (worths : List ℕ) → AllByRecursion (λ worth. worth < 2 ^ 63) worths → AllByRecursion ObjectFits (map coin worths)
coins-fit [] small = tt
coins-fit (worth ∷ worths) small = (coin_fits worth small.0, coins-fit worths small.1)

pub objects-fit : (number size : ℕ) → All ObjectFits (drawn_schedule number size).genesis
unfolding drawn_schedule
objects-fit number size =
    let worths = worths_below (state_after number 4) size in
    All-from_recursion ObjectFits (map coin worths)
    (coins-fit worths (recursion_from_All (λ worth. worth < 2 ^ 63) worths (worths-fit (state_after number 4) size)))

pub few-objects : (number size : ℕ) → size ≤ MOST_SIZE → length (drawn_schedule number size).genesis ≤ MOST_GENESIS
unfolding drawn_schedule
few-objects number size few =
    let worths = worths_below (state_after number 4) size in
    omega (arith, length-map worths coin, length-worths (state_after number 4) size, few)
