-- Generated schedules can be played.
use Rattle.std.proofs.Common.{◌≡◌, ℕ, zero, suc, ◌+◌, ◌<◌, ◌≤◌, ◌^◌, true, List, [], ◌∷◌, ◌++◌, Option, Some, None, length, map, slice_index, refl, ap, sym, ◌∙◌, subst, arith}
use Rattle.std.specs.List.{All, AllByRecursion, enumerate_from}
use Rattle.std.proofs.lemmas.Bool.Decides.{nat_tests}
use Rattle.std.proofs.lemmas.List.{length-map}
use Rattle.std.proofs.lemmas.List.Elements.{All-from_recursion, recursion_from_All}
use Rattle.cs_base.specs.NodeId.{is_node, members_below}
use Rattle.cs_base.specs.declared.node_id.NodeId.{NodeId}
use Rattle.cs_tx_value.specs.Object.{ObjectFits}
use Rattle.cs_tx_types.specs.declared.session.Session.{Session}
use Rattle.cs_tx_types.specs.Session.{SessionFits}
use Rattle.cs_wire_message.specs.declared.message.Message.TheVariants.{Submit}
use Rattle.cs_base.specs.declared.version.Version.TheVariants.{One}
use Rattle.cs_wire_message.proofs.Spelled.{bytes-body}
use Rattle.cs_wire_message.proofs.Short.{body_short}
use Rattle.cs_sched.specs.declared.schedule.Event.{Event}
use Rattle.cs_sched.specs.declared.schedule.Event.TheVariants.{Drain}
use Rattle.cs_sched.specs.Again.{numbered_events}
use Rattle.cs_sched.specs.Playable.{IsPlayableEvent}
use Rattle.cs_gen.specs.Draws.{state_after}
use Rattle.cs_gen.specs.Coins.{coin, worths_below}
use Rattle.cs_gen.specs.Rounds.{layout, round_tx, round_session, concerned_by, second_number, submitted, submitted_to, submitted_again, round_with, events_of, events_below}
use Rattle.cs_gen.specs.Schedules.{drawn_schedule}
use Rattle.cs_gen.specs.Sound.{IsPlayableUnlessTwice, HasOwnLines}
use Rattle.cs_gen.specs.declared.limits.TheConstants.{MOST_SIZE}
use Rattle.cs_gen.proofs.Worths.{worths-fit, length-worths}
use Rattle.cs_gen.proofs.Fitting.{coin_fits}
use Rattle.cs_gen.proofs.Shards.{AreBelow, concerned_by-below}
use Rattle.cs_gen.proofs.Rounded.{round_fits, number_fits, events-none, events-more}

abbrev CanPlay : Event → Type 0
CanPlay event = IsPlayableEvent layout [] event

abbrev AllPlay : List Event → Type 0
AllPlay events = AllByRecursion CanPlay events

play-append : (xs ys : List Event) → AllPlay xs → AllPlay ys → AllPlay (xs ++ ys)
play-append [] ys first second = second
play-append (x ∷ xs) ys first second = (first.0, play-append xs ys first.1 second)

-- ---- what is submitted

abbrev AreNodes : List NodeId → Type 0
AreNodes nodes = AllByRecursion (λ node. is_node layout node ≡ true) nodes

nodes-append : (xs ys : List NodeId) → AreNodes xs → AreNodes ys → AreNodes (xs ++ ys)
nodes-append [] ys first second = second
nodes-append (x ∷ xs) ys first second = (first.0, nodes-append xs ys first.1 second)

node-in : (shard index : ℕ) → shard < 3 → index < 4 → is_node layout (record { shard = shard; index = index }) ≡ true
node-in shard index a b = grind (arith, nat_tests)

members-are : (shard n : ℕ) → shard < 3 → n ≤ 4 → AreNodes (members_below shard n)
members-are shard zero low few = tt
members-are shard (suc n) low few =
    nodes-append (members_below shard n) (record { shard = shard; index = n } ∷ []) (members-are shard n low (omega arith)) (node-in shard n low (omega arith), tt)

module _ (x : Session) (fits : SessionFits x) where
  plays-one : (node : NodeId) → is_node layout node ≡ true → CanPlay (submitted x node)
  plays-one node is = record {
    speaker = record { named = refl; speaks = refl };
    listener = record { node = is; honest = refl };
    kind = omega arith;
    short = body_short One (Submit x) fits;
    in_bytes = bytes-body One (Submit x) fits;
  }

  plays-each : (nodes : List NodeId) → AreNodes nodes → AllPlay (map (submitted x) nodes)
  plays-each [] are = tt
  plays-each (node ∷ nodes) are = (plays-one node are.0, plays-each nodes are.1)

  plays-in : (shards : List ℕ) → AreBelow 3 shards → AllPlay (submitted_to x shards)
  plays-in [] below = tt
  plays-in (shard ∷ shards) below =
      play-append (map (submitted x) (members_below shard 4)) (submitted_to x shards) (plays-each (members_below shard 4) (members-are shard 4 below.0 (omega arith))) (plays-in shards below.1)

plays-again : (x : Session) (shards : List ℕ) (second : Option ℕ) → AreBelow 3 shards → ((number : ℕ) → second ≡ Some number → SessionFits (record x { number = number })) → AllPlay (submitted_again x shards second)
plays-again x shards None below fits = tt
plays-again x shards (Some number) below fits = plays-in (record x { number = number }) (fits number refl) shards below

plays-round : (x : Session) (shards : List ℕ) (second : Option ℕ) → SessionFits x → AreBelow 3 shards → ((number : ℕ) → second ≡ Some number → SessionFits (record x { number = number }))
    → AllPlay (round_with x shards second)
plays-round x shards second fits below again =
    let ends : CanPlay (Drain 100000) = omega arith in
    play-append (submitted_to x shards) (submitted_again x shards second ++ Drain 100000 ∷ []) (plays-in x fits shards below)
    (play-append (submitted_again x shards second) (Drain 100000 ∷ []) (plays-again x shards second below again) (ends, tt))

-- ---- rounds

module _ (state : ℕ) (worths : List ℕ) (small : All (λ worth. worth < 2 ^ 63) worths) (few : length worths ≤ MOST_SIZE) where
  plays-own : (round : ℕ) → round < length worths → AllPlay (events_of state worths round)
  plays-own round within =
      let low : slice_index worths round < 2 ^ 63 = small round 0 within in
      plays-round (round_session state worths round) (concerned_by (round_tx state worths round)) (second_number state worths round)
      (round_fits state worths round low (omega (arith, within, few))) (concerned_by-below (round_tx state worths round))
      (λ number is. number_fits state worths round number low (omega (arith, within, few)) is (omega (arith, within, few)))

  plays-below : (n : ℕ) → n ≤ length worths → AllPlay (events_below state worths n)
  plays-below zero within = subst AllPlay (sym (events-none state worths)) tt
  plays-below (suc n) within =
      subst AllPlay (sym (events-more state worths n (suc n) (omega arith)))
      (play-append (events_below state worths n) (events_of state worths n) (plays-below n (omega arith)) (plays-own n (omega arith)))

plays-numbered : (n : ℕ) (events : List Event) → AllPlay events → AllByRecursion (λ numbered_events. CanPlay numbered_events.1) (enumerate_from n events)
plays-numbered n [] all = tt
plays-numbered n (event ∷ events) all = (all.0, plays-numbered (n + 1) events all.1)

coins-fit : (worths : List ℕ) → AllByRecursion (λ worth. worth < 2 ^ 63) worths → AllByRecursion ObjectFits (map coin worths)
coins-fit [] small = tt
coins-fit (worth ∷ worths) small = (coin_fits worth small.0, coins-fit worths small.1)

pub playable : (number size : ℕ) → size ≤ MOST_SIZE → IsPlayableUnlessTwice number size
unfolding drawn_schedule
playable number size few differ =
    let first = state_after number 4 in
    let worths = worths_below first size in
    let count : length worths ≡ size = length-worths first size in
    let within : length worths ≤ MOST_SIZE = omega (arith, count, few) in
    let events = events_below (state_after first size) worths (length worths) in record {
      some_shard = omega arith;
      few_shards = omega arith;
      few_faulty = omega arith;
      version = omega arith;
      liars = λ k d none. absurd (omega arith);
      few_liars = λ shard. omega arith;
      liars_differ = λ i j d less none. absurd (omega arith);
      contracts = λ k d none. absurd (omega arith);
      few_contracts = omega arith;
      objects = All-from_recursion ObjectFits (map coin worths) (coins-fit worths (recursion_from_All (λ worth. worth < 2 ^ 63) worths (worths-fit first size)));
      few_objects = omega (arith, length-map worths coin, within);
      keys_differ = differ;
      events =
          All-from_recursion (λ numbered_events. CanPlay numbered_events.1) (enumerate_from (6 + length worths) events)
          (plays-numbered (6 + length worths) events (plays-below (state_after first size) worths (worths-fit first size) within (length worths) (omega arith)));
    }

-- ---- lines

numbered-again : (n : ℕ) (events : List Event) → numbered_events n (enumerate_from n events) ≡ enumerate_from n events
numbered-again n [] = refl
numbered-again n (event ∷ events) = ap (λ (rest : List (ℕ × Event)). (n, event) ∷ rest) (numbered-again (n + 1) events)

pub own_lines : (number size : ℕ) → HasOwnLines number size
unfolding drawn_schedule
own_lines number size =
    let first = state_after number 4 in
    let worths = worths_below first size in
    let plain = events_below (state_after first size) worths (length worths) in
    let before : 6 + (0 + (0 + length (map coin worths))) ≡ 6 + length worths = omega (arith, length-map worths coin) in
    let same : numbered_events (6 + (0 + (0 + length (map coin worths)))) (enumerate_from (6 + length worths) plain) ≡ enumerate_from (6 + length worths) plain =
    ap (λ (n : ℕ). numbered_events n (enumerate_from (6 + length worths) plain)) before ∙ numbered-again (6 + length worths) plain in
    λ i. record (drawn_schedule number size) { events = same i }
