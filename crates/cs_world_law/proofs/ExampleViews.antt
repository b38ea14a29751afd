-- The same four members, who change their view twice: a member that echoed in two views tells both digests, and what one
-- of them had confirmed by then is proposed again.
use Rattle.std.proofs.Common.{◌≡◌, ℕ, zero, suc, true, false, List, [], ◌∷◌, Option, Some, None, inr, refl, sym, lit<, lit≤}
use Rattle.std.specs.Prelude.{◌++◌}
use Rattle.cs_base.specs.Fields.{pair_at, many_at, some_at, tested_at, upto_at, within_at}
use Rattle.cs_base.proofs.Forms.{some_is}
use Rattle.cs_tx_value.specs.Kinds.{kinds_at}
use Rattle.cs_tx_types.specs.declared.action.Action.{Action}
use Rattle.cs_tx_types.specs.declared.action.Action.TheVariants.{Prepare}
use Rattle.cs_tx_types.specs.Reading.{front_at, back_at, trace_at, tx_at, session_at}
use Rattle.cs_ledger.specs.Ledger.{Bytes}
use Rattle.cs_wire_message.specs.declared.message.Message.TheVariants as message
use Rattle.cs_wire_message.specs.Reading.{flag_at, propose_at, step_at, voted_at, claim_at, claimed_at, rising_at}
use Rattle.cs_order.specs.Counts.{count_below, any_below, first_below, last_below, last_found}
use Rattle.cs_order.specs.Deeds.{Deed, Advanced, Echoed, Proposing, Ticked, Resent, sent_by}
use Rattle.cs_order.specs.declared.answers.Outgoing.{Outgoing}
use Rattle.cs_order.specs.declared.answers.Step.TheVariants.{Moved}
use Rattle.cs_order_rules.specs.declared.message.OrderMessage.{OrderMessage}
use Rattle.cs_order_rules.specs.declared.message.OrderMessage.TheVariants as order
use Rattle.cs_order_rules.specs.Facts.{open_slot}
use Rattle.cs_order_rules.specs.Rules.{free, to_all}
use Rattle.cs_node_rules.specs.Members.{others}
use Rattle.cs_node_rules.specs.Signs.{Entered, Viewed, sends}
use Rattle.cs_node_rules.specs.Site.{Tick, Ordered, Plain, plain}
use Rattle.cs_node_rules.specs.Trail.{handed, admits_proposed, event_marks, settled}
use Rattle.cs_node_rules.specs.World.{Happening, IsLife}
use Rattle.cs_world_law.specs.Worlds.{IsWorld}
use Rattle.cs_world_law.specs.Shown.{executed_by}
use Rattle.cs_world_law.specs.Orders.{slots_done}
use Rattle.cs_world_law.specs.Agreement.{MayBeEchoed, sight_at}
use Rattle.cs_world_law.proofs.Example.{Marks, Happenings, session, proposed, written, member, client, site, said, does, event, takes, vote, echoed_2, voted_1, view_at, IsRuled, rules_submitted, rules_echoed_1, rules_echoed_2, few, are_honest, honest-so, are_of_bytes, bytes-so, are_genuine, genuine-so}

-- ---- what is told

-- the entry of view 0 is the vote on session 16; this one is of view 1
abbrev second : Action
second = Prepare (session 17)

abbrev first_digest : Bytes
first_digest = (proposed vote).digest

abbrev second_digest : Bytes
second_digest = (proposed second).digest

abbrev propose_in : ℕ → OrderMessage
propose_in view = order.Propose 0 view (proposed second)

abbrev echo_in : ℕ → OrderMessage
echo_in view = order.Echo 0 view second_digest

abbrev change : ℕ → Option (ℕ × Bytes) → List (Bytes × ℕ) → OrderMessage
change view prepared echoed = order.Change 0 view (record { prepared = prepared; echoed = echoed })

abbrev change_1 : OrderMessage
change_1 = change 1 None ((first_digest, 0) ∷ [])

-- two digests were echoed, of which the second was confirmed by one member
abbrev both : List (Bytes × ℕ)
both = (first_digest, 0) ∷ (second_digest, 1) ∷ []

abbrev change_2 : OrderMessage
change_2 = change 2 None both

abbrev change_with_pair : OrderMessage
change_with_pair = change 2 (Some (1, second_digest)) both

-- the liar tells nothing
abbrev empty_change : ℕ → OrderMessage
empty_change view = change view None []

-- ---- what happens

-- a member hears this from another, and does that
abbrev hears : ℕ → ℕ → OrderMessage → Marks → Happening OrderMessage
hears index from m marks = event index (said (member from) index (written m)) (marks ++ takes from m)

-- what a member says again at a tick
abbrev again : ℕ → List (Outgoing OrderMessage) → Marks
again index own = plain (sends (others 1 (member index) (0 ∷ [])) (message.Want 0)) ++ does index (Resent own)

-- a tick after which it goes on waiting; so many of them
abbrev waits : ℕ → List (Outgoing OrderMessage) → Happening OrderMessage
waits index own = event index Tick (does index (Ticked false []) ++ again index own)

abbrev waiting : ℕ → Happening OrderMessage → Happenings → Happenings
waiting zero h past = past
waiting (suc n) h past = h ∷ waiting n h past

-- a deed by which a member enters a view
abbrev enters : ℕ → ℕ → Deed OrderMessage → Marks
enters index view deed = plain (handed site (member index) (sent_by deed) ++ Viewed 0 view ∷ []) ++ Ordered deed ∷ []

abbrev proposes : ℕ → ℕ → Marks
proposes index view =
    does index (Echoed (to_all (echo_in view))) ++ does index (Proposing (proposed second) (to_all (propose_in view)))

-- three members have echoed the vote; another session is submitted to member 1
abbrev submitted_1 : Happenings
submitted_1 = event 1 (said client 1 (message.Submit (session 17))) (Plain (Entered (session 17)) ∷ []) ∷ echoed_2

-- no echo comes to member 2, so at the eighth tick it enters view 1
abbrev own_0 : List (Outgoing OrderMessage)
own_0 = to_all (order.Echo 0 0 first_digest)

abbrev waited_0 : Happenings
waited_0 = waiting 7 (waits 2 own_0) submitted_1

abbrev entered_1 : Happenings
entered_1 = event 2 Tick (enters 2 1 (Ticked false (to_all change_1)) ++ again 2 own_0) ∷ waited_0

-- with that of the liar member 1 has two changes, so it enters view 1 and leads it; with its own it has three without a
-- pair, so it proposes what is due
abbrev one_change : Happenings
one_change = hears 1 3 (empty_change 1) [] ∷ entered_1

abbrev led_1 : Happenings
led_1 = hears 1 2 change_1 (proposes 1 1 ++ enters 1 1 (Advanced Moved (to_all change_1))) ∷ one_change

-- member 2 has these three too, and echoes in view 1
abbrev changed_2 : Happenings
changed_2 = hears 2 1 change_1 [] ∷ hears 2 3 (empty_change 1) [] ∷ led_1

abbrev echoed_twice : Happenings
echoed_twice = hears 2 1 (propose_in 1) (does 2 (Echoed (to_all (echo_in 1)))) ∷ changed_2

-- member 1 confirms, of which no other hears
abbrev one_echo_1 : Happenings
one_echo_1 = hears 1 3 (echo_in 1) [] ∷ echoed_twice

abbrev confirmed_alone : Happenings
confirmed_alone = hears 1 2 (echo_in 1) (does 1 (Advanced Moved (to_all (order.Confirm 0 1 second_digest)))) ∷ one_echo_1

-- at the sixteenth tick member 2 enters view 2 and leads it; it tells both digests
abbrev own_1 : List (Outgoing OrderMessage)
own_1 = to_all (echo_in 1) ++ to_all change_1

abbrev waited_1 : Happenings
waited_1 = waiting 15 (waits 2 own_1) confirmed_alone

abbrev entered_2 : Happenings
entered_2 = event 2 Tick (enters 2 2 (Ticked false (to_all change_2)) ++ again 2 own_1) ∷ waited_1

-- member 1 follows, and tells what it confirmed besides
abbrev one_change_2 : Happenings
one_change_2 = hears 1 3 (empty_change 2) [] ∷ entered_2

abbrev followed : Happenings
followed = hears 1 2 change_2 (enters 1 2 (Advanced Moved (to_all change_with_pair))) ∷ one_change_2

-- two of three changes are without a pair, and two members echoed the digest of the pair: it is the one candidate
abbrev two_changes : Happenings
two_changes = hears 2 3 (empty_change 2) [] ∷ followed

abbrev led_2 : Happenings
led_2 = hears 2 1 change_with_pair (proposes 2 2) ∷ two_changes

abbrev echoed_again : Happenings
echoed_again = hears 1 2 (propose_in 2) (does 1 (Echoed (to_all (echo_in 2)))) ∷ led_2

-- ---- each member keeps the rules

rules_submitted_1 : IsRuled submitted_1
unfolding event_marks settled count_below any_below first_below last_below last_found upto_at many_at some_at pair_at tested_at within_at kinds_at front_at back_at trace_at tx_at session_at propose_at step_at voted_at flag_at
rules_submitted_1 = refl

life_waited_0 : IsLife site waited_0
unfolding event_marks settled count_below any_below first_below last_below last_found
life_waited_0 = (refl, (refl, (refl, (refl, (refl, (refl, (refl, (rules_submitted_1, (rules_echoed_2, (rules_echoed_1, (rules_submitted, tt)))))))))))

rules_entered_1 : IsRuled entered_1
unfolding event_marks settled count_below any_below first_below last_below last_found
rules_entered_1 = refl

rules_one_change : IsRuled one_change
unfolding event_marks settled count_below any_below first_below last_below last_found upto_at pair_at tested_at kinds_at claim_at claimed_at rising_at
rules_one_change = refl

rules_led_1 : IsRuled led_1
unfolding event_marks settled count_below any_below first_below last_below last_found upto_at pair_at tested_at kinds_at claim_at claimed_at rising_at
rules_led_1 = refl

life_changed_2 : IsLife site changed_2
unfolding event_marks settled count_below any_below first_below last_below last_found upto_at pair_at tested_at kinds_at claim_at claimed_at rising_at
life_changed_2 = (refl, (refl, (rules_led_1, (rules_one_change, (rules_entered_1, life_waited_0)))))

rules_echoed_twice : IsRuled echoed_twice
unfolding event_marks settled count_below any_below first_below last_below last_found upto_at many_at some_at pair_at tested_at within_at kinds_at front_at back_at trace_at tx_at session_at propose_at step_at voted_at flag_at
rules_echoed_twice = refl

rules_one_echo_1 : IsRuled one_echo_1
unfolding event_marks settled count_below any_below first_below last_below last_found upto_at pair_at tested_at step_at
rules_one_echo_1 = refl

rules_confirmed_alone : IsRuled confirmed_alone
unfolding event_marks settled count_below any_below first_below last_below last_found upto_at pair_at tested_at step_at
rules_confirmed_alone = refl

life_waited_1 : IsLife site waited_1
unfolding event_marks settled count_below any_below first_below last_below last_found
life_waited_1 = (
  refl,
  (
    refl,
    (
      refl,
      (
        refl,
        (
          refl,
          (
            refl,
            (
              refl,
              (
                refl,
                (
                  refl,
                  (
                    refl,
                    (
                      refl,
                      (
                        refl,
                        (
                          refl,
                          (
                            refl,
                            (
                              refl,
                              (rules_confirmed_alone, (rules_one_echo_1, (rules_echoed_twice, life_changed_2))),
                            ),
                          ),
                        ),
                      ),
                    ),
                  ),
                ),
              ),
            ),
          ),
        ),
      ),
    ),
  ),
)

rules_entered_2 : IsRuled entered_2
unfolding event_marks settled count_below any_below first_below last_below last_found
rules_entered_2 = refl

rules_one_change_2 : IsRuled one_change_2
unfolding event_marks settled count_below any_below first_below last_below last_found upto_at pair_at tested_at kinds_at claim_at claimed_at rising_at
rules_one_change_2 = refl

rules_followed : IsRuled followed
unfolding event_marks settled count_below any_below first_below last_below last_found upto_at pair_at tested_at kinds_at claim_at claimed_at rising_at
rules_followed = refl

rules_two_changes : IsRuled two_changes
unfolding event_marks settled count_below any_below first_below last_below last_found upto_at pair_at tested_at kinds_at claim_at claimed_at rising_at
rules_two_changes = refl

rules_led_2 : IsRuled led_2
unfolding event_marks settled count_below any_below first_below last_below last_found upto_at pair_at tested_at kinds_at claim_at claimed_at rising_at
rules_led_2 = refl

rules_echoed_again : IsRuled echoed_again
unfolding event_marks settled count_below any_below first_below last_below last_found upto_at many_at some_at pair_at tested_at within_at kinds_at front_at back_at trace_at tx_at session_at propose_at step_at voted_at flag_at
rules_echoed_again = refl

life : IsLife site echoed_again
life = (
  rules_echoed_again,
  (
    rules_led_2,
    (
      rules_two_changes,
      (
        rules_followed,
        (
          rules_one_change_2,
          (rules_entered_2, life_waited_1),
        ),
      ),
    ),
  ),
)

-- ---- what the changes allow

-- the view isn't free, since one of three changes has a pair
not_free : free (sight_at site echoed_again (member 1)) ≡ false
unfolding count_below any_below first_below last_below last_found
not_free = refl

-- so the digest is safe by the other case: at view 1 each of the three has no pair, or this one, and two echoed it
may_echo_again : MayBeEchoed (admits_proposed site (view_at 1 echoed_again)) (sight_at site echoed_again (member 1)) (proposed second)
unfolding count_below any_below first_below last_below last_found
may_echo_again = record {
  proposed = refl;
  admitted = refl;
  safe = inr (inr (1, lit< tt, lit≤ tt, lit≤ tt));
  alone = λ digest is. sym (some_is second_digest digest is);
  few = lit< tt;
}

-- ---- in the world before, the open slot is the next to execute

has_executed : slots_done (executed_by (member 1) voted_1) ≡ (0, vote ∷ []) ∷ []
has_executed = refl

is_next : open_slot (sight_at site voted_1 (member 1)) ≡ 1
is_next = refl

-- ---- so it is a world

all_honest : are_honest site.net echoed_again ≡ true
all_honest = refl

all_bytes : are_of_bytes echoed_again ≡ true
all_bytes = refl

all_genuine : are_genuine site.net echoed_again ≡ true
unfolding event_marks settled count_below any_below first_below last_below last_found upto_at many_at some_at pair_at tested_at within_at kinds_at front_at back_at trace_at tx_at session_at propose_at step_at voted_at flag_at claim_at claimed_at rising_at
all_genuine = refl

world : IsWorld site echoed_again
world = record {
  serves = refl;
  few = few;
  honest = honest-so site.net echoed_again all_honest;
  life = life;
  bytes = bytes-so echoed_again all_bytes;
  genuine = genuine-so site.net echoed_again all_genuine;
}
