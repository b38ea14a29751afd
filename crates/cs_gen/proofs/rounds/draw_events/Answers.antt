use Rattle.std.proofs.Common.{◌≡◌, ◌+◌, ◌*◌, ◌<◌, ◌==◌, ◌++◌, ◌/◌, ◌%◌, ◌^◌, slice_index, ℕ, List, length, refl, ap, sym, subst, ◌∙◌, arith}
use Rattle.std.specs.Prelude.{count_by, Bool, Option, Some, None, if◌then◌else◌}
use Rattle.std.specs.List.{All}
use Rattle.cs_tx_types.specs.declared.session.Session.{Session}
use Rattle.cs_tx_types.specs.Session.{SessionFits}
use Rattle.cs_sched.specs.declared.schedule.Event.{Event}
use Rattle.cs_gen.specs.declared.sessions.Offer.{Offer}
use Rattle.cs_gen.specs.Draws.{next_state}
use Rattle.cs_gen.specs.Rounds.{round_tx, session, round_session, concerned_by, wanting_dummies, serial, round_with, events_below, second_number}
use Rattle.cs_gen.proofs.States.{state-none, state-two, drawn-second}
use Rattle.cs_gen.proofs.Shards.{wanting-all, wanting-few}
use Rattle.cs_gen.proofs.Counted.{serial-none, serial-more, serial-few}
use Rattle.cs_gen.proofs.Rounded.{zeros, chosen, events-none, events-more, offered, dummied, sessioned, round_fits}
use Rattle.cs_gen.proofs.rounds.draw_events.Goals as goal

pub loop-round-init : goal.loop-round-init
loop-round-init c = record {
  state = sym (state-none _);
  serials = λ shard below. ap (λ (serials : List ℕ). slice_index serials shard) c.new-serials.ensures ∙ zeros shard ∙ sym (serial-none _ _ shard);
  events = c.new-events.ensures.items ∙ sym (events-none _ _);
}

pub dummies-requires : goal.dummies-requires
dummies-requires c =
    let state = c.args.draws.now.state in
    let worths = c.args.worths.now in
    let round = c.loop-round.round in
    let is = offered state worths round c.in_ok-offer.offer c.draw_round-drawn.result.share c.loop-round.draws.state c.in_ok-offer.ensures c.draw_round-drawn.ensures.share c.loop-round.invariant.state in
    subst (λ (shards : List ℕ). All (λ shard. shard < 3) shards) (sym (c.as_slice.ensures ∙ ap (λ (o : Offer). o.wanting) is)) (wanting-all (round_tx state worths round))

pub use_up-requires-clause-shards : goal.use_up-requires-clause-shards
use_up-requires-clause-shards c =
    let state = c.args.draws.now.state in
    let worths = c.args.worths.now in
    let round = c.loop-round.round in
    let is = offered state worths round c.in_ok-offer.offer c.draw_round-drawn.result.share c.loop-round.draws.state c.in_ok-offer.ensures c.draw_round-drawn.ensures.share c.loop-round.invariant.state in
    subst (λ (shards : List ℕ). All (λ shard. shard < 3) shards) (sym (c.as_slice-in-loop-round.ensures ∙ ap (λ (o : Offer). o.wanting) is)) (wanting-all (round_tx state worths round))

pub use_up-requires-clause-room : goal.use_up-requires-clause-room
use_up-requires-clause-room c = λ shard below.
    let state = c.args.draws.now.state in
    let worths = c.args.worths.now in
    let round = c.loop-round.round in
    let is = offered state worths round c.in_ok-offer.offer c.draw_round-drawn.result.share c.loop-round.draws.state c.in_ok-offer.ensures c.draw_round-drawn.ensures.share c.loop-round.invariant.state in
    let lent : length c.as_slice-in-loop-round.result.now ≡ length (wanting_dummies (round_tx state worths round)) = ap length (c.as_slice-in-loop-round.ensures ∙ ap (λ (o : Offer). o.wanting) is) in
    omega (arith, c.loop-round.invariant.serials shard below, serial-few state worths shard round, lent, wanting-few (round_tx state worths round), c.loop-round-test.true, c.requires.few)

pub add_round-requires : goal.add_round-requires
add_round-requires c =
    let state = c.args.draws.now.state in
    let worths = c.args.worths.now in
    let round = c.loop-round.round in
    let is = offered state worths round c.in_ok-offer.offer c.draw_round-drawn.result.share c.loop-round.draws.state c.in_ok-offer.ensures c.draw_round-drawn.ensures.share c.loop-round.invariant.state in
    let of_dummies = dummied state worths round c.in_ok-offer.offer c.loop-round.serials.next c.as_slice.result.now c.in_ok-offer-2.field-0 is c.as_slice.ensures c.in_ok-offer-2.ensures c.loop-round.invariant.serials in
    let within : round < length worths = omega (arith, c.loop-round-test.true) in
    subst SessionFits (sym (sessioned state worths round c.in_ok-offer.offer c.in_ok-offer-2.field-0 is of_dummies))
    (round_fits state worths round (c.requires.worths round 0 within) (omega (arith, within, c.requires.few)))

pub loop-round-preserved : goal.loop-round-preserved
loop-round-preserved c =
    let state = c.args.draws.now.state in
    let worths = c.args.worths.now in
    let round = c.loop-round.round in
    let tx = round_tx state worths round in
    let offer = c.in_ok-offer.offer in
    let is = offered state worths round offer c.draw_round-drawn.result.share c.loop-round.draws.state c.in_ok-offer.ensures c.draw_round-drawn.ensures.share c.loop-round.invariant.state in
    let of_dummies = dummied state worths round offer c.loop-round.serials.next c.as_slice.result.now c.in_ok-offer-2.field-0 is c.as_slice.ensures c.in_ok-offer-2.ensures c.loop-round.invariant.serials in
    let second : c.then_some-second.result ≡ second_number state worths round =
    c.then_some-second.ensures ∙ chosen c.draw_round-drawn.result.again (length worths + round)
    ∙ ap (λ (again : Bool). if again then Some (length worths + round) else None)
    (c.draw_round-drawn.ensures.again ∙ ap (λ (s : ℕ). next_state (next_state s) / 2 ^ 33 % 4 == 0) c.loop-round.invariant.state ∙ ap (λ (d : ℕ). d % 4 == 0) (drawn-second state (2 * round))) in record {
      state = c.draw_round-drawn.ensures.state ∙ ap (λ (s : ℕ). next_state (next_state s)) c.loop-round.invariant.state ∙ sym (state-two state (2 * round) _ (omega arith));
      serials = λ shard below.
          let count : List ℕ → ℕ = count_by (λ other. other == shard) in
          c.use_up.ensures shard below ∙ ap (λ (n : ℕ). n + count c.as_slice-in-loop-round.result.now) (c.loop-round.invariant.serials shard below)
          ∙ ap (λ (shards : List ℕ). serial state worths shard round + count shards) (c.as_slice-in-loop-round.ensures ∙ ap (λ (o : Offer). o.wanting) is)
          ∙ sym (serial-more state worths shard round _ refl);
      events =
          c.in_ok-add_round.ensures
          ∙ ap (λ (events : List Event). events ++ round_with (session offer.session.tx offer.session.number c.in_ok-offer-2.field-0) offer.shards c.then_some-second.result) c.loop-round.invariant.events
          ∙ ap (λ (x : Session). events_below state worths round ++ round_with x offer.shards c.then_some-second.result) (sessioned state worths round offer c.in_ok-offer-2.field-0 is of_dummies)
          ∙ ap (λ (shards : List ℕ). events_below state worths round ++ round_with (round_session state worths round) shards c.then_some-second.result) (ap (λ (o : Offer). o.shards) is)
          ∙ ap (λ (number : Option ℕ). events_below state worths round ++ round_with (round_session state worths round) (concerned_by tx) number) second
          ∙ sym (events-more state worths round _ refl);
    }
