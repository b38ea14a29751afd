use Rattle.std.proofs.Common.{◌≡◌, max, drop, map}
use Rattle.cs_eval.specs.Places.{in_turn, places, places_of_link, places_of_step}
use Rattle.cs_eval.proofs.places.+expression.Given as goal

abbrev pub invariant-items_places-loop-item : goal.invariant-items_places-loop-item
invariant-items_places-loop-item l = max l.most (in_turn (map places (drop l.item-index l.items))) ≡ in_turn (map places l.items)

abbrev pub invariant-links_places-loop-link : goal.invariant-links_places-loop-link
invariant-links_places-loop-link l = max l.most (in_turn (map places_of_link (drop l.link-index l.links))) ≡ max l.fn.first (in_turn (map places_of_link l.links))

abbrev pub invariant-steps_places-loop-step : goal.invariant-steps_places-loop-step
invariant-steps_places-loop-step l = max l.most (in_turn (map places_of_step (drop l.step-index l.steps))) ≡ max l.fn.first (in_turn (map places_of_step l.steps))
