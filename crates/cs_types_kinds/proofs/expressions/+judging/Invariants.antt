use Rattle.std.proofs.Common.{◌≡◌, drop, map}
use Rattle.cs_types_kinds.specs.Told.{told_through}
use Rattle.cs_types_kinds.specs.Judging.{any_item, items_of_parts, link_added, step_taken}
use Rattle.cs_types_kinds.specs.Parts.{part_of, link_part, step_part}
use Rattle.cs_types_kinds.proofs.expressions.+judging.Given as goal

abbrev pub invariant-all_items-loop-item : goal.invariant-all_items-loop-item
invariant-all_items-loop-item l = told_through (any_item l.place) l.so_far (map (part_of l.scope) (drop l.item-index l.items)) ≡ items_of_parts l.place (map (part_of l.scope) l.items)

abbrev pub invariant-rights-loop-link : goal.invariant-rights-loop-link
invariant-rights-loop-link l = told_through (link_added l.kind) l.sum (map (link_part l.scope) (drop l.link-index l.links)) ≡ told_through (link_added l.kind) l.fn.start (map (link_part l.scope) l.links)

abbrev pub invariant-all_steps-loop-step : goal.invariant-all_steps-loop-step
invariant-all_steps-loop-step l = told_through step_taken l.found (map (step_part l.scope) (drop l.step-index l.steps)) ≡ told_through step_taken l.fn.start (map (step_part l.scope) l.steps)
