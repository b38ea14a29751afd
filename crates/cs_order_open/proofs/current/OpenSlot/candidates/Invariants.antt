use Rattle.std.proofs.Common.{◌≡◌, ◌++◌, drop}
use Rattle.std.specs.List.{filter_map}
use Rattle.cs_order_open.specs.Look.{look_of, candidate_by}
use Rattle.cs_order_open.proofs.current.OpenSlot.candidates.Given as goal

abbrev pub invariant-loop-pair : goal.invariant-loop-pair
invariant-loop-pair l = l.entries.items ++ filter_map (candidate_by (look_of l.self)) (drop l.pair-index l.pair-items) ≡ filter_map (candidate_by (look_of l.self)) l.pair-items
