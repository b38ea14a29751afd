use Rattle.std.proofs.Common.{◌≡◌, drop}
use Rattle.std.specs.List.{find, flat_map}
use Rattle.cs_tx.specs.Uses.{is_in, names}
use Rattle.cs_tx.proofs.uses.first_input_in.Given as goal

abbrev pub invariant-loop-trace : goal.invariant-loop-trace
invariant-loop-trace l = find (is_in l.config l.shard) (names (flat_map (λ trace. trace.inputs) (drop l.trace-index l.traces))) ≡ find (is_in l.config l.shard) (names (flat_map (λ trace. trace.inputs) l.traces))
