use Rattle.std.proofs.Common.{◌≡◌, take}
use Rattle.std.specs.List.{flat_map}
use Rattle.cs_tx.specs.Uses.{names}
use Rattle.cs_tx.proofs.names.input_names.Given as goal

abbrev pub invariant-loop-trace : goal.invariant-loop-trace
invariant-loop-trace l = l.found ≡ names (flat_map (λ trace. trace.inputs) (take l.trace-index l.traces))
