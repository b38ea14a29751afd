use Rattle.std.proofs.Common.{take}
use Rattle.std.specs.List.{AllByRecursion}
use Rattle.cs_tx_value.specs.Encoding.{ValueFitsIn}
use Rattle.cs_tx_value.proofs.fitting.+fits.Given as goal

abbrev pub invariant-values_fit-loop-value : goal.invariant-values_fit-loop-value
invariant-values_fit-loop-value l = AllByRecursion (ValueFitsIn l.depth) (take l.value-index l.values)
