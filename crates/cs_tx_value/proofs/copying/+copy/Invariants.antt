use Rattle.std.proofs.Common.{◌≡◌, take}
use Rattle.cs_tx_value.proofs.copying.+copy.Given as goal

abbrev pub invariant-copy_values-loop-value : goal.invariant-copy_values-loop-value
invariant-copy_values-loop-value l = l.copied ≡ take l.value-index l.values
