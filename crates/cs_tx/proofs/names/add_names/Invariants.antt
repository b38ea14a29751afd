use Rattle.std.proofs.Common.{◌≡◌, ◌++◌, take}
use Rattle.cs_tx.specs.Uses.{names}
use Rattle.cs_tx.proofs.names.add_names.Given as goal

abbrev pub invariant-loop-item : goal.invariant-loop-item
invariant-loop-item l = l.found ≡ l.initial.found ++ names (take l.item-index l.items)
