use Rattle.std.proofs.Common.{◌≡◌, negsuc, drop}
use Rattle.cs_wallet.specs.Rising.{rise_from}
use Rattle.cs_wallet.proofs.ranges.are_rising.Given as goal

abbrev pub invariant-loop-entry : goal.invariant-loop-entry
invariant-loop-entry l = rise_from l.last (drop l.entry-index l.entries) ≡ rise_from (negsuc 0) l.entries
