use Rattle.cs_table.specs.Seen.{seen}
use Rattle.cs_check.specs.Leaves.{HasLeaves}
use Rattle.cs_bench.proofs.leaves.fill.Given as goal

abbrev pub invariant-loop-slot : goal.invariant-loop-slot
invariant-loop-slot l = HasLeaves l.chain.hashed (seen l.table)
