use Rattle.std.proofs.Common.{◌≡◌, [], take, drop}
use Rattle.cs_tx.specs.WellFormed.{first_twice}
use Rattle.cs_tx.proofs.names.Names.twice_used.Given as goal

abbrev pub invariant-loop-i : goal.invariant-loop-i
invariant-loop-i l = first_twice l.references (take l.i l.inputs) (drop l.i l.inputs) ≡ first_twice l.references [] l.inputs
