use Rattle.std.proofs.Common.{length}
use Rattle.cs_cases.proofs.Lines.{IsAtLine}
use Rattle.cs_cases.proofs.text.read_cases.Given as goal

abbrev pub invariant-loop-line : goal.invariant-loop-line
invariant-loop-line l = IsAtLine l.contract l.id l.text l.cases l.number l.rest

abbrev pub decreases-loop-line : goal.decreases-loop-line
decreases-loop-line l = length l.rest
