use Rattle.std.proofs.Common.{length}
use Rattle.cs_text.proofs.Reading.{IsAt}
use Rattle.cs_text.proofs.reader.read_ended.Given as goal

abbrev pub invariant-loop-line : goal.invariant-loop-line
invariant-loop-line g l = IsAt g.R.LineReader.form l.text l.reader l.number l.rest

abbrev pub decreases-loop-line : goal.decreases-loop-line
decreases-loop-line g l = length l.rest
