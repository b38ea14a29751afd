use Rattle.std.proofs.Common.{arith}
use Rattle.std.proofs.KnownBytes.{Consumes-kept}
use Rattle.cs_base.proofs.reading.read_text.Goals as goal
use Rattle.cs_base.proofs.reading.read_text.Goals.{else-loop-piece-test, then-loop-piece-test+in-End}

pub returns-clause-text : goal.returns-clause-text
returns-clause-text g c = record {
  taken = elim c.loop-piece-test.branch [
    | else-loop-piece-test w ↦ rw w.input-is c.loop-piece.invariant.1
    | then-loop-piece-test+in-End w ↦ rw w.input-is (Consumes-kept _ _ _ c.loop-piece.text.items c.loop-piece.invariant.1 w.in-End.ensures.bytes.1)
  ];
  bound = c.loop-piece.invariant.0;
  at_end = λ within. elim c.loop-piece-test.branch [
    | else-loop-piece-test w ↦ absurd (omega arith)
    | then-loop-piece-test+in-End w ↦ rw w.input-is w.in-End.ensures.bytes.0
  ];
}
