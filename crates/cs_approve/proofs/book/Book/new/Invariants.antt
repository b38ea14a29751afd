use Rattle.cs_approve.proofs.Making.{IsOn}
use Rattle.cs_approve.proofs.book.Book.new.Given as goal

abbrev pub invariant-loop-place : goal.invariant-loop-place
invariant-loop-place l = IsOn l.texts l.place l.book
