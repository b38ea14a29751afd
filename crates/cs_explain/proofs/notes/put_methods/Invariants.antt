use Rattle.std.proofs.Common.{◌≡◌, ◌++◌, drop}
use Rattle.cs_explain.specs.Notes.{notes_in}
use Rattle.cs_explain.proofs.notes.put_methods.Given as goal

abbrev pub invariant-loop-method : goal.invariant-loop-method
invariant-loop-method l = l.out.items ++ notes_in l.tokens (drop l.method-index l.methods) ≡ l.initial.out.items ++ notes_in l.tokens l.methods
