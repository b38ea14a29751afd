use Rattle.std.proofs.Common.{◌≡◌, ◌++◌, drop}
use Rattle.cs_explain.specs.Notes.{unmade_notes}
use Rattle.cs_explain.proofs.notes.put_all_unmade.Given as goal

abbrev pub invariant-loop-slot : goal.invariant-loop-slot
invariant-loop-slot l = l.out.items ++ unmade_notes l.tokens l.method (drop l.slot-index l.slots) ≡ l.initial.out.items ++ unmade_notes l.tokens l.method l.slots
