use Rattle.std.proofs.Common.{◌≡◌, ◌++◌, drop}
use Rattle.cs_explain.specs.Notes.{unlooked_notes}
use Rattle.cs_explain.proofs.notes.put_all_unlooked.Given as goal

abbrev pub invariant-loop-field : goal.invariant-loop-field
invariant-loop-field l = l.out.items ++ unlooked_notes l.tokens l.method (drop l.field-index l.fields) ≡ l.initial.out.items ++ unlooked_notes l.tokens l.method l.fields
