use Rattle.std.proofs.Common.{◌≡◌, take, string_bytes}
use Rattle.cs_serve.specs.Telling.{served_notes_text}
use Rattle.cs_serve.proofs.telling.notes_text.Given as goal

abbrev pub invariant-loop-note : goal.invariant-loop-note
invariant-loop-note l = string_bytes l.text ≡ served_notes_text l.me (take l.note-index l.notes)
