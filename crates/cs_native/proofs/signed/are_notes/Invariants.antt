use Rattle.std.proofs.Common.{◌≡◌, drop}
use Rattle.std.specs.Prelude.{is_some}
use Rattle.std.specs.List.{list_all}
use Rattle.cs_native.specs.Signed.{note_of}
use Rattle.cs_native.proofs.signed.are_notes.Given as goal

abbrev pub invariant-loop-object : goal.invariant-loop-object
invariant-loop-object l =
    list_all (λ object. is_some (note_of object)) (drop l.object-index l.objects)
    ≡ list_all (λ object. is_some (note_of object)) l.objects
