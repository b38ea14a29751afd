use Rattle.std.proofs.Common.{◌≡◌, ◌++◌, map, take, drop}
use Rattle.cs_waits.specs.Notes.{with_word}
use Rattle.cs_waits.proofs.notes.hear_words.Given as goal

abbrev pub invariant-loop-i : goal.invariant-loop-i
invariant-loop-i l =
    l.watched ≡ map (with_word l.config l.from l.message) (take l.i l.initial.watched) ++ drop l.i l.initial.watched
