use Rattle.std.proofs.Common.{◌≡◌, ◌++◌, map, take}
use Rattle.cs_waits.specs.Notes.{unwatched}
use Rattle.cs_waits.proofs.notes.watch.Given as goal

abbrev pub invariant-loop-name : goal.invariant-loop-name
invariant-loop-name l = l.watched.items ≡ l.initial.watched.items ++ map (unwatched l.members) (take l.name-index l.names)
