use Rattle.std.proofs.Common.{◌≡◌, ◌++◌, take, drop}
use Rattle.cs_merkle_kept.specs.Changes.{halved}
use Rattle.cs_merkle_kept.proofs.levels.halve.Given as goal

abbrev pub invariant-loop-place : goal.invariant-loop-place
invariant-loop-place l = l.places ≡ halved (take l.place-index l.initial.places) ++ drop l.place-index l.initial.places
