use Rattle.std.proofs.Common.{◌+◌, ◌/◌, ◌≤◌, min, length}
use Rattle.cs_merkle_kept.proofs.Rejoined.{IsRejoined}
use Rattle.cs_merkle_kept.proofs.level.rejoin.Given as goal

abbrev pub invariant-loop-place : goal.invariant-loop-place
invariant-loop-place g l =
    IsRejoined l.below l.above l.places l.place-index l.next
    × (l.steps ≤ l.initial.steps + min l.place-index (min l.next (length l.below / 2)))
