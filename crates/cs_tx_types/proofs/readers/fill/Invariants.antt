use Rattle.std.proofs.Common.{◌≡◌, length}
use Rattle.cs_base.specs.Fields.{bytes_at, many_at}
use Rattle.cs_tx_types.proofs.Filling.{IsFilled}
use Rattle.cs_tx_types.proofs.readers.fill.Given as goal

abbrev pub invariant-loop-place : goal.invariant-loop-place
invariant-loop-place l =
    (length l.places ≡ length l.initial.places)
    × IsFilled l.places l.place l.cursor (many_at (bytes_at 32) (length l.initial.places) l.initial.cursor)
