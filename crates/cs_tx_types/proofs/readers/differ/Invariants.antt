use Rattle.std.proofs.Common.{◌≡◌, drop}
use Rattle.cs_tx_types.specs.State.{readers_differ}
use Rattle.cs_tx_types.proofs.readers.differ.Given as goal

abbrev pub invariant-loop-place : goal.invariant-loop-place
invariant-loop-place l = readers_differ (drop l.place l.readers) ≡ readers_differ l.readers
