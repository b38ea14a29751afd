use Rattle.std.proofs.Common.{take}
use Rattle.std.specs.List.{AllByRecursion}
use Rattle.cs_tx_types.specs.Record.{PlaceFits}
use Rattle.cs_check.proofs.fitting.places_fit.Given as goal

abbrev pub invariant-loop-place : goal.invariant-loop-place
invariant-loop-place l = AllByRecursion PlaceFits (take l.place-index l.book)
