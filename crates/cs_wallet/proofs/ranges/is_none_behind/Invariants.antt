use Rattle.std.proofs.Common.{◌≡◌, drop}
use Rattle.cs_wallet.specs.File.{are_apart}
use Rattle.cs_wallet.proofs.ranges.is_none_behind.Given as goal

abbrev pub invariant-loop-place : goal.invariant-loop-place
invariant-loop-place l = are_apart (drop l.place l.entries) ≡ are_apart l.entries
