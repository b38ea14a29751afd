use Rattle.std.proofs.Common.{◌≡◌, ◌++◌, drop}
use Rattle.cs_sbac.specs.Genesis.{keyed_from}
use Rattle.cs_sbac.proofs.genesis.keyed.Given as goal

abbrev pub invariant-loop-place : goal.invariant-loop-place
invariant-loop-place l = l.keyed.items ++ keyed_from l.place (drop l.place l.objects) ≡ keyed_from 0 l.objects
