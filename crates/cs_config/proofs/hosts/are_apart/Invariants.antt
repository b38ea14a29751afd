use Rattle.std.proofs.Common.{◌≡◌, drop}
use Rattle.cs_config.specs.Hosts.{are_apart}
use Rattle.cs_config.proofs.hosts.are_apart.Given as goal

abbrev pub invariant-loop-place : goal.invariant-loop-place
invariant-loop-place l = are_apart (drop l.place l.hosts) ≡ are_apart l.hosts
