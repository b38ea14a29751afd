use Rattle.std.proofs.Common.{◌≡◌, take, map}
use Rattle.cs_config.proofs.hosts.addresses_of.Given as goal

abbrev pub invariant-loop-host : goal.invariant-loop-host
invariant-loop-host l = l.list ≡ map (λ host. host.0) (take l.host-index l.hosts)
