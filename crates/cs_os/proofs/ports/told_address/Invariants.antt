use Rattle.std.proofs.Common.{◌≡◌, drop}
use Rattle.cs_os.specs.Ports.{told_address}
use Rattle.cs_os.proofs.ports.told_address.Given as goal

abbrev pub invariant-loop-host : goal.invariant-loop-host
invariant-loop-host l = told_address (drop l.host-index l.hosts) l.name ≡ told_address l.hosts l.name
