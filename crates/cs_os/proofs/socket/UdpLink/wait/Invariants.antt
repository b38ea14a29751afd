-- A wait that is made again leaves the missed receives, and faults only grow.
use Rattle.std.proofs.Common.{◌≡◌, ◌≤◌}
use Rattle.cs_os.proofs.socket.UdpLink.wait.Given as goal

abbrev pub invariant-loop : goal.invariant-loop
invariant-loop g l = (l.self.missed ≡ l.fn.self.missed) × (l.fn.self.faults ≤ l.self.faults)
