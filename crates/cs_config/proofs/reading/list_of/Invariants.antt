use Rattle.std.proofs.Common.{◌≡◌, take, map}
use Rattle.cs_config.proofs.reading.list_of.Given as goal

abbrev pub invariant-loop-peer : goal.invariant-loop-peer
invariant-loop-peer l = l.list ≡ map (λ peer. peer.0) (take l.peer-index l.peers)
