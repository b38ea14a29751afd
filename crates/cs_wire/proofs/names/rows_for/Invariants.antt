use Rattle.std.proofs.Common.{◌≡◌, take}
use Rattle.cs_base.specs.declared.node_id.NodeId.{NodeId}
use Rattle.cs_wire.specs.Keys.{row_of_peer, row_expected}
use Rattle.cs_wire.specs.AllNames.{has_name}
use Rattle.cs_wire.proofs.names.rows_for.Given as goal

abbrev pub invariant-loop-i : goal.invariant-loop-i
invariant-loop-i l = (peer : NodeId) → row_of_peer peer l.rows ≡ row_expected l.master l.me (has_name peer (take l.i l.names)) peer
