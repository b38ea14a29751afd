use Rattle.std.proofs.Common.{◌≡◌, drop}
use Rattle.cs_wire.specs.Keys.{row_of_peer}
use Rattle.cs_wire.proofs.keys.row_among.Given as goal

abbrev pub invariant-loop-row : goal.invariant-loop-row
invariant-loop-row l = row_of_peer l.peer (drop l.row-index l.rows) ≡ row_of_peer l.peer l.rows
