use Rattle.std.proofs.Common.{◌≡◌, [], take, drop, map}
use Rattle.cs_wire.specs.Keys.{peer_twice, row_listed}
use Rattle.cs_wire.proofs.keys.Keys.from_list.Given as goal

abbrev pub invariant-loop-i : goal.invariant-loop-i
invariant-loop-i l = record {
  twice : peer_twice l.me (take l.i l.list) l.i (drop l.i l.list) ≡ peer_twice l.me [] 0 l.list;
  rows : l.rows ≡ map row_listed (take l.i l.list);
}
