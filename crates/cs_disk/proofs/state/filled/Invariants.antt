use Rattle.std.proofs.Common.{take}
use Rattle.cs_disk.specs.Tears.{Tears}
use Rattle.cs_disk.proofs.state.filled.Given as goal

abbrev pub invariant-loop-range : goal.invariant-loop-range
invariant-loop-range l = Tears l.synced (take l.range-index l.ranges) l.file.items
