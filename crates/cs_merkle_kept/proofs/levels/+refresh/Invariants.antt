use Rattle.std.proofs.Common.{length}
use Rattle.cs_merkle_kept.proofs.levels.+refresh.Given as goal

abbrev pub decreases-refresh : goal.decreases-refresh
decreases-refresh g l = length l.levels.now
