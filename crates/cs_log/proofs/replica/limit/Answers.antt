use Rattle.std.proofs.Math.Nat.{min-le_right}
use Rattle.cs_log.proofs.Acting.{limit_fits}
use Rattle.cs_log.proofs.replica.limit.Goals as goal

pub returns : goal.returns
returns c = rw c.min.ensures (limit_fits _ (min-le_right c.args.view 10))
