use Rattle.std.proofs.Common.{arith}
use Rattle.std.proofs.lemmas.List.{take_min, drop_min}
use Rattle.cs_deploy.specs.declared.limits.TheConstants.{MASTER_DIGITS}
use Rattle.cs_deploy.proofs.master.master_of.Goals as goal

pub returns-then-is_end : goal.returns-then-is_end
returns-then-is_end c = let front = take_min MASTER_DIGITS c.args.text.now in let back = drop_min MASTER_DIGITS c.args.text.now in grind (arith, front, back)

pub returns-else-is_end : goal.returns-else-is_end
returns-else-is_end c = let front = take_min MASTER_DIGITS c.args.text.now in let back = drop_min MASTER_DIGITS c.args.text.now in grind (arith, front, back)
