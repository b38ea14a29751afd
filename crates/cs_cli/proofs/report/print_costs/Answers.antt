use Rattle.std.proofs.Common.{append_assoc}
use Rattle.cs_cli.proofs.report.print_costs.Goals as goal

pub returns : goal.returns
returns c = simp append_assoc c.format.ensures.ok
