use Rattle.std.proofs.Common.{sym}
use Rattle.cs_eval_values.proofs.Uneven.{uneven_values}
use Rattle.cs_cases.proofs.judging.values_fit.Goals as goal

pub returns-then-fields-values : goal.returns-then-fields-values
returns-then-fields-values c = sym (uneven_values c.args.fields.now c.args.values.now c.if-fields-values.true)
