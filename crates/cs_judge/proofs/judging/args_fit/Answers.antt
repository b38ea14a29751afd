use Rattle.std.proofs.Common.{sym}
use Rattle.cs_eval_values.proofs.Uneven.{uneven_values}
use Rattle.cs_judge.proofs.judging.args_fit.Goals as goal

pub returns-then-fields-args : goal.returns-then-fields-args
returns-then-fields-args c = sym (uneven_values c.args.fields.now c.args.args.now c.if-fields-args.true)
