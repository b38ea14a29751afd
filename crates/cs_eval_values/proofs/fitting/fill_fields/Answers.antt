use Rattle.cs_eval_values.proofs.Uneven.{uneven_fields}
use Rattle.cs_eval_values.proofs.fitting.fill_fields.Goals as goal

pub returns-then-values-fields : goal.returns-then-values-fields
returns-then-values-fields c = uneven_fields c.args.fields.now c.args.values.now _ c.if-values-fields.true
