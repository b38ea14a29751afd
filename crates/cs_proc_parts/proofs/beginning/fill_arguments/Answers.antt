use Rattle.cs_eval_values.proofs.Uneven.{uneven_fields}
use Rattle.cs_proc_parts.proofs.beginning.fill_arguments.Goals as goal

pub returns-then-arguments-fields : goal.returns-then-arguments-fields
returns-then-arguments-fields c = uneven_fields c.args.fields.now c.args.arguments.now _ c.if-arguments-fields.true
