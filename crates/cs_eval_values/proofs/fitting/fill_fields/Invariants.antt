use Rattle.std.proofs.Common.{◌≡◌, drop}
use Rattle.cs_eval_values.specs.Filling.{fields_filled}
use Rattle.cs_eval_values.proofs.fitting.fill_fields.Given as goal

abbrev pub invariant-loop-i : goal.invariant-loop-i
invariant-loop-i l = fields_filled (drop l.i l.fields) (drop l.i l.values) l.names ≡ fields_filled l.fields l.values l.initial.names
