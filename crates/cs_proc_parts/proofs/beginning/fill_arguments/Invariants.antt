use Rattle.std.proofs.Common.{◌≡◌, drop}
use Rattle.cs_eval_values.specs.Filling.{fields_filled}
use Rattle.cs_proc_parts.proofs.beginning.fill_arguments.Given as goal

abbrev pub invariant-loop-i : goal.invariant-loop-i
invariant-loop-i l = fields_filled (drop l.i l.fields) (drop l.i l.arguments) l.names ≡ fields_filled l.fields l.arguments l.initial.names
