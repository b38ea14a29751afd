use Rattle.std.proofs.Common.{◌≡◌, drop}
use Rattle.cs_proc_parts.specs.Beginning.{fields_started}
use Rattle.cs_proc_parts.proofs.beginning.start_fields.Given as goal

abbrev pub invariant-loop-field : goal.invariant-loop-field
invariant-loop-field l = fields_started (drop l.field-index l.fields) l.names ≡ fields_started l.fields l.initial.names
