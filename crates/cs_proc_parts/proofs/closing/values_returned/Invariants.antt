use Rattle.std.proofs.Common.{◌≡◌, drop, []}
use Rattle.cs_proc_parts.specs.Closing.{values_returned}
use Rattle.cs_proc_parts.proofs.closing.values_returned.Given as goal

abbrev pub invariant-loop-field : goal.invariant-loop-field
invariant-loop-field l = values_returned l.names l.values (drop l.field-index l.fields) ≡ values_returned l.names [] l.fields
