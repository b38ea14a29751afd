use Rattle.std.proofs.Common.{◌≡◌, drop}
use Rattle.cs_types_kinds.specs.Lookups.{named_field}
use Rattle.cs_types_kinds.proofs.declared.named_field.Given as goal

abbrev pub invariant-loop-field : goal.invariant-loop-field
invariant-loop-field l = named_field l.name (drop l.field-index l.fields) ≡ named_field l.name l.fields
