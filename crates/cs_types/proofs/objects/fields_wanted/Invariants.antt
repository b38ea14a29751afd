use Rattle.std.proofs.Common.{◌≡◌, drop, map}
use Rattle.cs_types_kinds.specs.Parts.{part_of}
use Rattle.cs_types.specs.Stating.{fields_wanted}
use Rattle.cs_types.proofs.objects.fields_wanted.Given as goal

abbrev pub invariant-loop-i : goal.invariant-loop-i
invariant-loop-i l = fields_wanted (drop l.i l.fields) (map (part_of l.scope) (drop l.i l.values)) l.sum ≡ fields_wanted l.fields (map (part_of l.scope) l.values) l.fn.start
