use Rattle.std.proofs.Common.{◌≡◌, ◌==◌, ◌++◌, not, filter, length}
use Rattle.std.specs.List.{slice_split}
use Rattle.cs_base.specs.Lines.{views}
use Rattle.cs_base.specs.Lines.{fields_of}
use Rattle.cs_base.proofs.line.fields.Given as goal

abbrev pub invariant-loop-field : goal.invariant-loop-field
invariant-loop-field l = fields_of l.line ≡ views l.fields.items ++ filter (λ field. not (length field == 0)) (slice_split (λ byte. byte == 32) l.rest)

abbrev pub decreases-loop-field : goal.decreases-loop-field
decreases-loop-field l = length l.rest
