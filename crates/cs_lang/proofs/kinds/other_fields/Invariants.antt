use Rattle.std.proofs.Common.{◌≡◌, ◌-◌, length}
use Rattle.cs_lang.specs.Readers.{fields_onward}
use Rattle.cs_lang.proofs.kinds.other_fields.Given as goal

abbrev pub invariant-loop : goal.invariant-loop
invariant-loop l = fields_onward l.left (length l.initial.cursor - l.counter) l.all l.cursor ≡ fields_onward l.left (length l.initial.cursor) l.fn.first l.initial.cursor
