use Rattle.std.proofs.Common.{◌≡◌, ◌-◌, length}
use Rattle.cs_lang.specs.Readers.{typedefs_onward}
use Rattle.cs_lang.proofs.methods.other_typedefs.Given as goal

abbrev pub invariant-loop : goal.invariant-loop
invariant-loop l = typedefs_onward (length l.initial.cursor - l.counter) l.all l.cursor ≡ typedefs_onward (length l.initial.cursor) l.fn.first l.initial.cursor
