use Rattle.std.proofs.Common.{◌≡◌, ◌-◌, length}
use Rattle.cs_lang.specs.Readers.{methods_onward}
use Rattle.cs_lang.proofs.methods.other_methods.Given as goal

abbrev pub invariant-loop : goal.invariant-loop
invariant-loop l = methods_onward (length l.initial.cursor - l.counter) l.all l.cursor ≡ methods_onward (length l.initial.cursor) l.fn.first l.initial.cursor
