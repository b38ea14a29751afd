use Rattle.std.proofs.Common.{◌≡◌, ◌-◌, length}
use Rattle.cs_lang.specs.Readers.{names_onward}
use Rattle.cs_lang.proofs.statements.other_names.Given as goal

abbrev pub invariant-loop : goal.invariant-loop
invariant-loop l = names_onward (length l.initial.cursor - l.counter) l.all l.cursor ≡ names_onward (length l.initial.cursor) l.fn.first l.initial.cursor
