use Rattle.std.proofs.Common.{◌≡◌, ◌-◌, length}
use Rattle.cs_lang.specs.Readers.{slots_onward}
use Rattle.cs_lang.proofs.kinds.other_slots.Given as goal

abbrev pub invariant-loop : goal.invariant-loop
invariant-loop l = slots_onward (length l.initial.cursor - l.counter) l.all l.cursor ≡ slots_onward (length l.initial.cursor) l.fn.first l.initial.cursor
