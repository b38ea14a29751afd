use Rattle.std.proofs.Common.{◌≡◌, ◌-◌, None}
use Rattle.cs_base.specs.Fields.{behind}
use Rattle.cs_wire_message.specs.Reading.{rising_at}
use Rattle.cs_wire_message.proofs.rising.skip_rising.Given as goal

abbrev pub invariant-loop : goal.invariant-loop
invariant-loop l = behind (rising_at l.view l.last (l.count - l.counter) l.cursor) ≡ behind (rising_at l.view None l.count l.initial.cursor)
