use Rattle.std.proofs.Common.{◌≡◌, ◌-◌, None}
use Rattle.cs_base.proofs.Many.{with_front}
use Rattle.cs_wire_message.specs.Reading.{rising_at}
use Rattle.cs_wire_message.proofs.rising.read_rising.Given as goal

abbrev pub invariant-loop : goal.invariant-loop
invariant-loop l = with_front l.echoed (rising_at l.view l.last (l.count - l.counter) l.cursor) ≡ rising_at l.view None l.count l.initial.cursor
