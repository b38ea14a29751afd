use Rattle.std.proofs.Common.{◌≡◌, ◌-◌}
use Rattle.cs_base.specs.Fields.{many_at}
use Rattle.cs_base.proofs.Many.{with_front}
use Rattle.cs_tx_value.proofs.lists.read_many.Given as goal

abbrev pub invariant-loop : goal.invariant-loop
invariant-loop g l = with_front l.items (many_at g.T.Encoded.found_at (l.count - l.counter) l.cursor) ≡ many_at g.T.Encoded.found_at l.count l.initial.cursor
