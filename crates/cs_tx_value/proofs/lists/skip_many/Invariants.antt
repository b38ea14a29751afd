use Rattle.std.proofs.Common.{◌≡◌, ◌-◌}
use Rattle.cs_base.specs.Fields.{many_at, behind}
use Rattle.cs_tx_value.proofs.lists.skip_many.Given as goal

abbrev pub invariant-loop : goal.invariant-loop
invariant-loop g l = behind (many_at g.T.Encoded.found_at (l.count - l.counter) l.cursor) ≡ behind (many_at g.T.Encoded.found_at l.count l.initial.cursor)
