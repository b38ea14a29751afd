use Rattle.std.proofs.Common.{◌≡◌, ◌++◌, drop}
use Rattle.cs_transact.specs.Telling.{outputs_text}
use Rattle.cs_transact.proofs.telling.put_outputs.Given as goal

abbrev pub invariant-loop-number : goal.invariant-loop-number
invariant-loop-number l = l.out.items ++ outputs_text l.digest l.number (drop l.number l.traces) ≡ l.fn.out.items ++ outputs_text l.digest 0 l.traces
