use Rattle.std.proofs.Common.{◌≡◌, ◌++◌, drop}
use Rattle.cs_transact.specs.Telling.{messages_text}
use Rattle.cs_transact.proofs.telling.put_messages.Given as goal

abbrev pub invariant-loop-number : goal.invariant-loop-number
invariant-loop-number l = l.out.items ++ messages_text l.number (drop l.number l.traces) ≡ l.fn.out.items ++ messages_text 0 l.traces
