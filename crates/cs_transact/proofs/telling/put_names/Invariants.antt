use Rattle.std.proofs.Common.{◌≡◌, ◌++◌, drop}
use Rattle.cs_transact.specs.Telling.{names_text}
use Rattle.cs_transact.proofs.telling.put_names.Given as goal

abbrev pub invariant-loop-place : goal.invariant-loop-place
invariant-loop-place l = l.out.items ++ names_text l.digest l.number l.place (drop l.place l.outputs) ≡ l.fn.out.items ++ names_text l.digest l.number 0 l.outputs
