use Rattle.std.proofs.Common.{◌≡◌, drop}
use Rattle.cs_approve.specs.Approval.{is_said_from, is_said_of_each}
use Rattle.cs_native.proofs.kept.says_each.Given as goal

abbrev pub invariant-loop-place : goal.invariant-loop-place
invariant-loop-place g l = is_said_from (g.C.Clerk.is_said l.clerk l.tx) l.place (drop l.place l.tx.traces) ≡ is_said_of_each (g.C.Clerk.is_said l.clerk) l.tx
