use Rattle.std.proofs.Common.{◌≡◌, ◌≤◌, ◌*◌, ◌^◌, drop}
use Rattle.cs_tx.specs.Token.{sum_from}
use Rattle.cs_approve.proofs.token.sum_of.Given as goal

abbrev pub invariant-loop-place : goal.invariant-loop-place
invariant-loop-place l = record {
  sum : sum_from (drop l.place l.coins) l.sum ≡ sum_from l.coins 0;
  small : l.sum ≤ l.place * 2 ^ 63;
}
