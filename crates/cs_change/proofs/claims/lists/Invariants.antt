use Rattle.std.proofs.Common.{◌≡◌, drop}
use Rattle.std.specs.List.{list_any}
use Rattle.cs_order_rules.specs.Safe.{is_echo_listed}
use Rattle.cs_change.proofs.claims.lists.Given as goal

abbrev pub invariant-loop-line : goal.invariant-loop-line
invariant-loop-line l = list_any (is_echo_listed l.from l.below l.digest) (drop l.line-index l.lines) ≡ list_any (is_echo_listed l.from l.below l.digest) l.lines
