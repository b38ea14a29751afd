use Rattle.std.proofs.Common.{◌≡◌, ◌++◌, drop}
use Rattle.cs_order_rules.specs.Rules.{with_pair}
use Rattle.cs_order_open.proofs.pairs.with_pair.Given as goal

abbrev pub invariant-loop-other : goal.invariant-loop-other
invariant-loop-other l = l.out.items ++ with_pair l.waiting (drop l.other-index l.fn.pairs.items) ≡ with_pair l.fn.pair l.fn.pairs.items
