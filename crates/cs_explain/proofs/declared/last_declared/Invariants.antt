use Rattle.std.proofs.Common.{◌≡◌, ◌≤◌}
use Rattle.cs_explain.specs.NameTokens.{last_declared}
use Rattle.cs_explain.proofs.declared.last_declared.Given as goal

abbrev pub invariant-loop-left : goal.invariant-loop-left
invariant-loop-left l = record {
  on : last_declared l.tokens l.index l.left ≡ last_declared l.tokens l.index l.index;
  within : l.left ≤ l.index;
}

abbrev pub decreases-loop-left : goal.decreases-loop-left
decreases-loop-left l = l.left
