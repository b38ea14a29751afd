use Rattle.std.proofs.Common.{◌≡◌, drop}
use Rattle.cs_explain.specs.Comparing.{comparison}
use Rattle.cs_explain.proofs.comparing.comparison.Given as goal

abbrev pub invariant-loop-token : goal.invariant-loop-token
invariant-loop-token l = comparison (drop l.token-index l.tokens) ≡ comparison l.tokens
