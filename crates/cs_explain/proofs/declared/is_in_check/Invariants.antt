use Rattle.std.proofs.Common.{◌≡◌, drop, false}
use Rattle.cs_explain.specs.NameTokens.{check_behind_all}
use Rattle.cs_explain.proofs.declared.is_in_check.Given as goal

-- what is left leads from here to where all lead from the beginning
abbrev pub invariant-loop-token : goal.invariant-loop-token
invariant-loop-token l = check_behind_all l.inside (drop l.token-index l.tokens) ≡ check_behind_all false l.tokens
