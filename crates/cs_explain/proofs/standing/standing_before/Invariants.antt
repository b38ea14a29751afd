use Rattle.std.proofs.Common.{◌≡◌, drop}
use Rattle.cs_explain.specs.Standing.{standing_before}
use Rattle.cs_explain.proofs.standing.standing_before.Given as goal

abbrev pub invariant-loop-token : goal.invariant-loop-token
invariant-loop-token l = standing_before l.text l.place (drop l.token-index l.tokens) ≡ standing_before l.text l.place l.tokens
