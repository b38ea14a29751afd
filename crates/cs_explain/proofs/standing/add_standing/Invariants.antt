use Rattle.std.proofs.Common.{◌≡◌, ◌++◌, drop}
use Rattle.cs_explain.specs.Standing.{standing_among}
use Rattle.cs_explain.proofs.standing.add_standing.Given as goal

abbrev pub invariant-loop-literal : goal.invariant-loop-literal
invariant-loop-literal l = l.standing.items ++ standing_among l.text l.place l.end (drop l.literal-index l.literals) ≡ l.initial.standing.items ++ standing_among l.text l.place l.end l.literals
