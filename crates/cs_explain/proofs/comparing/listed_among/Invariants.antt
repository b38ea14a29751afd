use Rattle.std.proofs.Common.{◌≡◌, drop}
use Rattle.cs_explain.specs.Comparing.{listed_among}
use Rattle.cs_explain.proofs.comparing.listed_among.Given as goal

abbrev pub invariant-loop-literal : goal.invariant-loop-literal
invariant-loop-literal l = listed_among l.text l.place l.end (drop l.literal-index l.literals) ≡ listed_among l.text l.place l.end l.literals
