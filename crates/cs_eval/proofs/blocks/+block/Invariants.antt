use Rattle.std.proofs.Common.{◌≡◌, ◌≤◌, max, drop, map}
use Rattle.cs_eval.specs.Blocks.{one_by_one, places_of_statement}
use Rattle.cs_eval.proofs.blocks.+block.Given as goal

abbrev pub invariant-statements_places-loop-statement : goal.invariant-statements_places-loop-statement
invariant-statements_places-loop-statement l = record {
  some : 1 ≤ l.most;
  same : max l.most (one_by_one (map places_of_statement (drop l.statement-index l.statements))) ≡ one_by_one (map places_of_statement l.statements);
}
