use Rattle.std.proofs.Common.{◌≡◌, drop}
use Rattle.std.specs.List.{list_all}
use Rattle.cs_judge.specs.Faults.{is_int}
use Rattle.cs_judge.proofs.judging.are_ints.Given as goal

abbrev pub invariant-loop-value : goal.invariant-loop-value
invariant-loop-value l = list_all is_int (drop l.value-index l.args) ≡ list_all is_int l.args
