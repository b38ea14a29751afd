use Rattle.std.proofs.Common.{◌≡◌, drop}
use Rattle.std.specs.List.{list_all}
use Rattle.cs_eval_values.specs.Filling.{is_list_of}
use Rattle.cs_eval_values.proofs.fitting.+kinds.Given as goal

abbrev pub invariant-each_is_of-loop-value : goal.invariant-each_is_of-loop-value
invariant-each_is_of-loop-value l = list_all (is_list_of l.base l.lists) (drop l.value-index l.values) ≡ list_all (is_list_of l.base l.lists) l.values
