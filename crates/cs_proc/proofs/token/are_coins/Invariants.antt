use Rattle.std.proofs.Common.{◌≡◌, drop, map}
use Rattle.std.specs.List.{list_all}
use Rattle.cs_eval_values.specs.Lending.{lent_object}
use Rattle.cs_proc.specs.Transfer.{is_coin}
use Rattle.cs_proc.proofs.token.are_coins.Given as goal

abbrev pub invariant-loop-item : goal.invariant-loop-item
invariant-loop-item l = list_all is_coin (map lent_object (drop l.item-index l.items)) ≡ list_all is_coin (map lent_object l.items)
