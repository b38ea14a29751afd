use Rattle.std.proofs.Common.{◌≡◌, drop}
use Rattle.std.specs.List.{list_all}
use Rattle.cs_eval_values.specs.Filling.{object_fits}
use Rattle.cs_eval_values.proofs.fitting.each_object_fits.Given as goal

abbrev pub invariant-loop-i : goal.invariant-loop-i
invariant-loop-i l = list_all (object_fits l.contract l.types l.name) (drop l.i l.objects) ≡ list_all (object_fits l.contract l.types l.name) l.objects
