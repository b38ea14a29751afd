use Rattle.std.proofs.Common.{◌∙◌, sym, rules}
use Rattle.cs_eval_values.specs.Filling.{object_fits}
use Rattle.cs_eval_values.proofs.Going.{all_failed, all_step, all_past}
use Rattle.cs_eval_values.proofs.fitting.each_object_fits.Goals as goal
use Rattle.cs_eval_values.proofs.fitting.each_object_fits.Goals.{in-Some+else-not-object_fits, in_default}

pub returns-then-not-object_fits : goal.returns-then-not-object_fits
returns-then-not-object_fits c =
    all_failed (object_fits c.args.contract.now c.args.types.now c.args.name.now) c.args.objects.now c.loop-i.i c.in-Some.object.now _
    (c.in-Some.ensures) (sym c.object_fits.ensures ∙ c.if-not-object_fits.true) c.loop-i.invariant

pub loop-i-preserved : goal.loop-i-preserved
loop-i-preserved c =
    elim c.match-get.branch [
      | in-Some+else-not-object_fits w ↦
          all_step (object_fits c.args.contract.now c.args.types.now c.args.name.now) c.args.objects.now c.loop-i.i w.in-Some.object.now _
          w.in-Some.ensures (sym w.object_fits.ensures ∙ w.if-not-object_fits.false) c.loop-i.invariant
      | in_default w ↦ all_past (object_fits c.args.contract.now c.args.types.now c.args.name.now) c.args.objects.now c.loop-i.i _ (search rules) c.loop-i.invariant
    ]
