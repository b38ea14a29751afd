use Rattle.std.proofs.Common.{◌≡◌, None, ap, ◌∷◌, [], ◌++◌, ◌∙◌, arith, rules}
use Rattle.std.specs.Prelude.{slice_get}
use Rattle.cs_eval_values.proofs.Going.{kept_more, kept_all}
use Rattle.cs_eval_values.proofs.objects.kept_each.Goals as goal
use Rattle.cs_eval_values.proofs.objects.kept_each.Goals.{in-Some+in_ok-new+in_ok-push, in_default}

pub loop-i-preserved : goal.loop-i-preserved
loop-i-preserved c =
    elim c.match-get.branch [
      | in-Some+in_ok-new+in_ok-push w ↦
          kept_more c.args.objects.now c.loop-i.i w.in-Some.object.now c.loop-i.kept _ w.in-Some.ensures c.loop-i.invariant
          (w.kept-is ∙ w.in_ok-push.ensures.ok ∙ ap (λ o. c.loop-i.kept ++ o ∷ []) w.in_ok-new.ensures)
      | in_default w ↦
          let none : None ≡ slice_get c.args.objects.now c.loop-i.i = search rules in
          absurd (kept_all c.args.objects.now c.loop-i.i (omega (arith, c.loop-i-test.true, c.len-i-end.ensures)) none)
    ]
