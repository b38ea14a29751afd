use Rattle.std.proofs.Common.{◌∷◌, [], ◌++◌, length, sym, ap, ◌∙◌, append_assoc, arith}
use Rattle.std.specs.Vec.Iter.{into_iter_items}
use Rattle.cs_proc_parts.proofs.Emptying.{made_more}
use Rattle.cs_proc_parts.proofs.outputs.Outputs.into_objects.Goals as goal

pub loop-entry-preserved : goal.loop-entry-preserved
loop-entry-preserved c =
    let at = c.loop-entry in
    let x = c.in-Some.entry in
    let steps = c.in-Some.ensures.steps in record {
      rest = append_assoc at.yielded (x ∷ []) (into_iter_items c.next.new.self) ∙ ap (λ l. at.yielded ++ l) (sym steps.0) ∙ at.invariant.rest;
      made = c.in_ok-append.ensures.items ∙ made_more at.yielded x at.all.items at.invariant.made;
      count = omega (arith, steps.1, at.invariant.count, ap length steps.0);
    }
