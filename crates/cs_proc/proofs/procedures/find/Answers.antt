use Rattle.std.proofs.Common.{◌-◌, ◌∙◌, ap, rules, arith}
use Rattle.std.specs.Option.{option_copied}
use Rattle.cs_proc.proofs.Places.{got}
use Rattle.cs_proc.proofs.Finding.{found_past, found_other, found_here}
use Rattle.cs_proc.proofs.procedures.find.Goals as goal

pub returns-then-eq : goal.returns-then-eq
returns-then-eq c =
    let at = c.loop-left in
    let scene = c.args.scene.now in
    let there = got c.get.result scene.contract.now.methods _ (at.left - 1) c.as_slice-methods.ensures c.get.ensures.lookup.0 c.get.ensures.lookup.1 in (
      omega arith,
      found_here scene.contract.now scene.view.now c.args.name.now c.args.above at.left (at.left - 1) c.in-Some.method.now
          (omega arith) at.invariant.same (there ∙ ap option_copied c.in-Some.is) (search rules),
    )

pub loop-left-preserved-else-eq : goal.loop-left-preserved-else-eq
loop-left-preserved-else-eq c =
    let at = c.loop-left in
    let scene = c.args.scene.now in
    let there = got c.get.result scene.contract.now.methods _ (at.left - 1) c.as_slice-methods.ensures c.get.ensures.lookup.0 c.get.ensures.lookup.1 in record {
      low = omega arith;
      same = found_other scene.contract.now scene.view.now c.args.name.now c.args.above at.left (at.left - 1) c.in-Some.method.now
          (omega arith) at.invariant.same (there ∙ ap option_copied c.in-Some.is) (search rules);
    }

pub loop-left-preserved : goal.loop-left-preserved
loop-left-preserved c =
    let at = c.loop-left in
    let scene = c.args.scene.now in
    let there = got c.get.result scene.contract.now.methods _ (at.left - 1) c.as_slice-methods.ensures c.get.ensures.lookup.0 c.get.ensures.lookup.1 in record {
      low = omega arith;
      same = found_past scene.contract.now scene.view.now c.args.name.now c.args.above at.left (at.left - 1)
          (omega arith) at.invariant.same (there ∙ ap option_copied c.in_default.is);
    }
