use Rattle.std.proofs.Common.{◌∙◌}
use Rattle.cs_deploy.proofs.Names.{added, next-names, next-differ, next-left}
use Rattle.cs_deploy.proofs.genesis.has_twice.Goals as goal

pub loop-place-preserved : goal.loop-place-preserved
loop-place-preserved c =
    let objects = c.args.objects.now in
    let i = c.loop-place.place in
    let object = c.index-objects-place.result in
    let old = c.loop-place.names in
    let now = c.insert.new.self in
    let name = c.in_ok-name.name in
    let (new, is_now) = added name old now c.in_ok-insert.field-0 c.in_ok-insert.ensures.added c.in_ok-insert.ensures.names c.if-not-branch.false in
    record {
      names = next-names objects i object object c.loop-place-test.true c.index-objects-place.is old now name c.in_ok-name.ensures new is_now c.loop-place.invariant.names;
      differ = next-differ objects i object object c.loop-place-test.true c.index-objects-place.is old now name c.in_ok-name.ensures new is_now c.loop-place.invariant.differ;
      left = c.loop-place.invariant.left ∙ next-left objects i object object c.loop-place-test.true c.index-objects-place.is old now name c.in_ok-name.ensures new is_now;
    }
