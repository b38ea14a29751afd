use Rattle.cs_tx_value.specs.Object.{object_encoding}
use Rattle.cs_native.proofs.Taken.{each_taken}
use Rattle.cs_native.proofs.taking.take_objects.Goals as goal

pub loop-object-preserved : goal.loop-object-preserved
loop-object-preserved c =
    each_taken object_encoding c.args.objects.now c.loop-object.object-index c.object-item.result c.update.new.self c.loop-object.hasher c.take_object.new.hasher
    c.loop-object-test.true c.object-item.is c.loop-object.invariant c.take_object.ensures
