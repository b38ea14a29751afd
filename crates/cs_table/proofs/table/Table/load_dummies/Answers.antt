use Rattle.std.proofs.Common.{ap}
use Rattle.cs_tx_value.specs.declared.object.Object.{Object}
use Rattle.cs_tx_value.specs.Object.{object_encoding}
use Rattle.cs_tx.specs.Dummies.{dummy_object}
use Rattle.cs_table.proofs.Beginning.{dummies_more}
use Rattle.cs_table.proofs.table.Table.load_dummies.Goals as goal

pub loop-serial-preserved : goal.loop-serial-preserved
loop-serial-preserved c = dummies_more c.args.self.now c.loop-serial.self c.appear.new.self c.args.self.now.shard c.loop-serial.serial c.shard-shard.result c.from.result (object_encoding dummy_object) (object_encoding c.in_ok-object.object) c.shard-shard.ensures c.from.ensures (ap (λ (o : Object). object_encoding o) c.in_ok-object.ensures) c.loop-serial.invariant c.in_ok-appear.ensures
