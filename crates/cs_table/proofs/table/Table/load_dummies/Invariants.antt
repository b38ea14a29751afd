use Rattle.cs_tx_value.specs.Object.{object_encoding}
use Rattle.cs_table.specs.Seen.{seen}
use Rattle.cs_table.specs.Changes.{Becomes}
use Rattle.cs_tx.specs.Dummies.{dummy_object}
use Rattle.cs_table.specs.Genesis.{with_dummy_objects}
use Rattle.cs_table.proofs.table.Table.load_dummies.Given as goal

abbrev pub invariant-loop-serial : goal.invariant-loop-serial
invariant-loop-serial l = Becomes l.initial.self l.self (with_dummy_objects l.initial.self.shard l.serial (object_encoding dummy_object) (seen l.initial.self))
