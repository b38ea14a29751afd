use Rattle.cs_tx_value.specs.Object.{object_encoding}
use Rattle.cs_table.proofs.ReaderLists.{leaves_exactly}
use Rattle.cs_table.proofs.record.is_left.Goals as goal

pub returns-in-Shared : goal.returns-in-Shared
returns-in-Shared c =
    rw c.in-Shared.is (leaves_exactly c.args.by.now (object_encoding c.in-Shared.field-0) c.in-Shared.readers c.gives_up_seat.result c.gives_up_seat.ensures)
