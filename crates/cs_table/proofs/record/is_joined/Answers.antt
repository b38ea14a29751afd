use Rattle.cs_tx_value.specs.Object.{object_encoding}
use Rattle.cs_table.proofs.ReaderLists.{joins_exactly}
use Rattle.cs_table.proofs.record.is_joined.Goals as goal

pub returns-in-Shared : goal.returns-in-Shared
returns-in-Shared c =
    rw c.in-Shared.is (joins_exactly c.args.by.now (object_encoding c.in-Shared.field-0) c.in-Shared.readers c.takes_seat.result c.takes_seat.ensures)
