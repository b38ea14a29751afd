use Rattle.cs_table.proofs.Known.{unknown_exactly}
use Rattle.cs_table.proofs.record.is_unknown.Goals as goal

pub returns-in-Unknown : goal.returns-in-Unknown
returns-in-Unknown c =
    unknown_exactly c.args.row.now c.is_empty.result c.in-Unknown.is c.is_empty.ensures
