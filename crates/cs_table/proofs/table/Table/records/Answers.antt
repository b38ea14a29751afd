use Rattle.std.proofs.Common.{subst}
use Rattle.cs_table.specs.Seen.{AllStored, KeysInWidth}
use Rattle.cs_table.proofs.Listed.{all_stored}
use Rattle.cs_table.proofs.table.Table.records.Goals as goal

pub returns-clause-stored : goal.returns-clause-stored
returns-clause-stored c =
    subst AllStored c.rows.ensures.rows
    (all_stored c.rows.result.now.entries c.iter.ensures.ordered c.rows.ensures.kept.fit)

pub returns-clause-widths : goal.returns-clause-widths
returns-clause-widths c = subst KeysInWidth c.rows.ensures.rows c.rows.ensures.kept.widths
