use Rattle.std.proofs.Common.{◌∙◌}
use Rattle.cs_table.proofs.Rows.{find_row, found_fits, found_stored}
use Rattle.cs_table.proofs.table.Table.record.Goals as goal

pub returns-clause-row : goal.returns-clause-row
returns-clause-row c = rw (← c.self.view_is) (c.get.ensures.value ∙ find_row c.self.inside.rows.entries c.args.key.now)

pub returns-clause-fits : goal.returns-clause-fits
returns-clause-fits c = found_fits c.self.inside.rows.entries c.args.key.now c.self.invariant.fit c.get.result c.get.ensures.value

pub returns-clause-stored : goal.returns-clause-stored
returns-clause-stored c = found_stored c.self.inside.rows.entries c.args.key.now c.self.invariant.fit c.get.result c.get.ensures.value
