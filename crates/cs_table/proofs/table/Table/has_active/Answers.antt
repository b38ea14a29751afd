use Rattle.cs_tx.specs.Sessions.{key_seen}
use Rattle.cs_table.proofs.Objects.{active_is}
use Rattle.cs_table.proofs.table.Table.has_active.Goals as goal

pub returns-in-Active : goal.returns-in-Active
returns-in-Active c = active_is c.args.self.now.rows (key_seen c.args.piece.now.key) c.in-Some.row.now c.in-Active.object c.args.piece.now.object c.same.result c.in-Some.ensures.row c.in-Active.is c.requires c.in-Some.ensures.fits c.same.ensures
