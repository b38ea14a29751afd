use Rattle.std.proofs.Common.{map}
use Rattle.cs_table.specs.Seen.{seen_piece}
use Rattle.cs_table.proofs.Executions.{locked}
use Rattle.cs_table.proofs.table.Table.lock.Goals as goal

pub returns : goal.returns
returns c = locked c.args.self.now c.change_each.new.self c.change_read.new.self c.args.session.now (map seen_piece c.args.used.now) (map seen_piece c.args.read.now) c.in_ok-change_each.ensures c.in_ok-change_read.ensures
