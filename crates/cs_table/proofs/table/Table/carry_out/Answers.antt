use Rattle.std.proofs.Common.{map}
use Rattle.cs_table.specs.Seen.{seen_piece}
use Rattle.cs_table.proofs.Executions.{carried}
use Rattle.cs_table.proofs.table.Table.carry_out.Goals as goal

pub returns : goal.returns
returns c = carried c.args.self.now c.change_read.new.self c.change_each.new.self c.appear_each.new.self c.args.session.now (map seen_piece c.args.used.now) (map seen_piece c.args.read.now) (map seen_piece c.args.made.now) c.in_ok-change_read.ensures c.in_ok-change_each.ensures c.in_ok-appear_each.ensures
