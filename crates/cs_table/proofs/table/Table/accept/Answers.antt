use Rattle.std.proofs.Common.{◌∙◌, map}
use Rattle.cs_table.specs.Seen.{seen_piece}
use Rattle.cs_table.proofs.Calls.{accepted_so, made_at, new_at, next_at, carried_at}
use Rattle.cs_table.proofs.table.Table.accept.Goals as goal

pub returns : goal.returns
returns c = λ approves. accepted_so c.args.self.now c.add_new_dummy.new.self c.carry_out.new.self c.args.session.now approves c.args.digest.now (map seen_piece c.args.used.now) (map seen_piece c.args.read.now) c.in_ok-made.made.items c.add_new_dummy.new.made.items
    (c.in_ok-made.ensures.now ∙ made_at c.args.session.now _ _ _ _ c.config.ensures c.shard.ensures)
    (c.in_ok-add_new_dummy.ensures.made ∙ new_at c.args.self.now _ _ c.as_slice.ensures (map seen_piece c.in_ok-made.made.items))
    (next_at c.args.self.now c.add_new_dummy.new.self _ _ c.as_slice.ensures c.in_ok-add_new_dummy.ensures.table)
    (carried_at c.add_new_dummy.new.self c.carry_out.new.self c.args.digest.now (map seen_piece c.args.used.now) (map seen_piece c.args.read.now) _ _ c.as_slice-2.ensures.value c.in_ok-carry_out.ensures)
