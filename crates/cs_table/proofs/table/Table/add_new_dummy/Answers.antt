use Rattle.std.proofs.Common.{◌∙◌, sym, ap, map}
use Rattle.cs_table.specs.Seen.{seen_piece}
use Rattle.cs_table.specs.declared.piece.Piece.{Piece}
use Rattle.cs_base.specs.declared.key.Key.TheVariants.{Dummy}
use Rattle.cs_table.proofs.Calls.{with_new, without_new, new_when, new_unless, stays, one_more, new_piece}
use Rattle.cs_table.proofs.table.Table.add_new_dummy.Goals as goal

pub returns-then-not-makes_dummy-clause-made : goal.returns-then-not-makes_dummy-clause-made
returns-then-not-makes_dummy-clause-made c = without_new c.args.made.now.items _ (new_unless c.args.self.now c.args.dummies.now (sym c.makes_dummy.ensures ∙ c.if-not-makes_dummy.true))

pub returns-then-not-makes_dummy-clause-table : goal.returns-then-not-makes_dummy-clause-table
returns-then-not-makes_dummy-clause-table c = stays c.args.self.now c.args.dummies.now (sym c.makes_dummy.ensures ∙ c.if-not-makes_dummy.true)

pub returns-clause-made : goal.returns-clause-made
returns-clause-made c =
    let p : Piece = record { key = Dummy c.shard-shard.result c.next_serial-serial.result; object = c.in_ok-dummy_object.field-0 } in
    ap (map seen_piece) c.in_ok-push.ensures.items ∙ with_new c.args.made.now.items p _
    (new_when c.args.self.now c.args.dummies.now (sym c.makes_dummy.ensures ∙ c.if-not-makes_dummy.false) ∙ new_piece c.args.self.now c.shard-shard.result c.next_serial-serial.result c.in_ok-dummy_object.field-0 c.shard-shard.ensures c.next_serial-serial.ensures.serial c.in_ok-dummy_object.ensures)

pub returns-clause-table : goal.returns-clause-table
returns-clause-table c = one_more c.args.self.now c.args.dummies.now c.next_serial-serial.new.self (sym c.makes_dummy.ensures ∙ c.if-not-makes_dummy.false) c.next_serial-serial.ensures.table
