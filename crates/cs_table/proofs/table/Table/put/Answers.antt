use Rattle.std.proofs.Common.{Some}
use Rattle.std.proofs.lemmas.Bool.{both_ways}
use Rattle.cs_table.proofs.Rows.{becomes, kept_after}
use Rattle.cs_table.proofs.table.Table.put.Goals as goal

pub invariant_of-self-2 : goal.invariant_of-self-2
invariant_of-self-2 c =
    kept_after c.args.key (Some c.args.row) c.self.inside.rows.entries c.insert.new.self.entries c.in_default.ensures.updates.0
    (record {
      kept = c.requires.fits;
      known = λ is. both_ways _ c.if-is_unknown.false (c.is_unknown.ensures.1 is);
    })
    (λ _. c.in_width.ensures)
    c.self.invariant

pub returns-clause-shown : goal.returns-clause-shown
returns-clause-shown c = rw (← c.self.view_is) (becomes _ c.args.key (Some c.args.row) c.insert.new.self.entries c.touch.new.touched.keys c.in_default.ensures.updates.0)
