use Rattle.std.proofs.Common.{None, false, refl, sym, ap, ◌∙◌, subst}
use Rattle.std.proofs.lemmas.Bool.{both_ways}
use Rattle.cs_table.proofs.Rows.{find_row, becomes, kept_after}
use Rattle.cs_table.specs.Seen.{seen_row, RowFits}
use Rattle.cs_tx.specs.Sessions.{key_seen}
use Rattle.cs_table.proofs.table.Table.take.Goals as goal

pub invariant_of-self : goal.invariant_of-self
invariant_of-self c = kept_after c.args.key.now None c.self.inside.rows.entries c.remove-row.new.self.entries c.remove-row.ensures.updates.0 tt (λ some. absurd (both_ways false refl some)) c.self.invariant

pub returns-clause-left : goal.returns-clause-left
returns-clause-left c = rw (← c.self.view_is) (becomes _ c.args.key.now None c.remove-row.new.self.entries c.self.inside.touched.keys c.remove-row.ensures.updates.0)

pub returns-clause-row : goal.returns-clause-row
returns-clause-row c = rw (← c.self.view_is) (c.row_or_unknown.ensures.now ∙ ap seen_row (c.remove-row.ensures.value ∙ find_row c.self.inside.rows.entries c.args.key.now))

pub returns-clause-fits : goal.returns-clause-fits
returns-clause-fits c = c.row_or_unknown.ensures.fits (subst (λ row. RowFits row) (sym (c.remove-row.ensures.value ∙ find_row c.self.inside.rows.entries c.args.key.now)) (c.self.invariant.fit (key_seen c.args.key.now)))
