use Rattle.std.proofs.Common.{◌≤◌, List, length, sym, ap, ◌∙◌, subst}
use Rattle.std.proofs.lemmas.Bool.{both_ways}
use Rattle.cs_base.specs.declared.limits.TheConstants.{MOST_PLACES}
use Rattle.cs_tx_types.specs.Record.{Place}
use Rattle.cs_table.specs.Seen.{seen_record}
use Rattle.cs_tx.specs.Sessions.{key_seen}
use Rattle.cs_table.specs.Changes.{changed_record}
use Rattle.cs_table.proofs.Rows.{becomes_again, gone, with_marks}
use Rattle.cs_table.proofs.Marked.{marks_at, changed_known}
use Rattle.cs_table.proofs.table.Table.change.Goals as goal

pub put-requires-clause-gone : goal.put-requires-clause-gone
put-requires-clause-gone c = gone c.args.self.now c.take-row.new.self (key_seen c.args.key.now) c.take-row.ensures.left

pub returns : goal.returns
returns c =
    let is = c.in_ok-moved.ensures.now ∙ ap (changed_record c.args.change) c.take-row.ensures.row in
    let shown = becomes_again c.args.self.now c.take-row.new.self c.put.new.self (changed_record c.args.change) (key_seen c.args.key.now) (seen_record c.change.new.row) c.take-row.ensures.left c.in_ok-put.ensures.shown is in
    with_marks c.args.self.now c.put.new.self _ shown
    (marks_at c.args.self.now c.take-row.new.self c.put.new.self (changed_record c.args.change) (key_seen c.args.key.now) c.in_ok-moved.moved shown.shows c.take-row.ensures.touched c.in_ok-put.ensures.touched
    (λ unmoved. sym is ∙ c.in_ok-moved.ensures.same.0 unmoved ∙ c.take-row.ensures.row)
    (λ moved back. both_ways c.in_ok-moved.moved (c.in_ok-moved.ensures.same.1 (is ∙ back ∙ sym c.take-row.ensures.row)) moved)
    (changed_known c.args.change))

pub put-requires-clause-fits : goal.put-requires-clause-fits
put-requires-clause-fits c = record {
  holds = c.in_ok-moved.ensures.fits c.take-row.ensures.fits.holds;
  places = subst (λ (book : List Place). length book ≤ MOST_PLACES) (sym c.in_ok-moved.ensures.book) c.take-row.ensures.fits.places;
}
