use Rattle.std.proofs.Common.{◌≤◌, List, length, sym, ap, ◌∙◌, subst}
use Rattle.std.proofs.lemmas.Bool.{both_ways}
use Rattle.cs_base.specs.declared.limits.TheConstants.{MOST_PLACES}
use Rattle.cs_tx_types.specs.Record.{Place}
use Rattle.cs_tx_value.specs.Object.{object_encoding}
use Rattle.cs_table.specs.Seen.{seen_record}
use Rattle.cs_tx.specs.Sessions.{key_seen}
use Rattle.cs_table.specs.Changes.{appeared_record}
use Rattle.cs_table.proofs.Rows.{becomes_again, gone, with_marks}
use Rattle.cs_table.proofs.Marked.{marks_at, appears_known}
use Rattle.cs_table.proofs.table.Table.appear.Goals as goal

pub put-requires-clause-gone : goal.put-requires-clause-gone
put-requires-clause-gone c = gone c.args.self.now c.take-row.new.self (key_seen c.args.key.now) c.take-row.ensures.left

pub returns : goal.returns
returns c =
    let change = appeared_record (object_encoding c.args.object) in
    let is = c.appear-moved.ensures.now ∙ ap change c.take-row.ensures.row in
    let shown = becomes_again c.args.self.now c.take-row.new.self c.put.new.self change (key_seen c.args.key.now) (seen_record c.appear-moved.new.row) c.take-row.ensures.left c.in_ok-put.ensures.shown is in
    with_marks c.args.self.now c.put.new.self _ shown
    (marks_at c.args.self.now c.take-row.new.self c.put.new.self change (key_seen c.args.key.now) c.appear-moved.result shown.shows c.take-row.ensures.touched c.in_ok-put.ensures.touched
    (λ unmoved. sym is ∙ c.appear-moved.ensures.same.0 unmoved ∙ c.take-row.ensures.row)
    (λ moved back. both_ways c.appear-moved.result (c.appear-moved.ensures.same.1 (is ∙ back ∙ sym c.take-row.ensures.row)) moved)
    (appears_known (object_encoding c.args.object)))

pub put-requires-clause-fits : goal.put-requires-clause-fits
put-requires-clause-fits c = record {
  holds = c.appear-moved.ensures.fits c.requires c.take-row.ensures.fits.holds;
  places = subst (λ (book : List Place). length book ≤ MOST_PLACES) (sym c.appear-moved.ensures.book) c.take-row.ensures.fits.places;
}
