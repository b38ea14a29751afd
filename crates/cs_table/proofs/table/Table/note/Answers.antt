use Rattle.std.proofs.Common.{length, true, sym, ap, ◌∙◌, subst}
use Rattle.std.proofs.lemmas.Bool.{both_ways}
use Rattle.cs_tx.specs.Votes.{vote_of}
use Rattle.cs_table.specs.Seen.{seen_record, shown_at, HoldsFit}
use Rattle.cs_table.proofs.Known.{one_more}
use Rattle.cs_tx.specs.Sessions.{key_seen}
use Rattle.cs_table.specs.Changes.{noted_record}
use Rattle.cs_table.proofs.Rows.{becomes_again, gone, with_marks}
use Rattle.cs_table.proofs.Marked.{marks_at, noted_known, noted_other}
use Rattle.cs_table.proofs.table.Table.note.Goals as goal

pub put-requires-clause-gone : goal.put-requires-clause-gone
put-requires-clause-gone c = gone c.args.self.now c.take-row.new.self (key_seen c.args.key.now) c.take-row.ensures.left

pub returns : goal.returns
returns c =
    let change = noted_record c.args.session (vote_of c.args.vote) in
    let shown = becomes_again c.args.self.now c.take-row.new.self c.put.new.self change (key_seen c.args.key.now) (seen_record c.note.new.row) c.take-row.ensures.left c.in_ok-put.ensures.shown (c.in_ok-note.ensures.now ∙ ap change c.take-row.ensures.row) in
    with_marks c.args.self.now c.put.new.self _ shown
    (marks_at c.args.self.now c.take-row.new.self c.put.new.self change (key_seen c.args.key.now) true shown.shows c.take-row.ensures.touched c.in_ok-put.ensures.touched
    (λ unmoved. absurd (both_ways true unmoved (λ i. true)))
    (λ _. noted_other c.args.session (vote_of c.args.vote) (shown_at c.args.self.now c.args.key.now))
    (noted_known c.args.session (vote_of c.args.vote)))

pub put-requires-clause-fits : goal.put-requires-clause-fits
put-requires-clause-fits c = record {
  holds = subst HoldsFit (sym c.in_ok-note.ensures.fits) c.take-row.ensures.fits.holds;
  places = one_more c.take-row.result (length c.note.new.row.book) (shown_at c.args.self.now c.args.key.now) c.take-row.ensures.row c.requires c.in_ok-note.ensures.longer;
}
