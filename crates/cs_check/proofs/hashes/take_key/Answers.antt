use Rattle.std.proofs.Common.{sym, subst}
use Rattle.cs_check.specs.Leaves.{AreWaiting}
use Rattle.cs_check.proofs.Hashing.{fits_width, waits, waiting_more, takes_some}
use Rattle.cs_check.proofs.hashes.take_key.Goals as goal

pub returns-in_ok-insert-in-Some-clause-fits : goal.returns-in_ok-insert-in-Some-clause-fits
returns-in_ok-insert-in-Some-clause-fits c =
    let key = c.args.key.now in
    subst AreWaiting (sym c.in_ok-insert-in-Some.ensures.entries)
    (waiting_more key c.in_ok-leaf-in-Some.leaf c.args.waiting.now.entries
    (waits key c.in_ok-leaf-in-Some.leaf _ (fits_width key c.key_fits.ensures) c.in_ok-leaf-in-Some.ensures)
    c.requires)

pub returns-in_ok-insert-in-Some-clause-taken : goal.returns-in_ok-insert-in-Some-clause-taken
returns-in_ok-insert-in-Some-clause-taken c =
    takes_some c.args.table.now c.args.key.now c.in-Some.row.now c.in_ok-leaf-in-Some.leaf
    c.args.waiting.now.entries c.insert.new.self.entries (sym c.in-Some.ensures.row) c.in-Some.ensures.stored
    c.in_ok-leaf-in-Some.ensures c.in_ok-insert-in-Some.ensures.updates.0
