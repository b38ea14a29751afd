use Rattle.std.proofs.Common.{◌≡◌, ◌∙◌, ◌+◌, Some, length, bytes_eq, refl, subst, arith}
use Rattle.indexmap.proofs.CallerLemmas.{insert_entry-new}
use Rattle.cs_node_pool.specs.declared.kept.Kept.{Kept}
use Rattle.cs_node_pool.specs.Seats.{seats_taken}
use Rattle.cs_node_pool.proofs.Picking.{Marked}
use Rattle.cs_node_pool.proofs.Closing.{sessions-few}
use Rattle.cs_node_pool.proofs.Keeping.{placed-pushed}
use Rattle.cs_node_pool.proofs.kept.Kept.add.Goals as goal

pub overflow_add-self : goal.overflow_add-self
overflow_add-self c =
    let few = sessions-few c.args.self.now.seats.entries in
    let number : c.args.self.now.sessions ≡ seats_taken c.args.self.now.seats.entries = c.requires.placed.sessions in
    omega (arith, few, number, c.len-index.ensures.len, c.len-index.ensures.small)

pub returns-clause-seats : goal.returns-clause-seats
returns-clause-seats c = c.in_ok-insert.ensures.entries ∙ insert_entry-new bytes_eq c.args.self.now.seats c.args.digest (Some c.args.seat) c.requires.way

pub returns-clause-placed : goal.returns-clause-placed
returns-clause-placed c =
    let old : Kept = c.args.self.now in
    let new : Kept = record { seats = c.insert.new.self; sessions = old.sessions + 1; waiting = c.mark.new.chosen; ready = c.mark-2.new.chosen } in
    let len : c.len-index.result ≡ length old.seats.entries = c.len-index.ensures.len in
    placed-pushed old new c.args.digest c.args.seat (c.in_ok-insert.ensures.entries ∙ insert_entry-new bytes_eq old.seats c.args.digest (Some c.args.seat) c.requires.way)
    c.requires.placed c.in_ok-insert.ensures.unique refl
    c.waits.result c.waits.ensures (subst (λ n. Marked old.waiting n c.waits.result new.waiting) len (c.in_ok-mark.ensures.has, c.in_ok-mark.ensures.rising))
    c.is_due.result c.is_due.ensures (subst (λ n. Marked old.ready n c.is_due.result new.ready) len (c.in_ok-mark-2.ensures.has, c.in_ok-mark-2.ensures.rising))
