use Rattle.std.proofs.Common.{ℕ, ◌+◌, ◌*◌, Option, List, sym}
use Rattle.cs_order_rules.specs.Slot.{if_enough}
use Rattle.cs_order.proofs.Searches.{first_none, first_at, first_more}
use Rattle.cs_slot.specs.Kept.{Row, said_in}
use Rattle.cs_slot.proofs.rows.agreed.Goals as goal

abbrev found : ℕ → Row → ℕ → Option (List ℕ)
found f row member = if_enough f (said_in row) (said_in row member)

pub loop-member-init : goal.loop-member-init
loop-member-init c = first_none (found c.args.f c.args.row.now)

pub returns-in-Some : goal.returns-in-Some
returns-in-Some c = sym (first_at (3 * c.args.f + 1) c.loop-member.member (found c.args.f c.args.row.now) c.in-Some.digest c.loop-member-test.true c.loop-member.invariant (sym c.in-Some.ensures))

pub loop-member-preserved : goal.loop-member-preserved
loop-member-preserved c = first_more c.loop-member.member (found c.args.f c.args.row.now) c.loop-member.invariant (sym c.in_default.ensures)
