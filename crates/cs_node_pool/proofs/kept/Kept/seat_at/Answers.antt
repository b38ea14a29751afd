use Rattle.std.proofs.Common.{sym, ◌∙◌}
use Rattle.cs_node_pool.proofs.Places.{entry-got, entry-past}
use Rattle.cs_node_pool.proofs.kept.Kept.seat_at.Goals as goal

pub returns-in_default : goal.returns-in_default
returns-in_default c = sym (entry-past c.args.self.now.seats.entries c.args.index (sym c.in_default.ensures.entry))

pub returns-in-Some-place : goal.returns-in-Some-place
returns-in-Some-place c = sym (entry-got c.args.self.now.seats.entries c.args.index c.in-Some.field-0-0.now c.in-Some.place.now (sym c.in-Some.ensures.entry) ∙ c.in-Some-place.is)

pub returns-in-None : goal.returns-in-None
returns-in-None c = sym (entry-got c.args.self.now.seats.entries c.args.index c.in-Some.field-0-0.now c.in-Some.place.now (sym c.in-Some.ensures.entry) ∙ c.in-None.is)
