use Rattle.std.proofs.Common.{ap, sym, ◌∙◌}
use Rattle.cs_node_pool.specs.Seats.{pooled_in}
use Rattle.cs_node_pool.proofs.Places.{not-there, found-lookup}
use Rattle.cs_node_pool.proofs.kept.Kept.get.Goals as goal

pub returns-in_default : goal.returns-in_default
returns-in_default c = sym (not-there c.args.digest.now c.args.self.now.seats.entries (sym c.in_default.ensures.value))

pub returns-in-Some-place : goal.returns-in-Some-place
returns-in-Some-place c =
    sym (found-lookup c.args.digest.now c.args.self.now.seats.entries c.requires.unique c.in-Some.place.now (sym c.in-Some.ensures.value) ∙ ap pooled_in c.in-Some-place.is)

pub returns-in-None : goal.returns-in-None
returns-in-None c =
    sym (found-lookup c.args.digest.now c.args.self.now.seats.entries c.requires.unique c.in-Some.place.now (sym c.in-Some.ensures.value) ∙ ap pooled_in c.in-None.is)
