use Rattle.std.proofs.Common.{ℕ, ◌<◌, List, length, map, get_or, sym, ap, ◌∙◌, arith}
use Rattle.std.proofs.lemmas.List.{length-map}
use Rattle.cs_eval_values.specs.Entries.{named_of}
use Rattle.cs_eval_values.specs.Firsts.{numbers_of, first_place}
use Rattle.cs_eval_values.specs.Namings.{Named, place_named}
use Rattle.cs_eval_values.proofs.Firsting.{first_there, place_by}
use Rattle.cs_eval_values.proofs.names.Names.place.Goals as goal

pub first_of-requires : goal.first_of-requires
first_of-requires c =
    let there : c.in-Some.number < length c.self.inside.firsts.items =
    first_there (numbers_of c.self.inside.numbers) c.self.inside.firsts.items (map named_of c.self.inside.entries.items) c.args.name.now
    c.in-Some.number c.self.invariant (sym c.in-Some.ensures) in
    omega (arith, there, ap length c.as_slice.ensures.value)

pub returns-in-Some : goal.returns-in-Some
returns-in-Some c =
    let inside = c.self.inside in
    c.first_of.ensures
    ∙ ap (λ (fs : List ℕ). first_place (get_or fs c.in-Some.number 0) c.len.result) c.as_slice.ensures.value
    ∙ place_by (numbers_of inside.numbers) inside.firsts.items (map named_of inside.entries.items) c.args.name.now c.in-Some.number
    c.len.result c.self.invariant (sym c.in-Some.ensures) (omega (arith, c.len.ensures, length-map inside.entries.items named_of))
    ∙ ap (λ (ns : List Named). place_named c.args.name.now ns) c.self.view_is
