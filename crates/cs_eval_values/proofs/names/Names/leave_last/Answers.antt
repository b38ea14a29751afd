use Rattle.std.proofs.Common.{map, arith}
use Rattle.cs_eval_values.specs.Entries.{named_of}
use Rattle.cs_eval_values.specs.Firsts.{numbers_of}
use Rattle.cs_eval_values.proofs.Firsting.{popped, number_there}
use Rattle.cs_eval_values.proofs.names.Names.leave_last.Goals as goal

pub forget-requires : goal.forget-requires
forget-requires c =
    number_there (numbers_of c.self.inside.numbers) c.self.inside.firsts.items (map named_of c.self.inside.entries.items)
    c.in-Some.last.name.now c.number_in-number.result c.self.invariant c.number_in-number.ensures

pub invariant_of-self-2 : goal.invariant_of-self-2
invariant_of-self-2 c =
    popped (numbers_of c.self.inside.numbers) c.self.inside.firsts.items c.forget.new.firsts.items c.self.inside.entries.items c.pop.new.self.items
    c.in-Some.last c.number_in-number.result c.len.result c.self.invariant c.in-Some.ensures.items c.number_in-number.ensures
    (omega (arith, c.len.ensures)) c.forget.ensures
