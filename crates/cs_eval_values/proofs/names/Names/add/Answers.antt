use Rattle.std.proofs.Common.{◌+◌, map, arith}
use Rattle.cs_eval_values.specs.Entries.{named_of}
use Rattle.cs_eval_values.specs.Firsts.{numbers_of}
use Rattle.cs_eval_values.proofs.Firsting.{pushed, number_there}
use Rattle.cs_eval_values.proofs.names.Names.add.Goals as goal

pub note-requires : goal.note-requires
note-requires c =
    number_there (numbers_of c.self.inside.numbers) c.self.inside.firsts.items (map named_of c.self.inside.entries.items) c.args.name.now
    c.number_in-number.result c.self.invariant c.number_in-number.ensures

pub invariant_of-self-2 : goal.invariant_of-self-2
invariant_of-self-2 c =
    pushed (numbers_of c.self.inside.numbers) c.self.inside.firsts.items c.note.new.firsts.items c.self.inside.entries.items c.push.new.self.items _
    c.number_in-number.result (c.len-names.result + 1) c.self.invariant c.number_in-number.ensures c.in_ok-push.ensures.items
    (omega (arith, c.len-names.ensures)) c.note.ensures
