use Rattle.std.proofs.Common.{map}
use Rattle.cs_eval_values.specs.Entries.{named_of}
use Rattle.cs_eval_values.specs.Firsts.{numbers_of}
use Rattle.cs_eval_values.proofs.Firsting.{put_kept}
use Rattle.cs_eval_values.proofs.names.Names.set.Goals as goal

pub invariant_of-self : goal.invariant_of-self
invariant_of-self c =
    put_kept (numbers_of c.self.inside.numbers) c.self.inside.firsts.items (map named_of c.self.inside.entries.items) _
    c.args.name.now c.args.held c.self.invariant c.put.ensures
