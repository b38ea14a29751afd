use Rattle.std.proofs.Common.{map, refl, arith}
use Rattle.cs_eval_values.specs.Entries.{named_of}
use Rattle.cs_eval_values.proofs.Naming.{set_none}
use Rattle.cs_eval_values.proofs.names.Names.put.Goals as goal

pub returns-else-place-len : goal.returns-else-place-len
returns-else-place-len c =
    set_none c.args.name.now c.args.held (map named_of c.args.entries.now.items) c.args.entries.now.items c.args.place
    refl c.requires (omega (arith, c.len.ensures, c.if-place-len.false))
