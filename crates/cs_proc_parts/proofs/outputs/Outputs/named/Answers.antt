use Rattle.std.proofs.Common.{arith}
use Rattle.cs_proc_parts.proofs.Filling.{get_past}
use Rattle.cs_proc_parts.proofs.outputs.Outputs.named.Goals as goal

pub returns : goal.returns
returns c =
    get_past c.args.name.now c.args.self.now c.self.inside.entries.items c.place-place.result
    (cc (c.self.view_is)) c.place-place.ensures (omega (arith, c.len.ensures, c.if-place-len.false))
