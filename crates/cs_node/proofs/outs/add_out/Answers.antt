use Rattle.std.proofs.Common.{List, [], ◌∷◌, ◌++◌, ap, ◌∙◌}
use Rattle.cs_ledger.specs.Ledger.{Bytes}
use Rattle.cs_wire.specs.declared.input.Out.{Out}
use Rattle.cs_node.proofs.Sealing.{sealed-so}
use Rattle.cs_node.proofs.outs.add_out.Goals as goal

pub returns-in-Ok : goal.returns-in-Ok
returns-in-Ok c = λ config net speaks reached.
    let grown : Bytes → List Out = λ bytes. c.args.outs.now ++ record { to = c.args.to; bytes = bytes } ∷ [] in
    c.in_ok-push-in-Ok.ensures.ok ∙ ap grown (c.from_vec.ensures ∙ sealed-so config net c.args.keys.now speaks c.args.to c.args.kind c.args.body.now c.new-bytes.result.items _ c.new-bytes.ensures.items c.in-Ok.ensures.ok)
