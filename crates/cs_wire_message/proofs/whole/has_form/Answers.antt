use Rattle.std.proofs.Common.{refl, arith}
use Rattle.cs_wire_message.specs.Body.{message_whole}
use Rattle.cs_wire_message.proofs.Wholes.{tells}
use Rattle.cs_wire_message.proofs.whole.has_form.Goals as goal

pub returns : goal.returns
returns c = rw c.passes.ensures (tells c.args.version c.args.kind c.args.body.now (message_whole c.args.version c.args.kind c.args.body.now) (λ i. omega (arith, c.type_inv.body i)) refl)
