use Rattle.std.proofs.Common.{◌≡◌, true, false, sym, ◌∙◌, subst}
use Rattle.cs_wire_message.specs.Message.{MessageFits}
use Rattle.cs_node_wire.specs.laws.SlotCarried.{fitting-is, unfitting-is}
use Rattle.cs_node_wire.proofs.slot_carried.SlotOrderCarried.write.Goals as goal

pub returns-then-fits-clause-said : goal.returns-then-fits-clause-said
returns-then-fits-clause-said c =
    c.in_ok-written.ensures ∙ fitting-is c.args.version c.args.message.now (subst (MessageFits c.args.version) c.in_ok-written.ensures (c.fits.ensures.0 c.if-fits.true))

pub returns-clause-said : goal.returns-clause-said
returns-clause-said c =
    c.nothing.ensures
    ∙ unfitting-is c.args.version c.args.message.now (λ fits. let q : true ≡ false = sym (c.fits.ensures.1 (subst (MessageFits c.args.version) (sym c.in_ok-written.ensures) fits)) ∙ c.if-fits.false in cc)
