use Rattle.cs_node_wire.specs.laws.SlotCarried.{other-read}
use Rattle.cs_node_wire.proofs.slot_carried.SlotOrderCarried.read.Goals as goal

pub returns : goal.returns
returns c =
    other-read c.args.version c.args.message c.in_default.not-Propose c.in_default.not-Echo c.in_default.not-Confirm c.in_default.not-Change c.in_default.not-Done
