use Rattle.std.proofs.Common.{◌↔◌, None, drop}
use Rattle.cs_wire_message.specs.Message.{Rise}
use Rattle.cs_wire_message.proofs.fitting.rise.Given as goal

abbrev pub invariant-loop-echo : goal.invariant-loop-echo
invariant-loop-echo l = Rise l.view l.last (drop l.echo-index l.echoed) ↔ Rise l.view None l.echoed
