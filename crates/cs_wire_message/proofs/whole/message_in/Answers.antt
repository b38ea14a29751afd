use Rattle.std.proofs.Common.{arith}
use Rattle.cs_wire_message.proofs.Wholes.{is_found, is_only}
use Rattle.cs_wire_message.proofs.whole.message_in.Goals as goal

pub returns-clause-found : goal.returns-clause-found
returns-clause-found c = is_found c.args.version c.args.kind c.args.body.now c.read_whole.result (λ i. omega (arith, c.type_inv.body i)) c.read_whole.ensures

pub returns-clause-only : goal.returns-clause-only
returns-clause-only c m h = is_only c.args.version c.args.kind c.args.body.now c.read_whole.result c.read_whole.ensures m h
