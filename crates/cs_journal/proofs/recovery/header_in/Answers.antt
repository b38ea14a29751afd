use Rattle.std.proofs.Common.{arith}
use Rattle.cs_journal.proofs.Parts.{kind_and_count}
use Rattle.cs_journal.proofs.recovery.header_in.Goals as goal

pub returns : goal.returns
returns c = kind_and_count c.args.front.now c.from_be_bytes-count.result c.requires (λ i. omega (arith, c.type_inv.front i)) c.from_be_bytes-count.ensures
