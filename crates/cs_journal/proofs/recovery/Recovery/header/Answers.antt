use Rattle.std.proofs.Common.{◌≡◌, length, sym, ◌∙◌, arith}
use Rattle.cs_journal.proofs.Parts.{behind_gate}
use Rattle.cs_journal.proofs.recovery.Recovery.header.Goals as goal

pub returns-clause-header : goal.returns-clause-header
returns-clause-header g c = λ file told whole.
    let size : length c.read.new.buf ≡ 5 = omega arith in
    behind_gate file c.read.new.buf c.args.self.now.at c.header_in.result.0 c.header_in.result.1 size (c.in_ok-read.ensures.bytes file told) (sym c.as_slice.ensures ∙ c.header_in.ensures)
