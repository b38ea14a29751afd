use Rattle.std.proofs.Common.{◌≡◌, take, string_bytes}
use Rattle.std.specs.List.{flat_map}
use Rattle.cs_tx.specs.Lines.{tx_line}
use Rattle.cs_audit.proofs.text.tx_lines.Given as goal

abbrev pub invariant-loop-digest : goal.invariant-loop-digest
invariant-loop-digest l = string_bytes l.text ≡ flat_map tx_line (take l.digest-index l.history)
