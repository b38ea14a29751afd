use Rattle.std.proofs.Common.{◌≡◌, drop}
use Rattle.cs_ledger.specs.Ledger.{has}
use Rattle.cs_table.proofs.readers.is_reader.Given as goal

abbrev pub invariant-loop-reader : goal.invariant-loop-reader
invariant-loop-reader l = has l.session (drop l.reader-index l.readers) ≡ has l.session l.readers
