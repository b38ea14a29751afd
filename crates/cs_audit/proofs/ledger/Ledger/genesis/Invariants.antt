use Rattle.std.proofs.Common.{map, take}
use Rattle.cs_tx.specs.Sessions.{item_of}
use Rattle.cs_table.specs.Genesis.{keyed_of}
use Rattle.cs_ledger.specs.Ledger.{genesis_ledger}
use Rattle.cs_audit.specs.Ledgers.{ShowsLedger}
use Rattle.cs_audit.proofs.ledger.Ledger.genesis.Given as goal

abbrev pub invariant-loop-item : goal.invariant-loop-item
invariant-loop-item l = ShowsLedger l.ledger (genesis_ledger (map item_of (keyed_of (take l.item-index l.items))))
