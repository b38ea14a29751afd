use Rattle.std.proofs.Common.{◌≡◌, ◌++◌, map, drop, length, vec_len}
use Rattle.cs_tx.specs.Sessions.{item_of}
use Rattle.cs_ledger.specs.Ledger.{Ledger as Plain}
use Rattle.cs_audit.specs.Ledgers.{ShowsLedger, with_objects}
use Rattle.cs_audit.proofs.ledger.Ledger.bring.Given as goal

abbrev pub invariant-loop-item : goal.invariant-loop-item
invariant-loop-item l = record {
  all : l.outputs.items ++ drop (length l.outputs.items) l.fn.outputs.items ≡ l.fn.outputs.items;
  shows : (ledger : Plain) → ShowsLedger l.fn.self ledger → ShowsLedger l.self (with_objects (map item_of (drop (length l.outputs.items) l.fn.outputs.items)) ledger);
}

abbrev pub decreases-loop-item : goal.decreases-loop-item
decreases-loop-item l = vec_len l.outputs
