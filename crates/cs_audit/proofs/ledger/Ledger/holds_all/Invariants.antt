use Rattle.std.proofs.Common.{◌≡◌, map, drop}
use Rattle.cs_tx.specs.Sessions.{item_of}
use Rattle.cs_ledger.specs.Ledger.{Ledger as Plain}
use Rattle.cs_audit_rules.specs.History.{holds_all}
use Rattle.cs_audit.specs.Ledgers.{ShowsLedger}
use Rattle.cs_audit.proofs.ledger.Ledger.holds_all.Given as goal

abbrev pub invariant-loop-item : goal.invariant-loop-item
invariant-loop-item l = (ledger : Plain) → ShowsLedger l.self ledger → holds_all ledger (map item_of (drop l.item-index l.items)) ≡ holds_all ledger (map item_of l.items)
