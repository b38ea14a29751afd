use Rattle.std.proofs.Common.{take}
use Rattle.cs_tx.specs.Uses.{names}
use Rattle.cs_ledger.specs.Ledger.{Ledger as Plain}
use Rattle.cs_audit.specs.Ledgers.{ShowsLedger, without}
use Rattle.cs_audit.proofs.ledger.Ledger.use_up.Given as goal

abbrev pub invariant-loop-item : goal.invariant-loop-item
invariant-loop-item l = (ledger : Plain) → ShowsLedger l.fn.self ledger → ShowsLedger l.self (without (names (take l.item-index l.items)) ledger)
