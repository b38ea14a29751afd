use Rattle.std.proofs.Common.{◌≡◌, ◌++◌, take, drop}
use Rattle.cs_tx.specs.Uses.{names}
use Rattle.cs_ledger.specs.Ledger.{Ledger as Plain}
use Rattle.cs_audit.specs.Ledgers.{ShowsLedger, with_created}
use Rattle.cs_audit.proofs.Shown.{all_new}
use Rattle.cs_audit.proofs.ledger.Ledger.create.Given as goal

abbrev pub invariant-loop-item : goal.invariant-loop-item
invariant-loop-item l = (ledger : Plain) → ShowsLedger l.fn.self ledger → record {
  shows : ShowsLedger l.self (with_created (names (take l.item-index l.outputs)) ledger);
  left : all_new (ledger.created ++ names (take l.item-index l.outputs)) (names (drop l.item-index l.outputs)) ≡ all_new ledger.created (names l.outputs);
}
