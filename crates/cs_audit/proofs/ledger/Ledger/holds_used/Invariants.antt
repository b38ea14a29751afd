use Rattle.std.proofs.Common.{◌≡◌, drop}
use Rattle.cs_ledger.specs.Ledger.{Ledger as Plain}
use Rattle.cs_audit.specs.Ledgers.{ShowsLedger}
use Rattle.cs_audit.proofs.Shown.{uses_held}
use Rattle.cs_audit.proofs.ledger.Ledger.holds_used.Given as goal

abbrev pub invariant-loop-trace : goal.invariant-loop-trace
invariant-loop-trace l = (ledger : Plain) → ShowsLedger l.self ledger → uses_held ledger (drop l.trace-index l.traces) ≡ uses_held ledger l.traces
