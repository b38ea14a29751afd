use Rattle.std.proofs.Common.{take}
use Rattle.std.specs.List.{flat_map}
use Rattle.cs_tx.specs.Uses.{names}
use Rattle.cs_ledger.specs.Ledger.{Ledger as Plain}
use Rattle.cs_audit.specs.Ledgers.{ShowsLedger, without}
use Rattle.cs_audit.proofs.ledger.Ledger.use_inputs_up.Given as goal

abbrev pub invariant-loop-trace : goal.invariant-loop-trace
invariant-loop-trace l = (ledger : Plain) → ShowsLedger l.fn.self ledger → ShowsLedger l.self (without (names (flat_map (λ trace. trace.inputs) (take l.trace-index l.traces))) ledger)
