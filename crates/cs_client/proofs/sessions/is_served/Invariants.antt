use Rattle.std.proofs.Common.{◌≡◌, drop}
use Rattle.cs_tx.specs.Uses.{names, is_among, inputs_of}
use Rattle.cs_tx_types.specs.Transaction.{tx_of}
use Rattle.cs_client.proofs.sessions.is_served.Given as goal

abbrev pub invariant-loop-trace : goal.invariant-loop-trace
invariant-loop-trace l =
    is_among l.config l.shard (names (inputs_of (tx_of (drop l.trace-index l.tx.traces))))
    ≡ is_among l.config l.shard (names (inputs_of l.tx))
