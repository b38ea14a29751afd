-- What is signed of a trace.
use Rattle.std.specs.Prelude.{ℕ, List, []}
use Rattle.cs_hash.specs.Hash.{tagged_digest}
use Rattle.cs_tx_types.specs.declared.trace.Trace.{Trace}
use Rattle.cs_tx_types.specs.Transaction.{trace_encoding}

-- a signature stands in the parameters, so they aren't signed
abbrev pub without_parameters : Trace → Trace
without_parameters t = record t { parameters = [] }

-- the digest of the letter W and the trace without its parameters
abbrev pub message_of_trace : Trace → List ℕ
message_of_trace t = tagged_digest 87 (trace_encoding (without_parameters t))
