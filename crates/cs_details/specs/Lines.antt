-- What is printed of a session that is submitted, and of a transaction that is accepted.
use Rattle.std.specs.Prelude.{ℕ, ◌+◌, codes, List, [], ◌∷◌, ◌++◌}
use Rattle.std.specs.Fmt.{decimal}
use Rattle.cs_base.specs.Codes.{bytes_text}
use Rattle.cs_base.specs.Key.{shard_of_key}
use Rattle.cs_base.specs.declared.config.Config.{Config}
use Rattle.cs_base.specs.declared.key.Key.TheVariants as key
use Rattle.cs_tx_value.specs.declared.object.Object.{Object}
use Rattle.cs_tx_value.specs.Object.{object_encoding}
use Rattle.cs_tx_types.specs.declared.trace.Trace.{Trace}
use Rattle.cs_tx_types.specs.declared.transaction.Tx.{Tx}
use Rattle.cs_tx_types.specs.declared.session.Session.{Session}
use Rattle.cs_tx_types.specs.Session.{session_encoding}
use Rattle.cs_tx.specs.Digest.{digest_of_tx, name_of_output}
use Rattle.cs_tx.specs.Lines.{tx_line}

-- its encoding, by which it can be asked for again
abbrev pub session_line : Session → List ℕ
session_line x = codes "session " ++ (bytes_text (session_encoding x) ++ codes "\n")

-- an output of this name: its trace, its place there, its key, that key's shard and the object's encoding
abbrev pub named_line : Config → ℕ → ℕ → List ℕ → Object → List ℕ
named_line config trace place name object =
    codes "output " ++ (decimal trace ++ (codes " " ++ (decimal place ++ (codes " " ++ (bytes_text name ++ (codes " "
    ++ (decimal (shard_of_key config.shards (key.Object name)) ++ (codes " "
    ++ (bytes_text (object_encoding object) ++ codes "\n")))))))))

-- the outputs of one trace of a transaction with this digest, the first of them at this place
abbrev pub output_lines : Config → List ℕ → ℕ → ℕ → List Object → List ℕ
output_lines config digest trace place [] = []
output_lines config digest trace place (object ∷ objects) =
    named_line config trace place (name_of_output digest trace place) object
    ++ output_lines config digest trace (place + 1) objects

-- those of these traces, the first of which has this number
abbrev pub trace_lines : Config → List ℕ → ℕ → List Trace → List ℕ
trace_lines config digest number [] = []
trace_lines config digest number (trace ∷ traces) =
    output_lines config digest number 0 trace.outputs ++ trace_lines config digest (number + 1) traces

-- its digest, and then its outputs
abbrev pub tx_lines : Config → Tx → List ℕ
tx_lines config tx = tx_line (digest_of_tx tx) ++ trace_lines config (digest_of_tx tx) 0 tx.traces
