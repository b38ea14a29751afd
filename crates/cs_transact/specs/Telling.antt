-- What is told of a transaction.
use Rattle.std.specs.Prelude.{ℕ, ◌+◌, List, [], ◌∷◌, ◌++◌, codes, Option, Some, None}
use Rattle.cs_tx_value.specs.declared.object.Object.{Object}
use Rattle.cs_tx_types.specs.declared.trace.Trace.{Trace}
use Rattle.cs_tx_types.specs.declared.transaction.Tx.{Tx}
use Rattle.cs_tx_types.specs.declared.session.Session.{Session}
use Rattle.cs_tx_types.specs.Transaction.{tx_encoding}
use Rattle.cs_tx_types.specs.Session.{session_encoding}
use Rattle.cs_tx.specs.Digest.{digest_of_tx, name_of_output}
use Rattle.cs_transact.specs.Lines.{hex_line, message_line, output_line}
use Rattle.cs_native.specs.Message.{message_of_trace}

-- the message of each of these traces, of which the first has this number
abbrev pub messages_text : ℕ → List Trace → List ℕ
messages_text number [] = []
messages_text number (t ∷ ts) = message_line number (message_of_trace t) ++ messages_text (number + 1) ts

-- the names of outputs of one trace, the first of them at this place
abbrev pub names_text : List ℕ → ℕ → ℕ → List Object → List ℕ
names_text digest number place [] = []
names_text digest number place (object ∷ objects) =
    output_line number place (name_of_output digest number place) ++ names_text digest number (place + 1) objects

-- those of these traces
abbrev pub outputs_text : List ℕ → ℕ → List Trace → List ℕ
outputs_text digest number [] = []
outputs_text digest number (t ∷ ts) = names_text digest number 0 t.outputs ++ outputs_text digest (number + 1) ts

-- the session of a number, without dummies
abbrev pub bare_session : ℕ → Tx → Session
bare_session number tx = record { tx = tx; number = number; dummies = [] }

abbrev pub session_text : Option ℕ → Tx → List ℕ
session_text None tx = []
session_text (Some number) tx = hex_line (codes "session") (session_encoding (bare_session number tx))

-- the encoding, the digest, the messages, the names of the outputs, and the session where a number is given
abbrev pub transaction_text : Option ℕ → Tx → List ℕ
transaction_text number tx =
    hex_line (codes "transaction") (tx_encoding tx)
    ++ (hex_line (codes "digest") (digest_of_tx tx)
    ++ (messages_text 0 tx.traces
    ++ (outputs_text (digest_of_tx tx) 0 tx.traces
    ++ session_text number tx)))
