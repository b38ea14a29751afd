-- What the ledger sees of a session.
use Rattle.std.specs.Prelude.{ℕ, ◌+◌, Bool, ◌&&◌, is_none, List, [], ◌∷◌, ◌++◌, map}
use Rattle.std.specs.Int.{w16, to_be_bytes}
use Rattle.sha2.specs.Sha256.{sha256}
use Rattle.cs_base.specs.declared.key.Key.{Key}
use Rattle.cs_base.specs.declared.key.Key.TheVariants as key
use Rattle.cs_tx_value.specs.declared.object.Object.{Object}
use Rattle.cs_tx_value.specs.Object.{object_encoding}
use Rattle.cs_tx_types.specs.declared.trace.Trace.{Trace}
use Rattle.cs_tx_types.specs.declared.transaction.Tx.{Tx}
use Rattle.cs_tx_types.specs.declared.session.Session.{Session}
use Rattle.cs_tx_types.specs.Transaction.{Keyed, tx_encoding}
use Rattle.cs_tx_types.specs.Session.{session_encoding}
use Rattle.cs_tx.specs.Uses.{inputs_of, references_of}
use Rattle.cs_tx.specs.WellFormed.{first_failing, has_own_objects, has_earlier_deps}
use Rattle.cs_ledger.specs.Ledger.{Item}
use Rattle.cs_ledger.specs.Session as Seen
use Rattle.cs_ledger.specs.Strings.{Output, Written, WrittenSession, session_from}

-- an object under its name
abbrev pub item_of : Keyed → Item
item_of keyed = record { name = keyed.0; object = object_encoding keyed.1 }

-- outputs of the trace of this number, the first of them at this place
abbrev pub outputs_written_at : ℕ → ℕ → List Object → List Output
outputs_written_at number place [] = []
outputs_written_at number place (object ∷ objects) =
    record { place = to_be_bytes w16 number ++ to_be_bytes w16 place; object = object_encoding object }
    ∷ outputs_written_at number (place + 1) objects

-- those of these traces, the first of which has this number
abbrev pub outputs_written : ℕ → List Trace → List Output
outputs_written number [] = []
outputs_written number (trace ∷ traces) =
    outputs_written_at number 0 trace.outputs ++ outputs_written (number + 1) traces

-- the objects of each trace are of its contract, and it rests on earlier traces alone
abbrev pub is_sound : Tx → Bool
is_sound tx =
    is_none (first_failing has_own_objects 0 tx.traces) && is_none (first_failing has_earlier_deps 0 tx.traces)

abbrev pub written_tx : (Tx → Bool) → Tx → Written
written_tx approves tx = record {
  code = tx_encoding tx;
  inputs = map item_of (inputs_of tx);
  references = map item_of (references_of tx);
  outputs = outputs_written 0 tx.traces;
  sound = is_sound tx;
  approved = approves tx;
}

abbrev pub dummy_name : ℕ × ℕ → Seen.DummyName
dummy_name dummy = record { shard = dummy.0; serial = dummy.1 }

-- a session as it is written, with what the checks say of its transaction
abbrev pub written_of : (Tx → Bool) → Session → WrittenSession
written_of approves x = record {
  code = session_encoding x;
  transaction = written_tx approves x.tx;
  dummies = map dummy_name x.dummies;
}

abbrev pub ledger_session : (Tx → Bool) → Session → Seen.Session
ledger_session approves x = session_from sha256 (written_of approves x)

-- a key as the ledger has it
abbrev pub key_seen : Key → Seen.Key
key_seen (key.Object name) = Seen.Object name
key_seen (key.Dummy shard serial) = Seen.Dummy shard serial
