-- Digests, and the names that they give to objects.
use Rattle.std.specs.Prelude.{ℕ, ◌+◌, List, [], ◌∷◌, ◌++◌, map}
use Rattle.std.specs.Int.{w16, w32, to_be_bytes}
use Rattle.cs_hash.specs.Hash.{tagged_digest}
use Rattle.cs_base.specs.declared.key.Key.{Key}
use Rattle.cs_base.specs.declared.key.Key.TheVariants as key
use Rattle.cs_tx_value.specs.declared.object.Object.{Object}
use Rattle.cs_tx_value.specs.Object.{object_encoding}
use Rattle.cs_tx_types.specs.declared.trace.Trace.{Trace}
use Rattle.cs_tx_types.specs.declared.transaction.Tx.{Tx}
use Rattle.cs_tx_types.specs.declared.session.Session.{Session}
use Rattle.cs_base.specs.declared.version.Version.{Version}
use Rattle.cs_tx_types.specs.declared.entry.Entry.{Entry}
use Rattle.cs_tx_types.specs.Transaction.{Keyed, tx_encoding}
use Rattle.cs_tx_types.specs.Session.{session_encoding}
use Rattle.cs_tx_types.specs.Entry.{entry_encoding}

-- of encodings, under the letters T, S and E
abbrev pub digest_of_tx : Tx → List ℕ
digest_of_tx tx = tagged_digest 84 (tx_encoding tx)

abbrev pub digest_of_session : Session → List ℕ
digest_of_session x = tagged_digest 83 (session_encoding x)

abbrev pub digest_of_entry : Version → Entry → List ℕ
digest_of_entry version entry = tagged_digest 69 (entry_encoding version entry)

-- the name of the genesis object of this number, under the letter G
abbrev pub name_of_genesis : ℕ → Object → List ℕ
name_of_genesis place object = tagged_digest 71 (to_be_bytes w32 place ++ object_encoding object)

-- the name of an output of the transaction with this digest: by its trace and its place there, under the letter O
abbrev pub name_of_output : List ℕ → ℕ → ℕ → List ℕ
name_of_output digest trace place = tagged_digest 79 (digest ++ (to_be_bytes w16 trace ++ to_be_bytes w16 place))

-- outputs of one trace under their names, the first of them at this place
abbrev pub outputs_at : List ℕ → ℕ → ℕ → List Object → List Keyed
outputs_at digest trace place [] = []
outputs_at digest trace place (object ∷ objects) =
    (name_of_output digest trace place, object) ∷ outputs_at digest trace (place + 1) objects

-- for each of these traces, the first of which has this number, its outputs under their names
abbrev pub outputs_from : List ℕ → ℕ → List Trace → List (List Keyed)
outputs_from digest number [] = []
outputs_from digest number (trace ∷ traces) =
    outputs_at digest number 0 trace.outputs ∷ outputs_from digest (number + 1) traces

abbrev pub keys : List Keyed → List Key
keys items = map (λ item. key.Object item.0) items

-- the keys of a transaction's outputs, a list for each trace
abbrev pub keys_of_outputs : Tx → List (List Key)
keys_of_outputs tx = map keys (outputs_from (digest_of_tx tx) 0 tx.traces)
