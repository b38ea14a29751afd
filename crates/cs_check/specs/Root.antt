-- The root over the records of a table.
use Rattle.std.specs.Prelude.{ℕ, List, map}
use Rattle.cs_base.specs.declared.key.Key.{Key}
use Rattle.cs_tx_types.specs.declared.record.Record.{Record}
use Rattle.cs_tx_types.specs.declared.stored.Stored.{Stored}
use Rattle.cs_tx_types.specs.Record.{stored_encoding}
use Rattle.cs_merkle.specs.Tree.{merkle_tree_hash}
use Rattle.cs_tx.specs.Sessions.{key_seen}
use Rattle.cs_ledger.specs.Session as ledger

-- a record with its key
abbrev pub stored_row : Key × Record → Stored
stored_row row = record { key = row.0; value = row.1 }

-- the encodings of all records, in the order of their keys
abbrev pub record_leaves : List (Key × Record) → List (List ℕ)
record_leaves rows = map (λ row. stored_encoding (stored_row row)) rows

-- the Merkle tree hash over them
abbrev pub table_root : List (Key × Record) → List ℕ
table_root rows = merkle_tree_hash (record_leaves rows)

-- the keys under which something is stored, as the ledger sees them
abbrev pub keys_in : List (Key × Record) → List ledger.Key
keys_in rows = map (λ row. key_seen row.0) rows
