-- The root over the records of a table, as the ledger sees it.
use Rattle.std.specs.Prelude.{◌++◌, List, [], ◌∷◌, length, map}
use Rattle.std.specs.Int.{w16, w64, to_be_bytes}
use Rattle.cs_base.specs.Fields.{each, counted}
use Rattle.cs_merkle.specs.Tree.{merkle_tree_hash}
use Rattle.cs_ledger.specs.Ledger.{Bytes}
use Rattle.cs_ledger.specs.Session.{Key, Object, Dummy}
use Rattle.cs_ledger.specs.Table.{Vote, Commit, Abort, State, Unknown, Active, Locked, Inactive, Shared, Record, Table}

-- ---- encodings, where objects are encoded already

abbrev pub ledger_key_bytes : Key → Bytes
ledger_key_bytes (Object name) = 0 ∷ name
ledger_key_bytes (Dummy shard serial) = 1 ∷ (to_be_bytes w16 shard ++ to_be_bytes w64 serial)

abbrev pub state_bytes : State → Bytes
state_bytes Unknown = 0 ∷ []
state_bytes (Active object) = 1 ∷ object
state_bytes (Locked object by) = 2 ∷ (object ++ by)
state_bytes (Inactive by) = 3 ∷ by
state_bytes (Shared object readers) = 4 ∷ (object ++ counted (λ reader. reader) readers)

abbrev pub vote_bytes : Vote → Bytes
vote_bytes Abort = 0 ∷ []
vote_bytes Commit = 1 ∷ []

abbrev pub place_bytes : Bytes × Vote → Bytes
place_bytes place = place.0 ++ vote_bytes place.1

-- the state, the number of places in two bytes, and the places
abbrev pub record_bytes : Record → Bytes
record_bytes r = state_bytes r.state ++ (to_be_bytes w16 (length r.book) ++ each place_bytes r.book)

-- ---- the root

abbrev pub leaf_under : Table → Key → Bytes
leaf_under t key = ledger_key_bytes key ++ record_bytes (t.at key)

-- the Merkle tree hash over the records of these keys, each behind its key
abbrev pub root_under : List Key → Table → Bytes
root_under keys t = merkle_tree_hash (map (leaf_under t) keys)
