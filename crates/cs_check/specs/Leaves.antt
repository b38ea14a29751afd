-- The leaves that a chain has of a table's records.
use Rattle.std.specs.Prelude.{◌≡◌, ◌++◌, true, false, if◌then◌else◌, List, map, Option, Some, None, is_some}
use Rattle.std.specs.Option.{option_or}
use Rattle.std.specs.List.{AllByRecursion}
use Rattle.std.specs.Map.{lookup}
use Rattle.std.specs.BTreeMap.{is_at}
use Rattle.cs_base.specs.declared.key.Key.{Key}
use Rattle.cs_merkle.specs.Tree.{leaf_hash}
use Rattle.cs_merkle_kept.specs.Leaves.{KeyedHashes, byte_order, leaf_entry}
use Rattle.cs_merkle_kept.specs.declared.leaf.Leaf.{Leaf}
use Rattle.cs_check_rules.specs.Chain.{KeptLog}
use Rattle.cs_tx.specs.Sessions.{key_seen}
use Rattle.cs_ledger.specs.Ledger.{Bytes}
use Rattle.cs_ledger.specs.Session as ledger
use Rattle.cs_ledger.specs.Table.{Record, Table}
use Rattle.cs_table.specs.Seen.{has_key_named, is_under, IsKeyInWidth}
use Rattle.cs_check_rules.specs.Keys.{is_known_record}
use Rattle.cs_check_rules.specs.Root.{ledger_key_bytes, record_bytes}

-- ---- what is kept

-- the hashes of leaves: under encoded keys in a tree, and under keys those that wait to be put there
pub record Hashed : Type 0 where
  pub tree : KeyedHashes
  pub waiting : List (Key × Bytes)

-- what is kept of a log, and the leaves of the records that its last root is over, and of those that changed since
pub record Chained : Type 0 where
  pub kept : KeptLog
  pub hashed : Hashed

abbrev pub leaf_hash_in : KeyedHashes → Bytes → Option Bytes
leaf_hash_in tree key = lookup (is_at (byte_order key)) tree

-- the hash of the leaf of a key, if there is one
abbrev pub leaf_hash_of : Hashed → ledger.Key → Option Bytes
leaf_hash_of h name = option_or (lookup (is_under name) h.waiting) (leaf_hash_in h.tree (ledger_key_bytes name))

-- ---- what a table shows

-- of a key of which something is known the hash of the leaf of its record
abbrev pub leaf_if : ledger.Key → Record → Option Bytes
leaf_if name r = if is_known_record r then Some (leaf_hash (ledger_key_bytes name ++ record_bytes r)) else None

abbrev pub shown_leaf : Table → ledger.Key → Option Bytes
shown_leaf t name = leaf_if name (t.at name)

-- the leaf of every key is that of the table's record, or neither is there
abbrev pub HasLeaves : Hashed → Table → Type 0
HasLeaves h t = (name : ledger.Key) → IsKeyInWidth name → leaf_hash_of h name ≡ shown_leaf t name

-- so of every key that isn't touched; and where the table knows nothing of a key, there is no leaf
pub record HasLeavesBut (touched : List Key) (h : Hashed) (t : Table) : Type 0 where
  pub same : (name : ledger.Key) → IsKeyInWidth name → has_key_named touched name ≡ false →
      leaf_hash_of h name ≡ shown_leaf t name
  pub none : (name : ledger.Key) → IsKeyInWidth name → is_known_record (t.at name) ≡ false → leaf_hash_of h name ≡ None

-- the leaves of these keys are taken over
abbrev pub leaves_taken : Table → List Key → List (Key × Bytes) → ledger.Key → Option Bytes
leaves_taken t keys waiting name =
    if has_key_named keys name
    then option_or (shown_leaf t name) (lookup (is_under name) waiting)
    else lookup (is_under name) waiting

-- ---- what holds of what is kept

-- the leaves that wait, as hashes
abbrev pub hashes_of : List (Key × Leaf) → List (Key × Bytes)
hashes_of waiting = map (λ e. (e.0, (leaf_entry e.1).1)) waiting

-- each stands under its key
pub record IsWaiting (e : Key × Leaf) : Type 0 where
  pub width : IsKeyInWidth (key_seen e.0)
  pub key : (leaf_entry e.1).0 ≡ ledger_key_bytes (key_seen e.0)

abbrev pub AreWaiting : List (Key × Leaf) → Type 0
AreWaiting waiting = AllByRecursion IsWaiting waiting

-- bytes that encode a key
pub record IsKey (bytes : Bytes) : Type 0 where
  pub name : ledger.Key
  pub width : IsKeyInWidth name
  pub is : bytes ≡ ledger_key_bytes name

abbrev pub AreKeys : KeyedHashes → Type 0
AreKeys tree = (bytes : Bytes) → is_some (leaf_hash_in tree bytes) ≡ true → IsKey bytes

pub record LeavesAreHashed (tree : KeyedHashes) (waiting : List (Key × Leaf)) : Type 0 where
  pub keys : AreKeys tree
  pub under_keys : AreWaiting waiting
