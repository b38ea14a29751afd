-- What a table shows of its shard: the records of the definitions, under every key.
use Rattle.std.specs.Prelude.{◌≡◌, ℕ, ◌≤◌, ◌<◌, ◌^◌, Bool, true, List, [], length, map, Option, Some, None, is_some}
use Rattle.std.specs.List.{AllByRecursion, list_any}
use Rattle.std.specs.Map.{lookup}
use Rattle.cs_base.specs.declared.limits.TheConstants.{MOST_PLACES}
use Rattle.cs_base.specs.declared.key.Key.{Key}
use Rattle.cs_tx_value.specs.Object.{object_encoding, ObjectFits}
use Rattle.cs_tx_types.specs.declared.vote.Vote.{Vote}
use Rattle.cs_tx_types.specs.declared.state.State.{State}
use Rattle.cs_tx_types.specs.declared.state.State.TheVariants as state
use Rattle.cs_tx_types.specs.State.{ReadersFit}
use Rattle.cs_ledger.specs.Session as ledger
use Rattle.cs_ledger.specs.Table as table
use Rattle.cs_tx_types.specs.declared.record.Record.{Record}
use Rattle.cs_table.specs.declared.piece.Piece.{Piece}
use Rattle.cs_tx.specs.Sessions.{key_seen}
use Rattle.cs_tx.specs.Votes.{vote_of}

abbrev pub seen_state : State → table.State
seen_state state.Unknown = table.Unknown
seen_state (state.Active object) = table.Active (object_encoding object)
seen_state (state.Locked object by) = table.Locked (object_encoding object) by
seen_state (state.Inactive by) = table.Inactive by
seen_state (state.Shared object readers) = table.Shared (object_encoding object) readers

abbrev pub seen_place : List ℕ × Vote → List ℕ × table.Vote
seen_place place = (place.0, vote_of place.1)

abbrev pub seen_record : Record → table.Record
seen_record r = record { state = seen_state r.state; book = map seen_place r.book }

abbrev pub seen_piece : Piece → ledger.Piece
seen_piece p = record { key = key_seen p.key; object = object_encoding p.object }

-- What a table keeps: its shard among so many, the next serial of a dummy, the records by rising keys, and the touched
-- keys, which rise too: those whose records changed since they were forgotten.
pub record Stored : Type 0 where
  pub shards : ℕ
  pub shard : ℕ
  pub next : ℕ
  pub rows : List (Key × Record)
  pub touched : List Key

abbrev pub is_under : ledger.Key → Key → Bool
is_under name key = ledger.key_eq name (key_seen key)

-- whether a name is that of one of these keys
abbrev pub has_key_named : List Key → ledger.Key → Bool
has_key_named keys name = list_any (is_under name) keys

-- no key is touched
abbrev pub forgotten : Stored → Stored
forgotten s = record s { touched = [] }

-- the stored record of a key
abbrev pub row_in : List (Key × Record) → ledger.Key → Option Record
row_in rows name = lookup (is_under name) rows

-- a key without one is Unknown, with an empty book
abbrev pub unknown_record : table.Record
unknown_record = record { state = table.Unknown; book = [] }

abbrev pub seen_row : Option Record → table.Record
seen_row None = unknown_record
seen_row (Some r) = seen_record r

abbrev pub seen : Stored → table.Table
seen s = record { at = λ name. seen_row (row_in s.rows name); next = s.next }

-- the record that it shows of a key
abbrev pub shown_at : Stored → Key → table.Record
shown_at s key = (seen s).at (key_seen key)

-- the object of a state is within all limits, and so are its readers
abbrev pub HoldsFit : State → Type 0
HoldsFit state.Unknown = Unit {0}
HoldsFit (state.Active object) = ObjectFits object
HoldsFit (state.Locked object by) = ObjectFits object
HoldsFit (state.Inactive by) = Unit {0}
HoldsFit (state.Shared object readers) = ObjectFits object × ReadersFit readers

-- its state is within all limits, and its book has no more places than there may be
pub record IsKeptRecord (r : Record) : Type 0 where
  pub holds : HoldsFit r.state
  pub places : length r.book ≤ MOST_PLACES

-- a record that is stored: something is known of its key
pub record IsStored (r : Record) : Type 0 where
  pub kept : IsKeptRecord r
  pub known : seen_record r ≡ unknown_record → ⊥

abbrev pub RowFits : Option Record → Type 0
RowFits None = Unit {0}
RowFits (Some r) = IsStored r

abbrev pub RowsFit : List (Key × Record) → Type 0
RowsFit rows = (name : ledger.Key) → RowFits (row_in rows name)

-- the numbers of a dummy have 16 and 64 bits
abbrev pub IsKeyInWidth : ledger.Key → Type 0
IsKeyInWidth (ledger.Object name) = Unit {0}
IsKeyInWidth (ledger.Dummy shard serial) = (shard < 2 ^ 16) × (serial < 2 ^ 64)

-- each key that is stored is so
abbrev pub KeysInWidth : List (Key × Record) → Type 0
KeysInWidth rows = (name : ledger.Key) → is_some (row_in rows name) ≡ true → IsKeyInWidth name

pub record IsKeptTable (rows : List (Key × Record)) : Type 0 where
  pub fit : RowsFit rows
  pub widths : KeysInWidth rows

-- each of these records is one that is stored
abbrev pub AllStored : List (Key × Record) → Type 0
AllStored rows = AllByRecursion (λ row. IsStored row.1) rows
