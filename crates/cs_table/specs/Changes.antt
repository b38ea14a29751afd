-- What the calls do to one record, and to the records of several keys.
use Rattle.std.specs.Prelude.{◌≡◌, ℕ, true, false, if◌then◌else◌, List, [], ◌∷◌, ◌++◌}
use Rattle.cs_ledger.specs.Ledger.{Bytes}
use Rattle.cs_ledger.specs.Session.{Key, Piece, key_eq, has_key}
use Rattle.cs_ledger.specs.Table.{Vote, State, Inactive, Record, Table, locked, released, joined_by, vacated_by, appeared}
use Rattle.cs_table.specs.declared.change.Change.{Change}
use Rattle.cs_table.specs.declared.change.Change.TheVariants.{Lock, Release, UseUp, Join, Leave}
use Rattle.cs_table.specs.Seen.{Stored, seen, has_key_named, unknown_record}

abbrev pub changed_state : Change → State → State
changed_state (Lock by) state = locked by state
changed_state Release state = released state
changed_state (UseUp by) state = Inactive by
changed_state (Join by) state = joined_by by state
changed_state (Leave by) state = vacated_by by state

abbrev pub with_state : State → Record → Record
with_state state r = record { state = state; book = r.book }

abbrev pub changed_record : Change → Record → Record
changed_record change r = with_state (changed_state change r.state) r

abbrev pub appeared_record : Bytes → Record → Record
appeared_record object r = with_state (appeared object r.state) r

abbrev pub noted_record : Bytes → Vote → Record → Record
noted_record session vote r = record { state = r.state; book = r.book ++ (session, vote) ∷ [] }

-- the record of one key is changed
abbrev pub changed : (Record → Record) → Key → Table → Table
changed change key t = record { at = λ name. if key_eq name key then change (t.at name) else t.at name; next = t.next }

-- the records of these keys, one after the other
abbrev pub changed_each : (Record → Record) → List Piece → Table → Table
changed_each change [] t = t
changed_each change (piece ∷ pieces) t = changed_each change pieces (changed change piece.key t)

-- the records of these keys, but of those that are used up
abbrev pub changed_but : List Piece → (Record → Record) → List Piece → Table → Table
changed_but used change [] t = t
changed_but used change (piece ∷ pieces) t =
    if has_key piece.key used
    then changed_but used change pieces t
    else changed_but used change pieces (changed change piece.key t)

-- these objects come into being, but under keys that are read
abbrev pub appeared_each : List Piece → List Piece → Table → Table
appeared_each read [] t = t
appeared_each read (piece ∷ pieces) t =
    if has_key piece.key read
    then appeared_each read pieces t
    else appeared_each read pieces (changed (appeared_record piece.object) piece.key t)

-- another serial is the next
abbrev pub with_next : ℕ → Table → Table
with_next next t = record { at = t.at; next = next }

-- a stored table shows this now, and is of the same shard
pub record ShowsTable (old new : Stored) (table : Table) : Type 0 where
  pub shows : seen new ≡ table
  pub shards : new.shards ≡ old.shards
  pub shard : new.shard ≡ old.shard

-- A key that isn't touched wasn't so before, and has the record that it had; one that is touched now and wasn't so before
-- has another record than it had; and nothing that was known is forgotten.
pub record MarksTouched (old new : Stored) : Type 0 where
  pub untouched : (name : Key) → has_key_named new.touched name ≡ false →
      (has_key_named old.touched name ≡ false) × ((seen new).at name ≡ (seen old).at name)
  pub touched : (name : Key) → has_key_named new.touched name ≡ true → has_key_named old.touched name ≡ false →
      (seen new).at name ≡ (seen old).at name → ⊥
  pub known : (name : Key) → (seen new).at name ≡ unknown_record → (seen old).at name ≡ unknown_record

-- A stored table became one that shows this, of the same shard, with those keys touched anew whose records changed.
pub record Becomes (old new : Stored) (table : Table) : Type 0 where
  pub shows : seen new ≡ table
  pub shards : new.shards ≡ old.shards
  pub shard : new.shard ≡ old.shard
  pub marks : MarksTouched old new
