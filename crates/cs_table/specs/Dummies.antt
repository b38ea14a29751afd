-- The dummy of a shard that a client is told of.
use Rattle.std.specs.Prelude.{◌≡◌, ℕ, ◌<◌, ◌^◌, Bool, true, false, if◌then◌else◌, List, [], ◌∷◌, Option, Some, None}
use Rattle.cs_base.specs.declared.key.Key.{Key}
use Rattle.cs_tx_types.specs.declared.state.State.{State}
use Rattle.cs_tx_types.specs.declared.state.State.TheVariants as state
use Rattle.cs_ledger.specs.Session as ledger
use Rattle.cs_ledger.specs.Table.{Table, has_active_dummy}
use Rattle.cs_tx_types.specs.declared.record.Record.{Record}

-- an object is there, which no session holds or reads
abbrev pub is_active : State → Bool
is_active (state.Active object) = true
is_active _ = false

-- the first key under which an object is active
abbrev pub first_active : List (Key × Record) → Option Key
first_active [] = None
first_active (row ∷ rows) = if is_active row.1.state then Some row.0 else first_active rows

-- the active dummy of the least serial, or where none is active the one that is made next
pub data IsLeastDummy (shard : ℕ) (t : Table) : ledger.Key → Type 0 where
  Least : (serial : ℕ) → has_active_dummy t shard serial ≡ true
      → ((less : ℕ) → less < serial → has_active_dummy t shard less ≡ false)
      → IsLeastDummy shard t (ledger.Dummy shard serial)
  NoneActive : ((serial : ℕ) → serial < 2 ^ 64 → has_active_dummy t shard serial ≡ false)
      → IsLeastDummy shard t (ledger.Dummy shard t.next)
