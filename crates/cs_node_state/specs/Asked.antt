-- What a client is told of a key, or of a dummy that it may use.
use Rattle.std.specs.Prelude.{ℕ, zero, suc, ◌+◌, ◌^◌, Option, Some, None, if◌then◌else◌}
use Rattle.cs_base.specs.Fields.{whole_at}
use Rattle.cs_base.specs.declared.key.Key.{Key}
use Rattle.cs_base.specs.declared.key.Key.TheVariants as key
use Rattle.cs_tx_value.specs.declared.object.Object.{Object}
use Rattle.cs_tx_value.specs.Object.{object_at}
use Rattle.cs_tx_types.specs.declared.state.State.{State}
use Rattle.cs_tx_types.specs.declared.state.State.TheVariants as state
use Rattle.cs_tx.specs.Sessions.{key_seen}
use Rattle.cs_ledger.specs.Ledger.{Bytes}
use Rattle.cs_ledger.specs.Table as Shard
use Rattle.cs_tx.specs.Dummies.{dummy_object}
use Rattle.cs_ledger.specs.Table.{has_active_dummy}

-- the object of which these bytes are the encoding
abbrev pub object_or_dummy : Option Object → Object
object_or_dummy (Some object) = object
object_or_dummy None = dummy_object

abbrev pub object_of_bytes : Bytes → Object
object_of_bytes bytes = object_or_dummy (whole_at object_at bytes)

abbrev pub state_told : Shard.State → State
state_told Shard.Unknown = state.Unknown
state_told (Shard.Active object) = state.Active (object_of_bytes object)
state_told (Shard.Locked object by) = state.Locked (object_of_bytes object) by
state_told (Shard.Inactive by) = state.Inactive by
state_told (Shard.Shared object readers) = state.Shared (object_of_bytes object) readers

abbrev pub told_at : Shard.Table → Key → State
told_at t key = state_told (t.at (key_seen key)).state

-- the least serial of an active dummy, of so many from this one on, or else the next one
unfoldable pub least_from : Shard.Table → ℕ → ℕ → ℕ → ℕ
least_from t shard zero serial = t.next
least_from t shard (suc more) serial =
    if has_active_dummy t shard serial
    then serial
    else least_from t shard more (serial + 1)

abbrev pub least_dummy : Shard.Table → ℕ → Key
least_dummy t shard = key.Dummy shard (least_from t shard (2 ^ 64) 0)

-- the key that is asked for
abbrev pub key_asked : Shard.Table → ℕ → Option Key → Key
key_asked t shard (Some key) = key
key_asked t shard None = least_dummy t shard
