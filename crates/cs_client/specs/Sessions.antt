-- The session of a client, and the shards that need a dummy for it.
use Rattle.std.specs.Prelude.{ℕ, nat_lt, Bool, not, List, [], length, filter}
use Rattle.std.specs.List.{list_any}
use Rattle.cs_base.specs.declared.config.Config.{Config}
use Rattle.cs_tx_types.specs.declared.transaction.Tx.{Tx}
use Rattle.cs_tx_types.specs.declared.session.Session.{Session}
use Rattle.cs_tx.specs.Uses.{inputs_of, names, is_among, concerned_shards}

-- one of its traces uses up an object
abbrev pub has_input : Tx → Bool
has_input tx = list_any (λ trace. nat_lt 0 (length trace.inputs)) tx.traces

-- the session of this number, as long as it lacks its dummies
abbrev pub session_without_dummies : Tx → ℕ → Session
session_without_dummies tx number = record { tx = tx; number = number; dummies = [] }

abbrev pub with_dummies : Session → List (ℕ × ℕ) → Session
with_dummies x dummies = record { tx = x.tx; number = x.number; dummies = dummies }

-- the session has no input in the shard
abbrev pub is_bare : Config → Session → ℕ → Bool
is_bare config x shard = not (is_among config shard (names (inputs_of x.tx)))

-- the concerned shards without an input
abbrev pub bare_shards : Config → Session → List ℕ
bare_shards config x = filter (is_bare config x) (concerned_shards config x)
