-- The pool of a node, in the order of entering: each session under its digest, by which sessions are told apart.
use Rattle.std.specs.Prelude.{ℕ, Bool, true, false, not, nat_lt, if◌then◌else◌, List, [], ◌∷◌, ◌++◌, Option, Some, None, is_some, count_by, bytes_eq}
use Rattle.std.specs.Map.{lookup, remove_entry, set_value, values_of}
use Rattle.cs_base.specs.declared.limits.TheConstants.{MOST_WAITING}
use Rattle.cs_tx_types.specs.declared.session.Session.{Session}
use Rattle.cs_ledger.specs.Ledger.{Bytes}
use Rattle.cs_node_state.specs.declared.ballot.Ballot.{Ballot}
use Rattle.cs_node_state.specs.declared.pooled.Pooled.{Pooled}
use Rattle.cs_node_state.specs.Evidence.{has_voted}

abbrev pub Pool : Type 0
Pool = List (Bytes × Pooled)

abbrev pub found : Bytes → Pool → Option Pooled
found d pool = lookup (bytes_eq d) pool

abbrev pub is_pooled : Bytes → Pool → Bool
is_pooled d pool = is_some (found d pool)

abbrev pub without_session : Bytes → Pool → Pool
without_session d pool = remove_entry (bytes_eq d) pool

-- what a change makes of the session of a digest, where it is pooled
abbrev pub changed_at : Bytes → (Pooled → Pooled) → Pool → Option Pooled → Pool
changed_at d change pool None = pool
changed_at d change pool (Some p) = set_value (bytes_eq d) pool (change p)

abbrev pub pool_changed : Bytes → (Pooled → Pooled) → Pool → Pool
pool_changed d change pool = changed_at d change pool (found d pool)

-- of each node the first vote counts
abbrev pub with_ballot : Ballot → Pooled → Pooled
with_ballot ballot p =
    if has_voted ballot.sender p.ballots
    then p
    else record { session = p.session; locked = p.locked; ballots = p.ballots ++ ballot ∷ [] }

abbrev pub as_locked : Pooled → Pooled
as_locked p = record { session = p.session; locked = true; ballots = p.ballots }

abbrev pub entering : Session → Bool → Pooled
entering x locked = record { session = x; locked = locked; ballots = [] }

-- the session at the end of the pool
abbrev pub pushed : Bytes → Session → Bool → Pool → Pool
pushed d x locked pool = pool ++ (d, entering x locked) ∷ []

-- a session enters as waiting
abbrev pub entered : Bytes → Session → Pool → Pool
entered d x pool = if is_pooled d pool then pool else pushed d x false pool

-- a session is locked: at its old place, or at the end
abbrev pub entered_locked : Bytes → Session → Pool → Pool
entered_locked d x pool = if is_pooled d pool then pool_changed d as_locked pool else pushed d x true pool

abbrev pub waiting_count : Pool → ℕ
waiting_count pool = count_by (λ p. not p.locked) (values_of pool)

-- one more session may wait
abbrev pub pool_has_room : Pool → Bool
pool_has_room pool = nat_lt (waiting_count pool) MOST_WAITING
