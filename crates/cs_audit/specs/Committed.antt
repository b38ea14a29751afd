-- The committed transactions as they are kept: under the digest of each the place of its first Prepare.
use Rattle.std.specs.Prelude.{◌≡◌, ℕ, Bool, true, false, not, ◌&&◌, bytes_eq, if◌then◌else◌, List, [], ◌∷◌, ◌++◌, find, slice_get, option_map, Option, Some, None, IfSome, IsSome}
use Rattle.std.specs.Map.{lookup}
use Rattle.std.specs.Option.{option_and_then}
use Rattle.cs_tx_types.specs.declared.action.Action.{Action}
use Rattle.cs_tx_types.specs.declared.action.Action.TheVariants.{Prepare, Decide}
use Rattle.cs_tx_types.specs.declared.session.Session.{Session}
use Rattle.cs_tx_types.specs.declared.transaction.Tx.{Tx}
use Rattle.cs_tx.specs.Digest.{digest_of_tx}
use Rattle.cs_ledger.specs.Ledger.{Bytes, Ledger as Plain, has, ledger_after}
use Rattle.cs_node_state.specs.Setup.{Setup}
use Rattle.cs_tx_types.specs.Session.{session_in}
use Rattle.cs_audit_dump.specs.declared.dump.Log.{Log}
use Rattle.cs_audit_rules.specs.Support.{all_logs_commit}
use Rattle.cs_audit.specs.declared.ledger.Ledger.{Ledger}
use Rattle.cs_audit.specs.Ledgers.{ShowsLedger, has_room_for, seen_tx}

-- the transaction of the leaf of a slot, of a shard
abbrev pub tx_in : Log → ℕ → Option Tx
tx_in log slot = option_map (λ leaf. (session_in leaf.action).tx) (slice_get log.leaves slot)

abbrev pub tx_in_logs : List Log → ℕ × ℕ → Option Tx
tx_in_logs logs place = option_and_then (λ log. tx_in log place.1) (slice_get logs place.0)

-- the transaction that is found by its digest
abbrev pub tx_found : List Log → List (Bytes × (ℕ × ℕ)) → Bytes → Option Tx
tx_found logs places d = option_and_then (tx_in_logs logs) (lookup (bytes_eq d) places)

-- the first transaction of this digest
abbrev pub first_tx : Bytes → List Session → Option Tx
first_tx d sessions = option_map (λ x. x.tx) (find (λ x. bytes_eq d (digest_of_tx x.tx)) sessions)

-- a Prepare of a session on which every concerned log has a vote commit
abbrev pub commits : Setup → List Log → Action → Bool
commits setup logs (Prepare x) = all_logs_commit setup logs x
commits setup logs (Decide vote x) = false

-- places of leaves by the digests of their transactions
abbrev pub Places : Type 0
Places = List (Bytes × (ℕ × ℕ))

-- By its digest the first transaction of these sessions is found, unless it was told.
pub record FindsTransactions (logs : List Log) (places : Places) (sessions : List Session) (told : List Bytes) : Type 0 where
  pub found : (d : Bytes) → tx_found logs places d ≡ (if has d told then None else first_tx d sessions)
  pub there : (d : Bytes) → IfSome (lookup (bytes_eq d) places) (λ place. IsSome (tx_in_logs logs place))

-- ---- what is told

-- it is the first transaction of its digest, was not told before, and the ledger has room for it
abbrev pub is_told : (Tx → Bool) → Plain → List Bytes → Bytes → Option Tx → Bool
is_told approves ledger earlier d None = false
is_told approves ledger earlier d (Some tx) = not (has d earlier) && has_room_for ledger (seen_tx approves tx)

pub record GoesOn (logs : List Log) (approves : Tx → Bool) (sessions : List Session) (old : Plain)
    (earlier : List Bytes) (d : Bytes) (places : Places) (new : Ledger) : Type 0 where
  pub tx : Tx
  pub first : first_tx d sessions ≡ Some tx
  pub told : is_told approves old earlier d (Some tx) ≡ true
  pub finds : FindsTransactions logs places sessions (earlier ++ d ∷ [])
  pub shows : ShowsLedger new (ledger_after old (seen_tx approves tx))

-- the places and the ledger go on behind it, or it can't be told
abbrev pub LedgerGoesOn : List Log → (Tx → Bool) → List Session → Plain → List Bytes → Bytes → Places → Ledger → Bool
    → Type 0
LedgerGoesOn logs approves sessions old earlier d places new true = GoesOn logs approves sessions old earlier d places new
LedgerGoesOn logs approves sessions old earlier d places new false =
    is_told approves old earlier d (first_tx d sessions) ≡ false
