-- The history that a dump tells, tested against its logs and the plain ledger.
use Rattle.std.specs.Prelude.{ℕ, Bool, not, ◌&&◌, bytes_eq, if◌then◌else◌, List, [], ◌∷◌, ◌++◌, length, map, filter, find, Option, Some, None}
use Rattle.std.specs.List.{flat_map, list_all}
use Rattle.cs_tx_types.specs.declared.action.Action.{Action}
use Rattle.cs_tx_types.specs.declared.action.Action.TheVariants.{Prepare, Decide}
use Rattle.cs_tx_types.specs.declared.session.Session.{Session}
use Rattle.cs_ledger.specs.Ledger.{Bytes, Item, Transaction, Ledger, names, has, all_differ, apart, is_well_formed, ledger_after}
use Rattle.cs_node_state.specs.Setup.{Setup}
use Rattle.cs_audit_dump.specs.declared.dump.Log.{Log}
use Rattle.cs_audit_rules.specs.declared.verdict.Fault.{Fault}
use Rattle.cs_audit_rules.specs.declared.verdict.Rule.TheVariants as rule
use Rattle.cs_audit_rules.specs.Slots.{is_just}
use Rattle.cs_audit_rules.specs.Support.{all_logs_commit}

-- ---- the transactions on which all concerned logs vote commit

abbrev pub prepared_session : Action → List Session
prepared_session (Prepare x) = x ∷ []
prepared_session (Decide vote x) = []

-- the sessions of all Prepares, in the order of shards and slots
abbrev pub sessions_in_logs : List Log → List Session
sessions_in_logs logs = flat_map (λ log. flat_map (λ leaf. prepared_session leaf.action) log.leaves) logs

abbrev pub committed : Setup → List Log → List Session
committed setup logs = filter (all_logs_commit setup logs) (sessions_in_logs logs)

abbrev pub transactions : Setup → List Log → List Transaction
transactions setup logs = map (λ x. (setup.session_of x).transaction) (committed setup logs)

-- the first of this digest
abbrev pub first_with_digest : Bytes → List Transaction → Option Transaction
first_with_digest d txs = find (λ tx. bytes_eq d tx.digest) txs

-- ---- the ledger

abbrev pub holds_all : Ledger → List Item → Bool
holds_all ledger items = list_all (λ item. is_just item.object (ledger.active item.name)) items

-- whether the ledger takes a transaction
abbrev pub takes : Ledger → Transaction → Bool
takes ledger tx =
    (is_well_formed tx && tx.approved)
    && ((holds_all ledger tx.inputs && holds_all ledger tx.references)
    && (apart (names tx.outputs) ledger.created && all_differ (names tx.outputs)))

-- ---- the first fault

abbrev pub history_fault_at : ℕ → Fault
history_fault_at place = record { rule = rule.History; shard = None; slot = place }

-- goes on with the ledger after a transaction, where it is new and the ledger takes it
abbrev pub then_told : Ledger → Bytes → List Bytes → Option Transaction → (Ledger → Option Fault) → Option Fault
then_told ledger d earlier None more = Some (history_fault_at (length earlier))
then_told ledger d earlier (Some tx) more =
    if not (has d earlier) && takes ledger tx
    then more (ledger_after ledger tx)
    else Some (history_fault_at (length earlier))

-- none of the transactions is missing
abbrev pub ends_whole : List Transaction → List Bytes → Option Fault
ends_whole txs earlier =
    if list_all (λ tx. has tx.digest earlier) txs then None else Some (history_fault_at (length earlier))

-- of what is told behind these digests, of which the ledger is this
abbrev pub history_fault : List Transaction → Ledger → List Bytes → List Bytes → Option Fault
history_fault txs ledger earlier [] = ends_whole txs earlier
history_fault txs ledger earlier (d ∷ later) =
    then_told ledger d earlier (first_with_digest d txs) (λ next. history_fault txs next (earlier ++ d ∷ []) later)
