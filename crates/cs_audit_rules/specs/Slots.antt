-- The rules of a slot, and the first that a shard's log breaks.
use Rattle.std.specs.Prelude.{ℕ, ◌+◌, ◌==◌, Bool, true, false, not, bytes_eq, if◌then◌else◌, List, [], ◌∷◌, length, slice_get, Option, Some, None, option_map}
use Rattle.cs_base.specs.Options.{or_else}
use Rattle.cs_tx_types.specs.declared.checkpoint.Checkpoint.{Checkpoint}
use Rattle.cs_tx_types.specs.declared.action.Action.{Action}
use Rattle.cs_tx_types.specs.declared.action.Action.TheVariants.{Prepare, Decide}
use Rattle.cs_tx_types.specs.declared.leaf.Leaf.{Leaf}
use Rattle.cs_ledger.specs.Ledger.{Bytes}
use Rattle.cs_ledger.specs.ShardWorld.{vote_eq}
use Rattle.cs_ledger.specs.Table.{Effect, Voted, Accepted, Aborted, Skipped, Void}
use Rattle.cs_check_rules.specs.Chain.{head_of, made_last}
use Rattle.cs_table.specs.Effects.{effect_of}
use Rattle.cs_node_state.specs.Setup.{Setup, is_fit, is_session_approved}
use Rattle.cs_tx_types.specs.Session.{session_in}
use Rattle.cs_audit_dump.specs.declared.dump.Log.{Log}
use Rattle.cs_audit_rules.specs.declared.verdict.Fault.{Fault}
use Rattle.cs_audit_rules.specs.declared.verdict.Rule.{Rule}
use Rattle.cs_audit_rules.specs.declared.verdict.Rule.TheVariants as rule
use Rattle.cs_audit_rules.specs.Stands.{Stand, start_stand, outcome_of, after_leaf}

-- ---- the rules

-- a vote is given on an approved transaction
abbrev pub is_judged : Setup → Action → Bool
is_judged setup (Prepare x) = is_session_approved setup x
is_judged setup (Decide vote x) = true

abbrev pub same_effect : Effect → Effect → Bool
same_effect (Voted vote) (Voted other) = vote_eq vote other
same_effect Accepted Accepted = true
same_effect Aborted Aborted = true
same_effect Skipped Skipped = true
same_effect Void Void = true
same_effect _ _ = false

-- the result is what executing the entry comes to
abbrev pub is_result : Setup → ℕ → Stand → Leaf → Bool
is_result setup shard stand leaf =
    same_effect (effect_of leaf.result) (outcome_of setup shard stand.table leaf).effect

-- exactly these bytes are there
abbrev pub is_just : Bytes → Option Bytes → Bool
is_just bytes None = false
is_just bytes (Some other) = bytes_eq bytes other

-- the checkpoint that a slot made has the head that is told under its number
abbrev pub is_head : List Bytes → Option Checkpoint → Bool
is_head heads None = true
is_head heads (Some c) = is_just (head_of c) (slice_get heads c.number)

-- the first rule that a leaf breaks behind those before it
abbrev pub broken_by : Setup → ℕ → List Bytes → Stand → Leaf → Option Rule
broken_by setup shard heads stand leaf =
    if not (leaf.slot == length stand.log.leaves) then Some rule.Slot
    else if not (is_fit setup shard (session_in leaf.action)) then Some rule.Form
    else if not (is_judged setup leaf.action) then Some rule.Judge
    else if not (is_result setup shard stand leaf) then Some rule.Result
    else if not (is_head heads (made_last (after_leaf setup shard stand leaf).log)) then Some rule.Head
    else None

-- ---- the first fault

abbrev pub fault_at : ℕ → ℕ → Rule → Fault
fault_at shard slot broken = record { rule = broken; shard = Some shard; slot = slot }

-- of leaves behind those of which the shard stands so
abbrev pub leaves_fault : Setup → ℕ → List Bytes → Stand → List Leaf → Option Fault
leaves_fault setup shard heads stand [] = None
leaves_fault setup shard heads stand (leaf ∷ leaves) =
    or_else (option_map (fault_at shard (length stand.log.leaves)) (broken_by setup shard heads stand leaf))
    (leaves_fault setup shard heads (after_leaf setup shard stand leaf) leaves)

abbrev pub log_fault : Setup → ℕ → Log → Option Fault
log_fault setup shard log = leaves_fault setup shard log.heads (start_stand setup shard) log.leaves

-- of the logs of shards, the first of which has this number
abbrev pub logs_fault : Setup → ℕ → List Log → Option Fault
logs_fault setup shard [] = None
logs_fault setup shard (log ∷ logs) = or_else (log_fault setup shard log) (logs_fault setup (shard + 1) logs)
