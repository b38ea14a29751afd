-- The votes in the logs of a dump, and the decisions that they support.
use Rattle.std.specs.Prelude.{ℕ, ◌+◌, Bool, true, ◌&&◌, if◌then◌else◌, List, [], ◌∷◌, Option, Some, None}
use Rattle.std.specs.List.{list_any, list_all, slice_index_or}
use Rattle.cs_base.specs.Options.{or_else}
use Rattle.cs_tx_types.specs.declared.effect.Effect.{Effect}
use Rattle.cs_tx_types.specs.declared.effect.Effect.TheVariants as effect
use Rattle.cs_tx_types.specs.declared.action.Action.TheVariants.{Prepare}
use Rattle.cs_tx_types.specs.declared.leaf.Leaf.{Leaf}
use Rattle.cs_tx_types.specs.declared.session.Session.{Session}
use Rattle.cs_ledger.specs.Ledger.{Bytes}
use Rattle.cs_ledger.specs.ShardWorld.{is_vote}
use Rattle.cs_ledger.specs.Table.{Vote, Commit, Abort}
use Rattle.cs_table.specs.Effects.{effect_of}
use Rattle.cs_node_state.specs.Setup.{Setup, digest_of, concerned, prepares}
use Rattle.cs_tx_types.specs.Session.{session_in}
use Rattle.cs_audit_dump.specs.declared.dump.Log.{Log}
use Rattle.cs_audit_dump.specs.Drafts.{empty_dump_log}
use Rattle.cs_audit_rules.specs.declared.verdict.Fault.{Fault}
use Rattle.cs_audit_rules.specs.declared.verdict.Rule.TheVariants as rule
use Rattle.cs_audit_rules.specs.Slots.{fault_at}

-- ---- votes

-- the log has such a Prepare, with this vote as its result
abbrev pub has_vote : Setup → Vote → Bytes → Log → Bool
has_vote setup vote d log =
    list_any (λ leaf. prepares setup d leaf.action && is_vote vote (effect_of leaf.result)) log.leaves

abbrev pub log_at : List Log → ℕ → Log
log_at logs shard = slice_index_or logs shard empty_dump_log

-- every concerned log has a vote commit on the session
abbrev pub all_logs_commit : Setup → List Log → Session → Bool
all_logs_commit setup logs x =
    list_all (λ shard. has_vote setup Commit (digest_of setup x) (log_at logs shard)) (concerned setup x)

-- a concerned log has a vote abort on it
abbrev pub one_log_aborts : Setup → List Log → Session → Bool
one_log_aborts setup logs x =
    list_any (λ shard. has_vote setup Abort (digest_of setup x) (log_at logs shard)) (concerned setup x)

-- ---- support

-- an accepted session has all commit votes, an aborted one an abort vote
abbrev pub supports : Setup → List Log → Session → Effect → Bool
supports setup logs x (effect.Voted vote) = true
supports setup logs x effect.Accepted = all_logs_commit setup logs x
supports setup logs x effect.Aborted = one_log_aborts setup logs x
supports setup logs x effect.Skipped = true
supports setup logs x effect.Void = true

abbrev pub is_supported : Setup → List Log → Leaf → Bool
is_supported setup logs leaf = supports setup logs (session_in leaf.action) leaf.result

-- ---- the first fault

-- of leaves, the first of which is of this slot
abbrev pub unsupported : Setup → List Log → ℕ → ℕ → List Leaf → Option Fault
unsupported setup logs shard slot [] = None
unsupported setup logs shard slot (leaf ∷ leaves) =
    if is_supported setup logs leaf
    then unsupported setup logs shard (slot + 1) leaves
    else Some (fault_at shard slot rule.Support)

-- of the logs of shards, the first of which has this number
abbrev pub support_fault : Setup → List Log → ℕ → List Log → Option Fault
support_fault setup logs shard [] = None
support_fault setup logs shard (log ∷ more) =
    or_else (unsupported setup logs shard 0 log.leaves) (support_fault setup logs (shard + 1) more)
