-- The leaves of first executions have encodings, and stand in the log of their checkpoints.
use Rattle.std.proofs.Common.{◌≡◌, inl, inr, ℕ, zero, suc, ◌+◌, ◌-◌, ◌<◌, ◌≤◌, ◌^◌, ◌==◌, Bool, true, false, List, [], ◌∷◌, ◌++◌, length, map, Option, Some, None, refl, sym, ap, subst, ◌∙◌, arith, append_assoc, append-nil}
use Rattle.std.specs.Prelude.{if◌then◌else◌}
use Rattle.std.specs.List.{All}
use Rattle.std.proofs.lemmas.List.Elements.{All-nil, All-push}
use Rattle.std.proofs.lemmas.Bool.{eqb-true}
use Rattle.cs_base.specs.Lists.{IsIn}
use Rattle.cs_base.specs.declared.node_id.NodeId.{NodeId}
use Rattle.cs_tx_types.specs.declared.action.Action.{Action}
use Rattle.cs_tx_types.specs.declared.leaf.Leaf.{Leaf}
use Rattle.cs_base.specs.declared.version.Version.TheVariants.{One}
use Rattle.cs_tx_types.specs.Log.{leaf_encoding, LeafFits}
use Rattle.cs_tx_types.specs.Session.{ActionFits}
use Rattle.cs_ledger.specs.Ledger.{Bytes}
use Rattle.cs_node_state.specs.Setup.{Setup}
use Rattle.cs_node_rules.specs.Signs.{Sign, Dropped, Took, Entered, Viewed, Did, Headed, Kept, Sent}
use Rattle.cs_node_rules.specs.Ready.{Executed}
use Rattle.cs_node_rules.specs.World.{Execution, count_executed}
use Rattle.cs_node_law.specs.Made.{log_in}
use Rattle.cs_world_law.specs.Steps.{AllComputed, executions_of}
use Rattle.cs_world_law.specs.Shown.{leaf_by, leaves_of}
use Rattle.cs_world_law.specs.Chain as Chain
use Rattle.cs_world_law.proofs.Older.{at_slot, at-more, at-last}
use Rattle.cs_world_law.proofs.Firsts.{counted-entries}
use Rattle.cs_world_law.proofs.Counted.{slot-counted}
use Rattle.cs_audit_rules.specs.Stands.{Stand, start_stand, after_leaf, after_leaves}
use Rattle.cs_audit_law.specs.Dumped.{dumped_leaves, dumped_stand}

-- ---- the leaves of a log

leaves_after : (setup : Setup) (shard : ℕ) (stand : Stand) (leaves : List Leaf) → (after_leaves setup shard stand leaves).log.leaves ≡ stand.log.leaves ++ map (leaf_encoding One) leaves
leaves_after setup shard stand [] = sym (append-nil stand.log.leaves)
leaves_after setup shard stand (leaf ∷ leaves) =
    leaves_after setup shard (after_leaf setup shard stand leaf) leaves ∙ append_assoc stand.log.leaves (leaf_encoding One leaf ∷ []) (map (leaf_encoding One) leaves)

pub leaves_there : (setup : Setup) (firsts : List Execution) (shard : ℕ) → (dumped_stand setup shard firsts).log.leaves ≡ map (leaf_encoding One) (dumped_leaves shard firsts)
leaves_there setup firsts shard = leaves_after setup shard (start_stand setup shard) (dumped_leaves shard firsts)

-- ---- what stands in a node's log it executed

more : (sign : Sign) (signs : List Sign) (entry : Action) → Executed signs entry → Executed (sign ∷ signs) entry
more sign signs entry e = record { slot = e.slot; place = e.place; effect = e.effect; later = sign ∷ e.later; earlier = e.earlier; split = ap (λ (l : List Sign). sign ∷ l) e.split }

pub executed_at : (signs : List Sign) (slot : ℕ) (entry : Action) → at_slot (log_in signs) slot ≡ Some entry → Executed signs entry
executed_at [] slot entry is = absurd cc
executed_at (Dropped cause ∷ past) slot entry is = more (Dropped cause) past entry (executed_at past slot entry is)
executed_at (Took sender vote x ∷ past) slot entry is = more (Took sender vote x) past entry (executed_at past slot entry is)
executed_at (Entered x ∷ past) slot entry is = more (Entered x) past entry (executed_at past slot entry is)
executed_at (Viewed s view ∷ past) slot entry is = more (Viewed s view) past entry (executed_at past slot entry is)
executed_at (Headed number head ∷ past) slot entry is = more (Headed number head) past entry (executed_at past slot entry is)
executed_at (Kept index checkpoint ∷ past) slot entry is = more (Kept index checkpoint) past entry (executed_at past slot entry is)
executed_at (Sent to message ∷ past) slot entry is = more (Sent to message) past entry (executed_at past slot entry is)
executed_at (Did s place other effect ∷ past) slot entry is = by (slot == length (log_in past)) (executed_at past slot entry) is
  where
    by : (b : Bool) → (at_slot (log_in past) slot ≡ Some entry → Executed past entry) → (if b then Some other else at_slot (log_in past) slot) ≡ Some entry → Executed (Did s place other effect ∷ past) entry
    by true before here =
        let same : other ≡ entry = (let q : Some other ≡ Some entry = here in cc) in
        record { slot = s; place = place; effect = effect; later = []; earlier = past; split = ap (λ (e : Action). Did s place e effect ∷ past) same }
    by false before here = more (Did s place other effect) past entry (before here)

-- ---- they fit

module _ (setup : Setup) (first : setup.version ≡ One) (shard : ℕ) where
  pub leaves_fit : (firsts : List Execution) → AllComputed setup firsts
      → ((slot : ℕ) (entry : Action) → at_slot (Chain.shard_entries shard firsts) slot ≡ Some entry → ActionFits entry)
      → length (Chain.shard_entries shard firsts) ≤ 2 ^ 64 → All (LeafFits One) (dumped_leaves shard firsts)
  leaves_fit [] computed fit few = All-nil (LeafFits One)
  leaves_fit (e ∷ earlier) computed fit few = by (e.shard == shard) refl (leaves_fit earlier computed.1) fit few
    where
      by : (b : Bool) → (e.shard == shard) ≡ b
          → (((slot : ℕ) (entry : Action) → at_slot (Chain.shard_entries shard earlier) slot ≡ Some entry → ActionFits entry) → length (Chain.shard_entries shard earlier) ≤ 2 ^ 64 → All (LeafFits One) (dumped_leaves shard earlier))
          → ((slot : ℕ) (entry : Action) → at_slot (if b then e.entry ∷ Chain.shard_entries shard earlier else Chain.shard_entries shard earlier) slot ≡ Some entry → ActionFits entry)
          → length (if b then e.entry ∷ Chain.shard_entries shard earlier else Chain.shard_entries shard earlier) ≤ 2 ^ 64
          → All (LeafFits One) (leaves_of (if b then e ∷ executions_of shard earlier else executions_of shard earlier))
      by false other before fits small = before fits small
      by true is before fits small =
          let log = Chain.shard_entries shard earlier in
          let here = eqb-true e.shard shard is in
          let next : e.slot ≡ count_executed shard earlier = subst (λ n. e.slot ≡ count_executed n earlier) here (slot-counted setup first e earlier computed) in
          let count : count_executed shard earlier ≡ length log = counted-entries shard earlier in
          let below : e.slot < 2 ^ 64 = omega arith in
          let bound : length log ≤ 2 ^ 64 = omega arith in
          All-push (LeafFits One) (dumped_leaves shard earlier) (leaf_by e) (before (λ slot entry at. fits slot entry (at-more e.entry log slot entry at)) bound)
          (record { slot = below; place = refl; action = fits (length log) e.entry (at-last e.entry log (length log) refl) })
