-- The logs of steps break no rule of slots.
use Rattle.std.proofs.Common.{◌≡◌, inr, ℕ, zero, suc, ◌+◌, ◌/◌, ◌<◌, ◌==◌, Bool, true, false, List, [], ◌∷◌, ◌++◌, length, None, refl, sym, ap, subst, ◌∙◌, arith, length-append}
use Rattle.std.specs.Prelude.{if◌then◌else◌}
use Rattle.std.proofs.lemmas.Bool.{eqb-true}
use Rattle.std.proofs.lemmas.List.{length_push}
use Rattle.cs_tx_types.specs.declared.leaf.Leaf.{Leaf}
use Rattle.cs_base.specs.declared.version.Version.TheVariants.{One}
use Rattle.cs_tx_types.specs.Log.{leaf_encoding}
use Rattle.cs_ledger.specs.Session as Seen
use Rattle.cs_ledger.proofs.Strings.{no_collision_within}
use Rattle.cs_ledger.specs.Table.{Commit, Abort, Effect, Voted, Accepted, Aborted, Skipped, Void, Table, table_of, exec}
use Rattle.cs_ledger.specs.ShardWorld.{log, sessions}
use Rattle.cs_check_rules.specs.Keys.{keys_after}
use Rattle.cs_check_rules.specs.Root.{root_under}
use Rattle.cs_check_rules.specs.Chain.{Log as ChainLog}
use Rattle.cs_table.specs.Effects.{effect_of}
use Rattle.cs_node_state.specs.Bench.{effect_from}
use Rattle.cs_node_state.specs.Setup.{Setup, entry_of, is_fit}
use Rattle.cs_tx_types.specs.Session.{session_in}
use Rattle.cs_world_law.proofs.Counted.{slot-counted}
use Rattle.cs_node_rules.specs.World.{Execution, steps_of, count_executed}
use Rattle.cs_world_law.specs.Steps.{effect_after, executions_of}
use Rattle.cs_world_law.specs.Shown.{leaf_by, leaves_of}
use Rattle.cs_world_law.proofs.Logged.{leaf-count}
use Rattle.cs_audit_rules.specs.Stands.{Stand, start_stand, outcome_of, after_leaf, after_leaves}
use Rattle.cs_audit_rules.specs.Slots.{same_effect, leaves_fault}
use Rattle.cs_audit_rules.proofs.Logs.{Passes, count_stands}
use Rattle.cs_audit_law.specs.Dumped.{dumped_leaves, dumped_stand, all_heads, dumped_log, dumped_logs}
use Rattle.cs_audit_law.specs.Passing.{AreSteps, LogsBreakNoRule}
use Rattle.cs_audit_law.proofs.Behind.{after_one, one_more, one_log}
use Rattle.cs_audit_law.proofs.Growing.{Grows, grows_same, grows_slot, grows_on, HasRoots, roots_slot, count_heads, head_told}
use Rattle.cs_audit_law.proofs.Fit.{step_fits, step_judged}

-- ---- effects

pub effect_back : (e : Effect) → effect_of (effect_from e) ≡ e
effect_back (Voted Commit) = refl
effect_back (Voted Abort) = refl
effect_back Accepted = refl
effect_back Aborted = refl
effect_back Skipped = refl
effect_back Void = refl

effect_own : (e : Effect) → same_effect e e ≡ true
effect_own (Voted Commit) = refl
effect_own (Voted Abort) = refl
effect_own Accepted = refl
effect_own Aborted = refl
effect_own Skipped = refl
effect_own Void = refl

effect_from_same : (a b : Effect) → a ≡ b → same_effect a b ≡ true
effect_from_same a b is = subst (λ (e : Effect). same_effect a e ≡ true) is (effect_own a)

-- ---- the steps before the last

pub earlier_steps : (setup : Setup) (e : Execution) (earlier : List Execution) → AreSteps setup (e ∷ earlier) → AreSteps setup earlier
earlier_steps setup e earlier are = record {
  first = are.first;
  allowed = are.allowed.1;
  computed = are.computed.1;
  apart = no_collision_within setup.rules.genesis (sessions (steps_of setup (e ∷ earlier))) (sessions (steps_of setup earlier)) (λ x within. inr within) are.apart;
}

counted_executions : (shard : ℕ) (firsts : List Execution) → length (executions_of shard firsts) ≡ count_executed shard firsts
counted_executions shard [] = refl
counted_executions shard (e ∷ earlier) = by (e.shard == shard) (counted_executions shard earlier)
  where
    by : (b : Bool) → length (executions_of shard earlier) ≡ count_executed shard earlier
        → length (if b then e ∷ executions_of shard earlier else executions_of shard earlier) ≡ (if b then suc (count_executed shard earlier) else count_executed shard earlier)
    by true same = ap suc same
    by false same = same

module _ (setup : Setup) (shard : ℕ) where
  abbrev start : Stand
  start = start_stand setup shard

  abbrev keys_of : Stand → Leaf → List Seen.Key
  keys_of stand leaf = keys_after setup.rules shard stand.table (entry_of setup leaf.action) stand.keys

  abbrev root_of : Stand → Leaf → List ℕ
  root_of stand leaf = root_under (keys_of stand leaf) (outcome_of setup shard stand.table leaf).table

  -- the table is that of the shard's log
  pub table_there : (firsts : List Execution) → (dumped_stand setup shard firsts).table ≡ table_of setup.rules shard (log shard (steps_of setup firsts))
  table_there [] = refl
  table_there (e ∷ earlier) = by (e.shard == shard) (table_there earlier)
    where
      by : (b : Bool) → (dumped_stand setup shard earlier).table ≡ table_of setup.rules shard (log shard (steps_of setup earlier))
          → (after_leaves setup shard start (leaves_of (if b then e ∷ executions_of shard earlier else executions_of shard earlier))).table
          ≡ table_of setup.rules shard (if b then entry_of setup e.entry ∷ log shard (steps_of setup earlier) else log shard (steps_of setup earlier))
      by true same =
          ap (λ (s : Stand). s.table) (after_one setup shard start (dumped_leaves shard earlier) (leaf_by e))
          ∙ ap (λ (t : Table). (exec setup.rules shard t (entry_of setup e.entry)).table) same
      by false same = same

  -- there is a leaf for each slot
  pub count_there : (firsts : List Execution) → length (dumped_stand setup shard firsts).log.leaves ≡ count_executed shard firsts
  count_there firsts =
      let leaves = dumped_leaves shard firsts in
      let counted : length (dumped_stand setup shard firsts).log.leaves ≡ 0 + length leaves = count_stands setup shard start leaves in
      let leaf_slots : length leaves ≡ count_executed shard firsts = leaf-count (executions_of shard firsts) ∙ counted_executions shard firsts in
      omega arith

  roots_there : (stand : Stand) (leaves : List Leaf) → HasRoots stand.log → HasRoots (after_leaves setup shard stand leaves).log
  roots_there stand [] has = has
  roots_there stand (leaf ∷ leaves) has =
      roots_there (after_leaf setup shard stand leaf) leaves (roots_slot stand.log (leaf_encoding One leaf) (root_of stand leaf) has)

  -- the last step of the shard passes
  last_passes : (final : ChainLog) (e : Execution) (earlier : List Execution) → e.shard ≡ shard → AreSteps setup (e ∷ earlier)
      → Grows (after_leaf setup shard (dumped_stand setup shard earlier) (leaf_by e)).log final
      → Passes setup shard (all_heads final) (dumped_stand setup shard earlier) (leaf_by e)
  last_passes final e earlier here are grows =
      let stand = dumped_stand setup shard earlier in
      let leaves = dumped_leaves shard earlier in
      let next = after_leaf setup shard stand (leaf_by e) in
      let past = steps_of setup earlier in
      let came = are.computed.0 in
      let counted : length stand.log.leaves ≡ 0 + length leaves = count_stands setup shard start leaves in
      let leaf_slots : length leaves ≡ count_executed shard earlier = leaf-count (executions_of shard earlier) ∙ counted_executions shard earlier in
      let next_slot : e.slot ≡ count_executed shard earlier = subst (λ n. e.slot ≡ count_executed n earlier) here (slot-counted setup are.first e earlier are.computed) in
      let effect_is : e.effect ≡ effect_after setup earlier shard e.entry = subst (λ n. e.effect ≡ effect_after setup earlier n e.entry) here came.effect in
      let rooted : HasRoots stand.log = roots_there start leaves refl in
      let one_more_leaf = length-append stand.log.leaves (leaf_encoding One (leaf_by e) ∷ []) in
      record {
        slot = omega arith;
        fit = subst (λ n. is_fit setup n (session_in e.entry) ≡ true) here (step_fits setup past e.shard e.entry are.allowed are.apart.session);
        judged = step_judged setup past e.shard e.entry are.allowed.0;
        result = effect_from_same (effect_of (effect_from e.effect)) (outcome_of setup shard stand.table (leaf_by e)).effect
            (effect_back e.effect ∙ effect_is ∙ ap (λ (t : Table). (exec setup.rules shard t (entry_of setup e.entry)).effect) (sym (table_there earlier)));
        head = head_told next.log final (roots_slot stand.log (leaf_encoding One (leaf_by e)) (root_of stand (leaf_by e)) rooted)
            (let some : 0 < length (stand.log.leaves ++ leaf_encoding One (leaf_by e) ∷ []) = omega arith in some) grows;
      }

  unbroken : (final : ChainLog) (firsts : List Execution) → AreSteps setup firsts → Grows (dumped_stand setup shard firsts).log final
      → leaves_fault setup shard (all_heads final) start (dumped_leaves shard firsts) ≡ None
  unbroken final [] are grows = refl
  unbroken final (e ∷ earlier) are grows = by (e.shard == shard) refl (unbroken final earlier (earlier_steps setup e earlier are)) grows
    where
      by : (b : Bool) → (e.shard == shard) ≡ b
          → (Grows (dumped_stand setup shard earlier).log final → leaves_fault setup shard (all_heads final) start (dumped_leaves shard earlier) ≡ None)
          → Grows (after_leaves setup shard start (leaves_of (if b then e ∷ executions_of shard earlier else executions_of shard earlier))).log final
          → leaves_fault setup shard (all_heads final) start (leaves_of (if b then e ∷ executions_of shard earlier else executions_of shard earlier)) ≡ None
      by true here before grows_here =
          let stand = dumped_stand setup shard earlier in
          let next = after_leaf setup shard stand (leaf_by e) in
          let is = after_one setup shard start (dumped_leaves shard earlier) (leaf_by e) in
          let grows_next : Grows next.log final = subst (λ (s : Stand). Grows s.log final) is grows_here in
          let first : Grows stand.log next.log = grows_slot stand.log (leaf_encoding One (leaf_by e)) (root_of stand (leaf_by e)) in
          one_more setup shard (all_heads final) start (dumped_leaves shard earlier) (leaf_by e)
          (before (grows_on stand.log next.log final first grows_next))
          (last_passes final e earlier (eqb-true e.shard shard here) are grows_next)
      by false here before grows_here = before grows_here

-- ---- a head for every 16 leaves

pub heads_there : (setup : Setup) (firsts : List Execution) (shard : ℕ) → length (all_heads (dumped_stand setup shard firsts).log) ≡ length (dumped_leaves shard firsts) / 16
heads_there setup firsts shard =
    let log = (dumped_stand setup shard firsts).log in
    let leaves = dumped_leaves shard firsts in
    let rooted : length log.table_roots ≡ length log.leaves / 16 = roots_there setup shard (start_stand setup shard) leaves refl in
    let counted : length log.leaves ≡ 0 + length leaves = count_stands setup shard (start_stand setup shard) leaves in
    let made = count_heads log (length log.table_roots) in
    omega arith

pub leaves_count : (setup : Setup) (firsts : List Execution) (shard : ℕ) → length (dumped_leaves shard firsts) ≡ count_executed shard firsts
leaves_count setup firsts shard = leaf-count (executions_of shard firsts) ∙ counted_executions shard firsts

-- ---- the logs of all shards

pub count_logs : (setup : Setup) (firsts : List Execution) (n : ℕ) → length (dumped_logs setup firsts n) ≡ n
count_logs setup firsts zero = refl
count_logs setup firsts (suc n) =
    let more = length_push (dumped_logs setup firsts n) (dumped_log setup firsts n) in
    let before = count_logs setup firsts n in
    omega arith

pub logs_unbroken : LogsBreakNoRule
logs_unbroken setup firsts are zero = refl
logs_unbroken setup firsts are (suc n) =
    let at : n ≡ 0 + length (dumped_logs setup firsts n) = (let count = count_logs setup firsts n in omega arith) in
    let log = (dumped_stand setup n firsts).log in
    one_log setup 0 (dumped_logs setup firsts n) (dumped_log setup firsts n) (logs_unbroken setup firsts are n)
    (subst (λ (k : ℕ). leaves_fault setup k (all_heads log) (start_stand setup k) (dumped_leaves n firsts) ≡ None) at (unbroken setup n log firsts are (grows_same log)))
