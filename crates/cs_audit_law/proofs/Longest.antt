-- The longest log of the honest nodes of a shard is that of all first executions of it.
use Rattle.std.proofs.Common.{◌≡◌, ◌⊎◌, inl, inr, ℕ, zero, suc, ◌+◌, ◌*◌, ◌<◌, ◌≤◌, ◌==◌, nat_lt, Bool, true, false, List, [], ◌∷◌, length, refl, sym, ap, subst, ◌∙◌, arith}
use Rattle.std.specs.Prelude.{if◌then◌else◌}
use Rattle.std.specs.List.{filter}
use Rattle.std.proofs.lemmas.Bool.{cases_lt, ltb-true, ltb-false, eqb-true}
use Rattle.std.proofs.lemmas.List.{length_push}
use Rattle.cs_base.specs.declared.node_id.NodeId.{NodeId}
use Rattle.cs_base.specs.NodeId.{members_below}
use Rattle.cs_tx_types.specs.declared.action.Action.{Action}
use Rattle.cs_tx_types.specs.declared.leaf.Leaf.{Leaf}
use Rattle.cs_base.specs.Lists.{IsIn}
use Rattle.cs_ledger.specs.Table.{Table, exec}
use Rattle.cs_ledger.specs.ShardWorld.{log}
use Rattle.cs_ledger.proofs.Basics.{in_left, in_right, in_either}
use Rattle.cs_check_rules.specs.Chain.{Log, empty_log}
use Rattle.cs_node_state.specs.Setup.{Setup, entry_of}
use Rattle.cs_node_state.specs.Bench.{effect_from}
use Rattle.cs_replay_rules.specs.Dumps.{longest, logs_of, shard_log}
use Rattle.cs_node_rules.specs.Signs.{Dropped, Took, Entered, Viewed, Did, Headed, Kept, Sent}
use Rattle.cs_node_rules.specs.Site.{Mark, In, Ordered, Plain, Site, signs_of}
use Rattle.cs_node_rules.specs.World.{Happening, Execution, trail_of, view_of, count_executed}
use Rattle.cs_node_law.specs.Made.{view_at, log_in}
use Rattle.cs_node_law.proofs.Views.{me-same}
use Rattle.cs_world_law.specs.Worlds.{is_honest, signs_at}
use Rattle.cs_world_law.specs.Steps.{AllComputed, executions_of, effect_after}
use Rattle.cs_world_law.specs.Shown.{leaf_by, leaves_of}
use Rattle.cs_world_law.specs.Chain as Chain
use Rattle.cs_world_law.proofs.Older.{older, IsOlder, older-drop, older-all}
use Rattle.cs_base.specs.declared.version.Version.TheVariants.{One}
use Rattle.cs_world_law.proofs.Counted.{slot-counted}
use Rattle.cs_world_law.proofs.SameHeads.{Core, core_of, core_after, core_by, LogBy}
use Rattle.cs_audit_rules.specs.Stands.{Stand, start_stand, after_leaf, after_leaves}
use Rattle.cs_audit_rules.proofs.Parts.{in_filter, of_filter}
use Rattle.cs_audit_law.specs.Dumped.{dumped_leaves, dumped_stand}
use Rattle.cs_audit_law.proofs.Behind.{after_one}
use Rattle.cs_audit_law.proofs.Unbroken.{count_there, table_there}

-- ---- a node's log is a function of its entries

core_is : {M : Type 0} (site : Site M) (me : NodeId) (t : List (Mark M)) → core_of (view_at site me t).bench ≡ core_by site.setup me.shard (log_in (signs_of t))
core_is {M} site me [] = refl
core_is {M} site me (In input ∷ t) = core_is site me t
core_is {M} site me (Ordered deed ∷ t) = core_is site me t
core_is {M} site me (Plain (Dropped cause) ∷ t) = core_is site me t
core_is {M} site me (Plain (Took sender vote x) ∷ t) = core_is site me t
core_is {M} site me (Plain (Entered x) ∷ t) = core_is site me t
core_is {M} site me (Plain (Viewed slot view) ∷ t) = core_is site me t
core_is {M} site me (Plain (Headed number head) ∷ t) = core_is site me t
core_is {M} site me (Plain (Kept index checkpoint) ∷ t) = core_is site me t
core_is {M} site me (Plain (Sent to message) ∷ t) = core_is site me t
core_is {M} site me (Plain (Did slot place entry effect) ∷ t) =
    ap (λ (k : Core). core_after site.setup (view_at site me t).me.shard k entry) (core_is site me t)
    ∙ ap (λ (n : NodeId). core_after site.setup n.shard (core_by site.setup me.shard (log_in (signs_of t))) entry) (me-same site me t)

count_by : (setup : Setup) (shard : ℕ) (entries : List Action) → length (LogBy setup shard entries).leaves ≡ length entries
count_by setup shard [] = refl
count_by setup shard (entry ∷ past) =
    let before = count_by setup shard past in
    length_push (LogBy setup shard past).leaves _ ∙ (let one_more : length (LogBy setup shard past).leaves + 1 ≡ length (entry ∷ past) = omega arith in one_more)

-- ---- and so is what the leaves of first executions come to

module _ (setup : Setup) (first : setup.version ≡ One) (shard : ℕ) where
  abbrev core_in : Stand → Core
  core_in s = (s.table, (s.keys, s.log))

  abbrev leaf_after : Core → Action → Leaf
  leaf_after core entry = record {
    slot = length core.1.1.leaves;
    place = 0;
    action = entry;
    result = effect_from (exec setup.rules shard core.0 (entry_of setup entry)).effect;
  }

  pub stand_core : (firsts : List Execution) → AllComputed setup firsts → core_in (dumped_stand setup shard firsts) ≡ core_by setup shard (Chain.shard_entries shard firsts)
  stand_core [] computed = refl
  stand_core (e ∷ earlier) computed = by (e.shard == shard) refl (stand_core earlier computed.1)
    where
      by : (b : Bool) → (e.shard == shard) ≡ b → core_in (dumped_stand setup shard earlier) ≡ core_by setup shard (Chain.shard_entries shard earlier)
          → core_in (after_leaves setup shard (start_stand setup shard) (leaves_of (if b then e ∷ executions_of shard earlier else executions_of shard earlier)))
          ≡ core_by setup shard (if b then e.entry ∷ Chain.shard_entries shard earlier else Chain.shard_entries shard earlier)
      by false other same = same
      by true is same =
          let stand = dumped_stand setup shard earlier in
          let here = eqb-true e.shard shard is in
          let next_slot : e.slot ≡ count_executed shard earlier = subst (λ n. e.slot ≡ count_executed n earlier) here (slot-counted setup first e earlier computed) in
          let slot_is : e.slot ≡ length stand.log.leaves = next_slot ∙ sym (count_there setup shard earlier) in
          let effect_is : e.effect ≡ effect_after setup earlier shard e.entry = subst (λ n. e.effect ≡ effect_after setup earlier n e.entry) here computed.0.effect in
          let comes : e.effect ≡ (exec setup.rules shard stand.table (entry_of setup e.entry)).effect =
          effect_is ∙ ap (λ (t : Table). (exec setup.rules shard t (entry_of setup e.entry)).effect) (sym (table_there setup shard earlier)) in
          let leaf_is : leaf_by e ≡ leaf_after (core_in stand) e.entry = λ i. record { slot = slot_is i; place = 0; action = e.entry; result = effect_from (comes i) } in
          ap core_in (after_one setup shard (start_stand setup shard) (dumped_leaves shard earlier) (leaf_by e))
          ∙ ap (λ (leaf : Leaf). core_in (after_leaf setup shard stand leaf)) leaf_is
          ∙ ap (λ (k : Core). core_after setup shard k e.entry) same

-- ---- the longest of logs

record IsLongest (first : Log) (logs : List Log) (found : Log) : Type 0 where
  pub there : (found ≡ first) ⊎ IsIn found logs
  pub over_first : length first.leaves ≤ length found.leaves
  pub over : (log : Log) → IsIn log logs → length log.leaves ≤ length found.leaves

longest_is : (first : Log) (logs : List Log) → IsLongest first logs (longest first logs)
longest_is first [] = record { there = inl refl; over_first = omega arith; over = λ log within. absurd within }
longest_is first (log ∷ logs) = by (nat_lt (length first.leaves) (length log.leaves)) refl (longest_is log logs) (longest_is first logs)
  where
    by : (b : Bool) → nat_lt (length first.leaves) (length log.leaves) ≡ b → IsLongest log logs (longest log logs) → IsLongest first logs (longest first logs)
        → IsLongest first (log ∷ logs) (longest (if b then log else first) logs)
    by true less rest other_rest =
        let below : length first.leaves < length log.leaves = ltb-true (length first.leaves) (length log.leaves) less in
        let over_log = rest.over_first in
        record {
          there = inr rest.there;
          over_first = omega arith;
          over = λ other within. elim within [
            | inl same ↦ subst (λ (l : Log). length l.leaves ≤ length (longest log logs).leaves) (sym same) over_log
            | inr later ↦ rest.over other later
          ];
        }
    by false not_less other_rest rest =
        let at_least : length log.leaves ≤ length first.leaves = ltb-false (length first.leaves) (length log.leaves) not_less in
        let over_first = rest.over_first in
        record {
          there = elim rest.there [ inl same ↦ inl same | inr later ↦ inr (inr later) ];
          over_first = over_first;
          over = λ other within. elim within [
            | inl same ↦ subst (λ (l : Log). length l.leaves ≤ length (longest first logs).leaves) (sym same) (let bound : length log.leaves ≤ length (longest first logs).leaves = omega arith in bound)
            | inr later ↦ rest.over other later
          ];
        }

-- ---- the logs of a shard

older_none : (entries : List Action) → older 0 entries ≡ []
older_none [] = refl
older_none (entry ∷ entries) = older-drop 0 entry entries (omega arith) ∙ older_none entries

member_there : (shard n index : ℕ) → index < n → IsIn (record { shard = shard; index = index }) (members_below shard n)
member_there shard zero index less = absurd (omega arith)
member_there shard (suc n) index less =
    elim (cases_lt index n) [
      | inl below ↦ in_left _ (members_below shard n) _ (member_there shard n index below)
      | inr not_below ↦ let at : index ≡ n = omega arith in in_right _ (members_below shard n) _ (inl (λ i. record { shard = shard; index = at i }))
    ]

member_shard : (shard n : ℕ) (i : NodeId) → IsIn i (members_below shard n) → i.shard ≡ shard
member_shard shard zero i within = absurd within
member_shard shard (suc n) i within =
    elim (in_either i (members_below shard n) (record { shard = shard; index = n } ∷ []) within) [
      | inl before ↦ member_shard shard n i before
      | inr last ↦ elim last [ inl same ↦ ap (λ (z : NodeId). z.shard) same | inr none ↦ absurd none ]
    ]

module _ {M : Type 0} (site : Site M) (world : List (Happening M)) where
  of_logs : (log : Log) (names : List NodeId) → IsIn log (logs_of site world names) → (i : NodeId) × (IsIn i names) × (log ≡ (view_of site world i).bench.log)
  of_logs log [] within = absurd within
  of_logs log (i ∷ names) (inl same) = (i, inl refl, same)
  of_logs log (i ∷ names) (inr later) = let rest = of_logs log names later in (rest.0, inr rest.1, rest.2)

  in_logs : (i : NodeId) (names : List NodeId) → IsIn i names → IsIn (view_of site world i).bench.log (logs_of site world names)
  in_logs i [] within = absurd within
  in_logs i (j ∷ names) (inl same) = inl (ap (λ (z : NodeId). (view_of site world z).bench.log) same)
  in_logs i (j ∷ names) (inr later) = inr (in_logs i names later)

  abbrev entries_at : NodeId → List Action
  entries_at i = log_in (signs_at i world)

  log_by : (i : NodeId) → (view_of site world i).bench.log ≡ LogBy site.setup i.shard (entries_at i)
  log_by i = ap (λ (k : Core). k.1.1) (core_is site i (trail_of i world))

  -- an honest node that has executed all of its shard
  pub record HasAll (shard : ℕ) (all : List Action) : Type 0 where
    pub node : NodeId
    pub honest : is_honest site node ≡ true
    pub here : node.shard ≡ shard
    pub index : node.index < 3 * site.setup.f + 1
    pub enough : length all ≤ length (entries_at node)

  module _ (shard : ℕ) (all : List Action)
      (parts : (i : NodeId) → is_honest site i ≡ true → i.shard ≡ shard → IsOlder (entries_at i) all)
      (source : 0 < length all → HasAll shard all) where
    abbrev names : List NodeId
    names = filter site.net.is_honest (members_below shard (3 * site.setup.f + 1))

    -- each log is that of a part
    record IsPartLog (found : Log) : Type 0 where
      pub part : List Action
      pub is : found ≡ LogBy site.setup shard part
      pub older : IsOlder part all

    empty_part : IsPartLog (empty_log shard)
    empty_part = record { part = []; is = refl; older = record { shorter = omega arith; is = sym (older_none all) } }

    part_there : (log : Log) → IsIn log (logs_of site world names) → IsPartLog log
    part_there log within =
        let of = of_logs log names within in
        let passed = of_filter site.net.is_honest of.0 (members_below shard (3 * site.setup.f + 1)) of.1 in
        let here = member_shard shard (3 * site.setup.f + 1) of.0 passed.0 in
        record {
          part = entries_at of.0;
          is = of.2 ∙ log_by of.0 ∙ ap (λ n. LogBy site.setup n (entries_at of.0)) here;
          older = parts of.0 passed.1 here;
        }

    found_part : IsPartLog (shard_log site world shard)
    found_part =
        let found = longest_is (empty_log shard) (logs_of site world names) in
        elim found.there [
          | inl same ↦ subst IsPartLog (sym same) empty_part
          | inr within ↦ part_there (longest (empty_log shard) (logs_of site world names)) within
        ]

    enough : length all ≤ length (shard_log site world shard).leaves
    enough = elim (cases_lt 0 (length all)) [
      | inl some ↦
          let has = source some in
          let node_is : record { shard = shard; index = has.node.index } ≡ has.node = λ i. record { shard = sym has.here i; index = has.node.index } in
          let member = subst (λ (z : NodeId). IsIn z (members_below shard (3 * site.setup.f + 1))) node_is (member_there shard (3 * site.setup.f + 1) has.node.index has.index) in
          let named = in_filter site.net.is_honest has.node (members_below shard (3 * site.setup.f + 1)) member has.honest in
          let over = (longest_is (empty_log shard) (logs_of site world names)).over (view_of site world has.node).bench.log (in_logs has.node names named) in
          let count : length (view_of site world has.node).bench.log.leaves ≡ length (entries_at has.node) = ap (λ (l : Log). length l.leaves) (log_by has.node) ∙ count_by site.setup has.node.shard (entries_at has.node) in
          let has_enough = has.enough in
          omega arith
      | inr none ↦ omega arith
    ]

    pub longest_whole : shard_log site world shard ≡ LogBy site.setup shard all
    longest_whole =
        let found = found_part in
        let least = enough in
        let count : length (shard_log site world shard).leaves ≡ length found.part = ap (λ (l : Log). length l.leaves) found.is ∙ count_by site.setup shard found.part in
        let whole : found.part ≡ all = found.older.is ∙ older-all (length found.part) all (omega arith) in
        found.is ∙ ap (LogBy site.setup shard) whole
