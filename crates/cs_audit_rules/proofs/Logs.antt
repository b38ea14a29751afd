-- A log of which no rule is broken is sound.
use Rattle.std.proofs.Common.{◌≡◌, inl, inr, ℕ, ◌+◌, ◌-◌, ◌*◌, ◌/◌, ◌%◌, ◌<◌, ◌≤◌, ◌==◌, Bool, true, false, List, [], ◌∷◌, ◌++◌, length, map, Option, Some, None, refl, sym, ap, subst, ◌∙◌, arith, length-append, append-nil}
use Rattle.std.specs.Prelude.{not, if◌then◌else◌, slice_get, option_map}
use Rattle.std.proofs.lemmas.Bool.{and_parts, eqb-true, eqb-false, cases_lt, lt-ltb, le-ltb}
use Rattle.std.proofs.lemmas.Option.{slice_get_past}
use Rattle.cs_tx_types.specs.declared.action.Action.{Action}
use Rattle.cs_tx_types.specs.declared.action.Action.TheVariants.{Prepare, Decide}
use Rattle.cs_tx_types.specs.declared.leaf.Leaf.{Leaf}
use Rattle.cs_base.specs.declared.version.Version.TheVariants.{One}
use Rattle.cs_tx_types.specs.Log.{leaf_encoding}
use Rattle.cs_ledger.specs.Ledger.{Bytes}
use Rattle.cs_ledger.specs.Session as Seen
use Rattle.cs_ledger.specs.ShardWorld.{vote_eq}
use Rattle.cs_ledger.specs.Table.{Vote, Commit, Abort, Effect, Voted, Accepted, Aborted, Skipped, Void, table_after}
use Rattle.cs_ledger.proofs.Basics.{same_bytes}
use Rattle.cs_check_rules.specs.Chain.{Log as ChainLog, with_slot, head_of, checkpoint_of, made_last, chain_head}
use Rattle.cs_check_rules.specs.Keys.{keys_after}
use Rattle.cs_check_rules.specs.Root.{root_under}
use Rattle.cs_check.proofs.Chains.{checkpoint_stays}
use Rattle.cs_table.specs.Effects.{effect_of}
use Rattle.cs_node_state.specs.Setup.{Setup, entry_of, is_fit, is_concerned_shard}
use Rattle.cs_tx_types.specs.Session.{session_in}
use Rattle.cs_audit_dump.specs.declared.dump.Log.{Log}
use Rattle.cs_audit_rules.specs.declared.verdict.Rule.TheVariants as rule
use Rattle.cs_audit_rules.specs.Stands.{Stand, start_stand, outcome_of, after_leaf, after_leaves}
use Rattle.cs_audit_rules.specs.Slots.{is_judged, same_effect, is_result, is_just, is_head, broken_by, fault_at, leaves_fault, log_fault}
use Rattle.cs_audit_rules.specs.Sound.{IsJudged, IsSoundLeaf, IsSoundLog}
use Rattle.cs_audit_rules.proofs.Parts.{neither_there, map_none, passed}

-- ---- one leaf

pub same_vote : (a b : Vote) → vote_eq a b ≡ true → a ≡ b
same_vote Commit Commit is = refl
same_vote Abort Abort is = refl
same_vote Commit Abort is = absurd cc
same_vote Abort Commit is = absurd cc

pub effect_same : (a b : Effect) → same_effect a b ≡ true → a ≡ b
effect_same (Voted v) (Voted w) is = ap Voted (same_vote v w is)
effect_same Accepted Accepted is = refl
effect_same Aborted Aborted is = refl
effect_same Skipped Skipped is = refl
effect_same Void Void is = refl
effect_same (Voted v) Accepted is = absurd cc
effect_same (Voted v) Aborted is = absurd cc
effect_same (Voted v) Skipped is = absurd cc
effect_same (Voted v) Void is = absurd cc
effect_same Accepted (Voted w) is = absurd cc
effect_same Accepted Aborted is = absurd cc
effect_same Accepted Skipped is = absurd cc
effect_same Accepted Void is = absurd cc
effect_same Aborted (Voted w) is = absurd cc
effect_same Aborted Accepted is = absurd cc
effect_same Aborted Skipped is = absurd cc
effect_same Aborted Void is = absurd cc
effect_same Skipped (Voted w) is = absurd cc
effect_same Skipped Accepted is = absurd cc
effect_same Skipped Aborted is = absurd cc
effect_same Skipped Void is = absurd cc
effect_same Void (Voted w) is = absurd cc
effect_same Void Accepted is = absurd cc
effect_same Void Aborted is = absurd cc
effect_same Void Skipped is = absurd cc

pub just_same : (bytes : Bytes) (found : Option Bytes) → is_just bytes found ≡ true → found ≡ Some bytes
just_same bytes None is = absurd cc
just_same bytes (Some other) is = ap Some (sym (same_bytes bytes other is))

judged_so : (setup : Setup) (entry : Action) → is_judged setup entry ≡ true → IsJudged setup entry
judged_so setup (Prepare x) is = is
judged_so setup (Decide vote x) is = tt

module _ (setup : Setup) (shard : ℕ) where
  -- a leaf that breaks no rule
  pub record Passes (heads : List Bytes) (stand : Stand) (leaf : Leaf) : Type 0 where
    pub slot : leaf.slot ≡ length stand.log.leaves
    pub fit : is_fit setup shard (session_in leaf.action) ≡ true
    pub judged : is_judged setup leaf.action ≡ true
    pub result : is_result setup shard stand leaf ≡ true
    pub head : is_head heads (made_last (after_leaf setup shard stand leaf).log) ≡ true

  passes : (heads : List Bytes) (stand : Stand) (leaf : Leaf) → broken_by setup shard heads stand leaf ≡ None → Passes heads stand leaf
  passes heads stand leaf is =
      let head = is_head heads (made_last (after_leaf setup shard stand leaf).log) in
      let after_result = if not head then Some rule.Head else None in
      let after_judge = if not (is_result setup shard stand leaf) then Some rule.Result else after_result in
      let after_form = if not (is_judged setup leaf.action) then Some rule.Judge else after_judge in
      let after_slot = if not (is_fit setup shard (session_in leaf.action)) then Some rule.Form else after_form in
      let slot = passed (leaf.slot == length stand.log.leaves) rule.Slot after_slot is in
      let form = passed (is_fit setup shard (session_in leaf.action)) rule.Form after_form slot.1 in
      let judge = passed (is_judged setup leaf.action) rule.Judge after_judge form.1 in
      let result = passed (is_result setup shard stand leaf) rule.Result after_result judge.1 in
      record {
        slot = eqb-true leaf.slot (length stand.log.leaves) slot.0;
        fit = form.0;
        judged = judge.0;
        result = result.0;
        head = (passed head rule.Head None result.1).0;
      }

  -- ---- the leaves behind others

  unbroken_at : (heads : List Bytes) (stand : Stand) (before : List Leaf) (leaf : Leaf) (later : List Leaf)
      → leaves_fault setup shard heads stand (before ++ leaf ∷ later) ≡ None → Passes heads (after_leaves setup shard stand before) leaf
  unbroken_at heads stand [] leaf later none =
      let rest = leaves_fault setup shard heads (after_leaf setup shard stand leaf) later in
      let first = option_map (fault_at shard (length stand.log.leaves)) (broken_by setup shard heads stand leaf) in
      passes heads stand leaf (map_none (fault_at shard (length stand.log.leaves)) (broken_by setup shard heads stand leaf) (neither_there first rest none).0)
  unbroken_at heads stand (earlier ∷ before) leaf later none =
      let next = after_leaf setup shard stand earlier in
      let rest = leaves_fault setup shard heads next (before ++ leaf ∷ later) in
      let first = option_map (fault_at shard (length stand.log.leaves)) (broken_by setup shard heads stand earlier) in
      unbroken_at heads next before leaf later (neither_there first rest none).1

  table_stands : (stand : Stand) (leaves : List Leaf)
      → (after_leaves setup shard stand leaves).table ≡ table_after setup.rules shard stand.table (map (λ leaf. entry_of setup leaf.action) leaves)
  table_stands stand [] = refl
  table_stands stand (leaf ∷ leaves) = table_stands (after_leaf setup shard stand leaf) leaves

  pub count_stands : (stand : Stand) (leaves : List Leaf) → length (after_leaves setup shard stand leaves).log.leaves ≡ length stand.log.leaves + length leaves
  count_stands stand [] = omega arith
  count_stands stand (leaf ∷ leaves) =
      let next = after_leaf setup shard stand leaf in
      let here : length next.log.leaves ≡ length stand.log.leaves + 1 = length-append stand.log.leaves _ in
      count_stands next leaves ∙ (let so_far : length next.log.leaves + length leaves ≡ length stand.log.leaves + length (leaf ∷ leaves) = omega arith in so_far)

  leaf_sound : (heads : List Bytes) (before : List Leaf) (leaf : Leaf) → Passes heads (after_leaves setup shard (start_stand setup shard) before) leaf
      → IsSoundLeaf setup shard before leaf
  leaf_sound heads before leaf is =
      let start = start_stand setup shard in
      let x = setup.session_of (session_in leaf.action) in
      let fit = and_parts (Seen.well_formed setup.rules x) (is_concerned_shard setup (session_in leaf.action) shard) is.fit in
      let same = table_stands start before in
      record {
        slot = is.slot ∙ count_stands start before ∙ (let zero_first : 0 + length before ≡ length before = omega arith in zero_first);
        formed = fit.0;
        concerned = fit.1;
        judged = judged_so setup leaf.action is.judged;
        result = effect_same (effect_of leaf.result) (outcome_of setup shard (after_leaves setup shard start before).table leaf).effect is.result
            ∙ ap (λ t. (outcome_of setup shard t leaf).effect) same;
      }

  -- ---- heads

  -- a root for every 16 leaves, and the heads told so far are those of the checkpoints
  record HasHeads (heads : List Bytes) (log : ChainLog) : Type 0 where
    pub roots : length log.table_roots ≡ length log.leaves / 16
    pub told : (number : ℕ) → number < length log.table_roots → slice_get heads number ≡ Some (head_of (checkpoint_of log number))

  -- the log with one leaf more, and these roots
  abbrev longer : ChainLog → List ℕ → List (List ℕ) → ChainLog
  longer log leaf roots = record { shard = log.shard; leaves = log.leaves ++ leaf ∷ []; table_roots = roots }

  earlier_heads : (heads : List Bytes) (log : ChainLog) (leaf : List ℕ) (roots more : List (List ℕ)) → HasHeads heads log → roots ≡ log.table_roots ++ more
      → (number : ℕ) → number < length log.table_roots → slice_get heads number ≡ Some (head_of (checkpoint_of (longer log leaf roots) number))
  earlier_heads heads log leaf roots more has are number there =
      let counted = has.roots in
      let enough : 16 * number + 16 ≤ length log.leaves = omega arith in
      has.told number there ∙ ap (λ c. Some (head_of c)) (sym (checkpoint_stays log (longer log leaf roots) (leaf ∷ []) more refl refl are number enough there))

  part_heads : (heads : List Bytes) (log : ChainLog) (leaf : List ℕ) → HasHeads heads log → ((length log.leaves + 1) % 16 == 0) ≡ false
      → HasHeads heads (longer log leaf log.table_roots)
  part_heads heads log leaf has part =
      let more = length-append log.leaves (leaf ∷ []) in
      let counted = has.roots in
      let other : (length log.leaves + 1) % 16 ≡ 0 → ⊥ = eqb-false ((length log.leaves + 1) % 16) 0 part in
      record {
        roots = omega arith;
        told = earlier_heads heads log leaf log.table_roots [] has (sym (append-nil log.table_roots));
      }

  whole_heads : (heads : List Bytes) (log : ChainLog) (leaf root : List ℕ) → HasHeads heads log → ((length log.leaves + 1) % 16 == 0) ≡ true
      → is_head heads (made_last (longer log leaf (log.table_roots ++ root ∷ []))) ≡ true → HasHeads heads (longer log leaf (log.table_roots ++ root ∷ []))
  whole_heads heads log leaf root has whole right =
      let roots = log.table_roots ++ root ∷ [] in
      let new = longer log leaf roots in
      let more = length-append log.leaves (leaf ∷ []) in
      let one_more = length-append log.table_roots (root ∷ []) in
      let counted = has.roots in
      let divides : (length log.leaves + 1) % 16 ≡ 0 = eqb-true ((length log.leaves + 1) % 16) 0 whole in
      let last = length roots - 1 in
      let ends : (length (log.leaves ++ leaf ∷ []) % 16 == 0) ≡ true = ap (λ n. n % 16 == 0) more ∙ whole in
      let made : made_last new ≡ Some (checkpoint_of new last) = rw ends refl in
      let here : slice_get heads last ≡ Some (head_of (checkpoint_of new last)) = just_same (head_of (checkpoint_of new last)) (slice_get heads last) (sym (ap (is_head heads) made) ∙ right) in
      record {
        roots = omega arith;
        told = λ number there. elim (cases_lt number (length log.table_roots)) [
          | inl less ↦ earlier_heads heads log leaf roots (root ∷ []) has refl number less
          | inr not_less ↦ let at : last ≡ number = omega arith in subst (λ k. slice_get heads k ≡ Some (head_of (checkpoint_of new k))) at here
        ];
      }

  next_heads : (heads : List Bytes) (log : ChainLog) (leaf root : List ℕ) → HasHeads heads log → is_head heads (made_last (with_slot leaf root log)) ≡ true
      → HasHeads heads (with_slot leaf root log)
  next_heads heads log leaf root has right = by ((length log.leaves + 1) % 16 == 0) refl right
    where
      by : (b : Bool) → ((length log.leaves + 1) % 16 == 0) ≡ b
          → is_head heads (made_last (longer log leaf (if b then log.table_roots ++ root ∷ [] else log.table_roots))) ≡ true
          → HasHeads heads (longer log leaf (if b then log.table_roots ++ root ∷ [] else log.table_roots))
      by true whole right = whole_heads heads log leaf root has whole right
      by false part right = part_heads heads log leaf has part

  heads_stand : (heads : List Bytes) (stand : Stand) (leaves : List Leaf) → HasHeads heads stand.log → leaves_fault setup shard heads stand leaves ≡ None
      → HasHeads heads (after_leaves setup shard stand leaves).log
  heads_stand heads stand [] has none = has
  heads_stand heads stand (leaf ∷ leaves) has none =
      let next = after_leaf setup shard stand leaf in
      let first = option_map (fault_at shard (length stand.log.leaves)) (broken_by setup shard heads stand leaf) in
      let parts = neither_there first (leaves_fault setup shard heads next leaves) none in
      let is = passes heads stand leaf (map_none (fault_at shard (length stand.log.leaves)) (broken_by setup shard heads stand leaf) parts.0) in
      let t = (outcome_of setup shard stand.table leaf).table in
      let keys = keys_after setup.rules shard stand.table (entry_of setup leaf.action) stand.keys in
      heads_stand heads next leaves (next_heads heads stand.log (leaf_encoding One leaf) (root_under keys t) has is.head) parts.1

  start_heads : (heads : List Bytes) → HasHeads heads (start_stand setup shard).log
  start_heads heads = record { roots = refl; told = λ number there. absurd (omega arith) }

  log_heads : (log : Log) → length log.heads ≡ length log.leaves / 16 → log_fault setup shard log ≡ None → (number : ℕ)
      → slice_get log.heads number ≡ chain_head (after_leaves setup shard (start_stand setup shard) log.leaves).log number
  log_heads log formed none number =
      let start = start_stand setup shard in
      let final = (after_leaves setup shard start log.leaves).log in
      let has = heads_stand log.heads start log.leaves (start_heads log.heads) none in
      let counted : length final.leaves ≡ 0 + length log.leaves = count_stands start log.leaves in
      let rooted = has.roots in
      elim (cases_lt number (length final.table_roots)) [
        | inl less ↦
            let there : chain_head final number ≡ Some (head_of (checkpoint_of final number)) = rw (lt-ltb number (length final.table_roots) less) refl in
            has.told number less ∙ sym there
        | inr more ↦
            let past : length log.heads ≤ number = omega arith in
            let none_there : chain_head final number ≡ None = rw (le-ltb number (length final.table_roots) more) refl in
            slice_get_past log.heads number past ∙ sym none_there
      ]

  pub log_sound : (log : Log) → length log.heads ≡ length log.leaves / 16 → log_fault setup shard log ≡ None → IsSoundLog setup shard log
  log_sound log formed none = record {
    leaves = λ before leaf later split.
        let same : leaves_fault setup shard log.heads (start_stand setup shard) (before ++ leaf ∷ later) ≡ None =
        ap (leaves_fault setup shard log.heads (start_stand setup shard)) (sym split) ∙ none in
        leaf_sound log.heads before leaf (unbroken_at log.heads (start_stand setup shard) before leaf later same);
    heads = log_heads log formed none;
  }
