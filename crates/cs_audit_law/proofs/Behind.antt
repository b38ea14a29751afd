-- One leaf more, behind those of a log.
use Rattle.std.proofs.Common.{◌≡◌, ℕ, ◌+◌, ◌==◌, Bool, true, false, List, [], ◌∷◌, ◌++◌, length, Option, Some, None, refl, subst, arith}
use Rattle.std.specs.Prelude.{not, if◌then◌else◌, option_map}
use Rattle.std.proofs.lemmas.Bool.{eq-eqb}
use Rattle.cs_base.specs.Options.{or_else}
use Rattle.cs_tx_types.specs.declared.leaf.Leaf.{Leaf}
use Rattle.cs_ledger.specs.Ledger.{Bytes}
use Rattle.cs_check_rules.specs.Chain.{made_last}
use Rattle.cs_node_state.specs.Setup.{Setup, is_fit}
use Rattle.cs_tx_types.specs.Session.{session_in}
use Rattle.cs_audit_dump.specs.declared.dump.Log.{Log}
use Rattle.cs_audit_rules.specs.declared.verdict.Rule.TheVariants as rule
use Rattle.cs_audit_rules.specs.Stands.{Stand, after_leaf, after_leaves}
use Rattle.cs_audit_rules.specs.Slots.{is_judged, is_result, is_head, broken_by, fault_at, leaves_fault, log_fault, logs_fault}
use Rattle.cs_audit_rules.proofs.Parts.{neither_there}
use Rattle.cs_audit_rules.proofs.Logs.{Passes}

pub none_of : {A : Type 0} (first later : Option A) → first ≡ None → later ≡ None → or_else first later ≡ None
none_of None later here there = there
none_of (Some x) later here there = absurd cc

pub none_mapped : {A B : Type 0} (f : A → B) (o : Option A) → o ≡ None → option_map f o ≡ None
none_mapped f None is = refl
none_mapped f (Some x) is = absurd cc

-- a test that passed tells nothing
passing : {A : Type 0} (test : Bool) (a : A) (more : Option A) → test ≡ true → more ≡ None → (if not test then Some a else more) ≡ None
passing true a more is none = none
passing false a more is none = absurd cc

module _ (setup : Setup) (shard : ℕ) where
  -- a leaf that passes breaks no rule
  unbroken_by : (heads : List Bytes) (stand : Stand) (leaf : Leaf) → Passes setup shard heads stand leaf → broken_by setup shard heads stand leaf ≡ None
  unbroken_by heads stand leaf is =
      let head = is_head heads (made_last (after_leaf setup shard stand leaf).log) in
      let after_result = if not head then Some rule.Head else None in
      let after_judge = if not (is_result setup shard stand leaf) then Some rule.Result else after_result in
      let after_form = if not (is_judged setup leaf.action) then Some rule.Judge else after_judge in
      let after_slot = if not (is_fit setup shard (session_in leaf.action)) then Some rule.Form else after_form in
      passing (leaf.slot == length stand.log.leaves) rule.Slot after_slot (eq-eqb leaf.slot (length stand.log.leaves) is.slot)
      (passing (is_fit setup shard (session_in leaf.action)) rule.Form after_form is.fit
      (passing (is_judged setup leaf.action) rule.Judge after_judge is.judged
      (passing (is_result setup shard stand leaf) rule.Result after_result is.result
      (passing head rule.Head None is.head refl))))

  pub after_one : (stand : Stand) (leaves : List Leaf) (leaf : Leaf)
      → after_leaves setup shard stand (leaves ++ leaf ∷ []) ≡ after_leaf setup shard (after_leaves setup shard stand leaves) leaf
  after_one stand [] leaf = refl
  after_one stand (earlier ∷ leaves) leaf = after_one (after_leaf setup shard stand earlier) leaves leaf

  pub one_more : (heads : List Bytes) (stand : Stand) (leaves : List Leaf) (leaf : Leaf) → leaves_fault setup shard heads stand leaves ≡ None
      → Passes setup shard heads (after_leaves setup shard stand leaves) leaf → leaves_fault setup shard heads stand (leaves ++ leaf ∷ []) ≡ None
  one_more heads stand [] leaf none is =
      none_of (option_map (fault_at shard (length stand.log.leaves)) (broken_by setup shard heads stand leaf)) None
      (none_mapped (fault_at shard (length stand.log.leaves)) (broken_by setup shard heads stand leaf) (unbroken_by heads stand leaf is)) refl
  one_more heads stand (earlier ∷ leaves) leaf none is =
      let next = after_leaf setup shard stand earlier in
      let first = option_map (fault_at shard (length stand.log.leaves)) (broken_by setup shard heads stand earlier) in
      let parts = neither_there first (leaves_fault setup shard heads next leaves) none in
      none_of first (leaves_fault setup shard heads next (leaves ++ leaf ∷ [])) parts.0 (one_more heads next leaves leaf parts.1 is)

-- one log more
pub one_log : (setup : Setup) (shard : ℕ) (logs : List Log) (log : Log) → logs_fault setup shard logs ≡ None → log_fault setup (shard + length logs) log ≡ None
    → logs_fault setup shard (logs ++ log ∷ []) ≡ None
one_log setup shard [] log none here =
    let at : shard + 0 ≡ shard = omega arith in
    none_of (log_fault setup shard log) None (subst (λ (n : ℕ). log_fault setup n log ≡ None) at here) refl
one_log setup shard (first ∷ logs) log none here =
    let at : shard + length (first ∷ logs) ≡ shard + 1 + length logs = omega arith in
    let parts = neither_there (log_fault setup shard first) (logs_fault setup (shard + 1) logs) none in
    none_of (log_fault setup shard first) (logs_fault setup (shard + 1) (logs ++ log ∷ [])) parts.0
    (one_log setup (shard + 1) logs log parts.1 (subst (λ (n : ℕ). log_fault setup n log ≡ None) at here))
