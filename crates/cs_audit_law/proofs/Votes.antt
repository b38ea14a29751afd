-- The votes in the logs are those that the steps recorded.
use Rattle.std.proofs.Common.{◌≡◌, inl, inr, ℕ, zero, suc, ◌<◌, ◌==◌, Bool, true, false, ◌&&◌, ◌||◌, List, [], ◌∷◌, ◌++◌, length, refl, sym, ap, ◌∙◌, arith}
use Rattle.std.specs.Prelude.{if◌then◌else◌}
use Rattle.std.specs.List.{list_any}
use Rattle.std.proofs.lemmas.Bool.{cases_lt, or_left, or_right}
use Rattle.std.proofs.lemmas.List.{get_or_append_left, get_or_push}
use Rattle.cs_base.specs.Lists.{IsIn}
use Rattle.cs_tx_types.specs.declared.session.Session.{Session}
use Rattle.cs_tx_types.specs.declared.leaf.Leaf.{Leaf}
use Rattle.cs_ledger.specs.Ledger.{Bytes}
use Rattle.cs_ledger.specs.Table.{Vote, Commit, Abort}
use Rattle.cs_ledger.specs.ShardWorld.{is_vote}
use Rattle.cs_table.specs.Effects.{effect_of}
use Rattle.cs_node_state.specs.Setup.{Setup, digest_of, concerned, prepares}
use Rattle.cs_node_rules.specs.World.{Execution, is_recorded, all_recorded}
use Rattle.cs_world_law.specs.Steps.{executions_of}
use Rattle.cs_world_law.specs.Shown.{leaf_by, leaves_of}
use Rattle.cs_world_law.proofs.Counting.{all-in, all-from, concerned-in}
use Rattle.cs_audit_dump.specs.declared.dump.Log.{Log}
use Rattle.cs_audit_dump.specs.Drafts.{empty_dump_log}
use Rattle.cs_audit_rules.specs.Support.{has_vote, log_at, all_logs_commit, one_log_aborts}
use Rattle.cs_audit_law.specs.Dumped.{dumped_leaves, dumped_log, dumped_logs}
use Rattle.cs_audit_law.proofs.Unbroken.{effect_back, count_logs}

-- ---- tests of lists

any_end : {A : Type 0} (test : A → Bool) (xs : List A) (x : A) → list_any test (xs ++ x ∷ []) ≡ (test x || list_any test xs)
any_end test [] x = refl
any_end test (y ∷ xs) x = ap (λ b. test y || b) (any_end test xs x) ∙ turned (test y) (test x) (list_any test xs)
  where
    turned : (a b c : Bool) → (a || (b || c)) ≡ (b || (a || c))
    turned true true c = refl
    turned true false c = refl
    turned false b c = refl

pub any-from : {A : Type 0} (test : A → Bool) (xs : List A) (x : A) → IsIn x xs → test x ≡ true → list_any test xs ≡ true
any-from test [] x within is = absurd within
any-from test (y ∷ xs) x (inl same) is = or_left _ _ (ap test (sym same) ∙ is)
any-from test (y ∷ xs) x (inr within) is = or_right _ _ (any-from test xs x within is)

-- ---- one log

module _ (setup : Setup) (vote : Vote) (d : Bytes) where
  abbrev votes_so : Leaf → Bool
  votes_so leaf = prepares setup d leaf.action && is_vote vote (effect_of leaf.result)

  same_vote : (e : Execution) → votes_so (leaf_by e) ≡ (prepares setup d e.entry && is_vote vote e.effect)
  same_vote e = ap (λ f. prepares setup d e.entry && is_vote vote f) (effect_back e.effect)

  pub vote_told : (firsts : List Execution) (shard : ℕ) → list_any votes_so (dumped_leaves shard firsts) ≡ is_recorded setup firsts d vote shard
  vote_told [] shard = refl
  vote_told (e ∷ earlier) shard = by (e.shard == shard) (vote_told earlier shard)
    where
      by : (b : Bool) → list_any votes_so (dumped_leaves shard earlier) ≡ is_recorded setup earlier d vote shard
          → list_any votes_so (leaves_of (if b then e ∷ executions_of shard earlier else executions_of shard earlier))
          ≡ ((b && (prepares setup d e.entry && is_vote vote e.effect)) || is_recorded setup earlier d vote shard)
      by false before = before
      by true before =
          any_end votes_so (dumped_leaves shard earlier) (leaf_by e)
          ∙ ap (λ b. b || list_any votes_so (dumped_leaves shard earlier)) (same_vote e)
          ∙ ap (λ b. (prepares setup d e.entry && is_vote vote e.effect) || b) before

-- ---- the logs of all shards

pub log_there : (setup : Setup) (firsts : List Execution) (n shard : ℕ) → shard < n → log_at (dumped_logs setup firsts n) shard ≡ dumped_log setup firsts shard
log_there setup firsts zero shard less = absurd (omega arith)
log_there setup firsts (suc n) shard less =
    let logs = dumped_logs setup firsts n in
    let count = count_logs setup firsts n in
    elim (cases_lt shard n) [
      | inl below ↦ get_or_append_left logs (dumped_log setup firsts n ∷ []) empty_dump_log shard (omega arith) ∙ log_there setup firsts n shard below
      | inr not_below ↦
          let last : length logs ≡ shard = omega arith in
          let at : n ≡ shard = omega arith in
          get_or_push logs (dumped_log setup firsts n) empty_dump_log shard last ∙ ap (dumped_log setup firsts) at
    ]

module _ (setup : Setup) (firsts : List Execution) where
  abbrev logs : List Log
  logs = dumped_logs setup firsts setup.shards

  pub has_told : (vote : Vote) (d : Bytes) (shard : ℕ) → shard < setup.shards → has_vote setup vote d (log_at logs shard) ≡ is_recorded setup firsts d vote shard
  has_told vote d shard less =
      ap (λ (log : Log). has_vote setup vote d log) (log_there setup firsts setup.shards shard less) ∙ vote_told setup vote d firsts shard

  pub commits_told : (x : Session) → all_recorded setup firsts x ≡ true → all_logs_commit setup logs x ≡ true
  commits_told x all =
      let d = digest_of setup x in
      all-from (λ shard. has_vote setup Commit d (log_at logs shard)) (concerned setup x)
      (λ shard within. has_told Commit d shard (concerned-in setup x setup.shards shard within).0 ∙ all-in (is_recorded setup firsts d Commit) (concerned setup x) all shard within)

  pub commits_recorded : (x : Session) → all_logs_commit setup logs x ≡ true → all_recorded setup firsts x ≡ true
  commits_recorded x all =
      let d = digest_of setup x in
      all-from (is_recorded setup firsts d Commit) (concerned setup x)
      (λ shard within. sym (has_told Commit d shard (concerned-in setup x setup.shards shard within).0)
      ∙ all-in (λ shard. has_vote setup Commit d (log_at logs shard)) (concerned setup x) all shard within)

  pub abort_told : (x : Session) (shard : ℕ) → IsIn shard (concerned setup x) → is_recorded setup firsts (digest_of setup x) Abort shard ≡ true → one_log_aborts setup logs x ≡ true
  abort_told x shard within voted =
      let d = digest_of setup x in
      any-from (λ shard. has_vote setup Abort d (log_at logs shard)) (concerned setup x) shard within
      (has_told Abort d shard (concerned-in setup x setup.shards shard within).0 ∙ voted)
