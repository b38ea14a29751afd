-- What the votes that are kept say of sessions, and of the decisions of logs.
use Rattle.std.proofs.Common.{◌≡◌, ℕ, ◌+◌, ◌<◌, ◌≤◌, Bool, true, false, List, ◌∷◌, length, drop, get_or, Option, Some, None, is_some, ap, sym, ◌∙◌, add-one}
use Rattle.std.specs.Prelude.{if◌then◌else◌}
use Rattle.std.specs.List.{list_all, list_any}
use Rattle.std.proofs.Math.Seq.{drop-cons}
use Rattle.std.proofs.Math.ListN.{drop_of_length-le}
use Rattle.std.proofs.lemmas.Bool.{true≢false}
use Rattle.cs_base.specs.Options.{or_else}
use Rattle.cs_base.specs.declared.config.Config.{Config}
use Rattle.cs_tx_value.specs.declared.object.Object.{Object}
use Rattle.cs_tx_types.specs.declared.leaf.Leaf.{Leaf}
use Rattle.cs_tx_types.specs.declared.session.Session.{Session}
use Rattle.cs_tx_types.specs.declared.transaction.Tx.{Tx}
use Rattle.cs_tx.specs.Digest.{digest_of_session}
use Rattle.cs_tx.specs.Uses.{concerned_shards}
use Rattle.cs_ledger.specs.Ledger.{Bytes}
use Rattle.cs_node_state.specs.Setup.{Setup, concerned}
use Rattle.cs_node_pool.specs.Deployed.{deployed_setup}
use Rattle.cs_node_pool.proofs.Concerned.{concerned-session}
use Rattle.cs_audit_dump.specs.declared.dump.Log.{Log}
use Rattle.cs_audit_rules.specs.declared.verdict.Fault.{Fault}
use Rattle.cs_audit_rules.specs.declared.verdict.Rule.TheVariants as rule
use Rattle.cs_audit_rules.specs.Slots.{fault_at}
use Rattle.cs_audit_rules.specs.Support.{all_logs_commit, one_log_aborts, is_supported, unsupported, support_fault}
use Rattle.cs_audit.specs.Votes.{KeptVotes}
use Rattle.cs_audit.specs.Kept.{is_kept, KeepsVotes}

module _ (config : Config) (objects : List Object) (approves : Tx → Bool) (logs : List Log) (votes : KeptVotes) (keeps : KeepsVotes (deployed_setup config objects approves) logs votes) (x : Session) (shards : List ℕ) (d : Bytes)
    (concerns : shards ≡ concerned_shards config x) (named : d ≡ digest_of_session x) where
  abbrev setup : Setup
  setup = deployed_setup config objects approves

  same : shards ≡ concerned setup x
  same = concerns ∙ sym (concerned-session config objects approves x)

  pub commits-all : list_all (is_kept votes.commits d) shards ≡ all_logs_commit setup logs x
  commits-all =
      (λ i. list_all (is_kept votes.commits (named i)) (same i))
      ∙ (λ i. list_all (λ shard. keeps.commits (digest_of_session x) shard i) (concerned setup x))

  pub aborts-one : list_any (is_kept votes.aborts d) shards ≡ one_log_aborts setup logs x
  aborts-one =
      (λ i. list_any (is_kept votes.aborts (named i)) (same i))
      ∙ (λ i. list_any (λ shard. keeps.aborts (digest_of_session x) shard i) (concerned setup x))

-- ---- decisions of a log

module _ (setup : Setup) (logs : List Log) where
  pub supported-here : (shard slot : ℕ) (leaves : List Leaf) (leaf : Leaf) → slot < length leaves → leaf ≡ get_or leaves slot leaf → is_supported setup logs leaf ≡ true
      → unsupported setup logs shard slot (drop slot leaves) ≡ unsupported setup logs shard (slot + 1) (drop (slot + 1) leaves)
  supported-here shard slot leaves leaf less is so =
      let left : drop slot leaves ≡ leaf ∷ drop (slot + 1) leaves = rw add-one (drop-cons leaves slot leaf less) ∙ ap (λ x. x ∷ drop (slot + 1) leaves) (sym is) in
      ap (unsupported setup logs shard slot) left
      ∙ ap (λ (b : Bool). if b then unsupported setup logs shard (slot + 1) (drop (slot + 1) leaves) else Some (fault_at shard slot rule.Support)) so

  pub unsupported-here : (shard slot : ℕ) (leaves : List Leaf) (leaf : Leaf) → slot < length leaves → leaf ≡ get_or leaves slot leaf → is_supported setup logs leaf ≡ false
      → unsupported setup logs shard slot (drop slot leaves) ≡ Some (fault_at shard slot rule.Support)
  unsupported-here shard slot leaves leaf less is lacks =
      let left : drop slot leaves ≡ leaf ∷ drop (slot + 1) leaves = rw add-one (drop-cons leaves slot leaf less) ∙ ap (λ x. x ∷ drop (slot + 1) leaves) (sym is) in
      ap (unsupported setup logs shard slot) left
      ∙ ap (λ (b : Bool). if b then unsupported setup logs shard (slot + 1) (drop (slot + 1) leaves) else Some (fault_at shard slot rule.Support)) lacks

  pub none-unsupported : (shard slot : ℕ) (leaves : List Leaf) → length leaves ≤ slot → None ≡ unsupported setup logs shard slot (drop slot leaves)
  none-unsupported shard slot leaves over = sym (ap (unsupported setup logs shard slot) (drop_of_length-le leaves over))

  -- ---- of all logs

  log-left : (some : List Log) (place : ℕ) (log : Log) → place < length some → log ≡ get_or some place log → drop place some ≡ log ∷ drop (place + 1) some
  log-left some place log less is = rw add-one (drop-cons some place log less) ∙ ap (λ x. x ∷ drop (place + 1) some) (sym is)

  pub log-supported : (some : List Log) (place : ℕ) (log : Log) → place < length some → log ≡ get_or some place log → None ≡ unsupported setup logs place 0 log.leaves
      → support_fault setup logs place (drop place some) ≡ support_fault setup logs (place + 1) (drop (place + 1) some)
  log-supported some place log less is none =
      ap (support_fault setup logs place) (log-left some place log less is)
      ∙ ap (λ (o : Option Fault). or_else o (support_fault setup logs (place + 1) (drop (place + 1) some))) (sym none)

  pub log-unsupported : (some : List Log) (place : ℕ) (log : Log) (fault : Fault) → place < length some → log ≡ get_or some place log → Some fault ≡ unsupported setup logs place 0 log.leaves
      → support_fault setup logs place (drop place some) ≡ Some fault
  log-unsupported some place log fault less is told =
      ap (support_fault setup logs place) (log-left some place log less is)
      ∙ ap (λ (o : Option Fault). or_else o (support_fault setup logs (place + 1) (drop (place + 1) some))) (sym told)

  pub none-left : (some : List Log) (place : ℕ) → length some ≤ place → None ≡ support_fault setup logs place (drop place some)
  none-left some place over = sym (ap (support_fault setup logs place) (drop_of_length-le some over))

  pub log-told : (some : List Log) (place : ℕ) (log : Log) (o : Option Fault) → place < length some → log ≡ get_or some place log → is_some o ≡ true → o ≡ unsupported setup logs place 0 log.leaves
      → o ≡ support_fault setup logs place (drop place some)
  log-told some place log None less is there told = absurd (true≢false (sym there))
  log-told some place log (Some fault) less is there told = sym (log-unsupported some place log fault less is told)

  pub log-passes : (some : List Log) (place : ℕ) (log : Log) (o : Option Fault) → place < length some → log ≡ get_or some place log → is_some o ≡ false → o ≡ unsupported setup logs place 0 log.leaves
      → support_fault setup logs place (drop place some) ≡ support_fault setup logs (place + 1) (drop (place + 1) some)
  log-passes some place log None less is there told = log-supported some place log less is told
  log-passes some place log (Some fault) less is there told = absurd (true≢false there)
