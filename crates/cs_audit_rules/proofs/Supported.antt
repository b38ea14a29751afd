-- Where no decision is found to lack its votes, each has them.
use Rattle.std.proofs.Common.{◌≡◌, inl, inr, ℕ, ◌+◌, true, List, [], ◌∷◌, None, ap, subst, ◌∙◌}
use Rattle.cs_tx_types.specs.declared.leaf.Leaf.{Leaf}
use Rattle.cs_base.specs.Lists.{IsIn}
use Rattle.cs_node_state.specs.Setup.{Setup}
use Rattle.cs_audit_dump.specs.declared.dump.Log.{Log}
use Rattle.cs_audit_rules.specs.declared.verdict.Rule.TheVariants as rule
use Rattle.cs_audit_rules.specs.Slots.{fault_at}
use Rattle.cs_audit_rules.specs.Support.{is_supported, unsupported, support_fault}
use Rattle.cs_audit_rules.proofs.Parts.{neither_there, held}

module _ (setup : Setup) (logs : List Log) where
  leaves_supported : (shard slot : ℕ) (leaves : List Leaf) → unsupported setup logs shard slot leaves ≡ None → (leaf : Leaf) → IsIn leaf leaves
      → is_supported setup logs leaf ≡ true
  leaves_supported shard slot [] none leaf within = absurd within
  leaves_supported shard slot (first ∷ leaves) none leaf (inl same) =
      ap (is_supported setup logs) same ∙ (held (is_supported setup logs first) (fault_at shard slot rule.Support) (unsupported setup logs shard (slot + 1) leaves) none).0
  leaves_supported shard slot (first ∷ leaves) none leaf (inr later) =
      leaves_supported shard (slot + 1) leaves (held (is_supported setup logs first) (fault_at shard slot rule.Support) (unsupported setup logs shard (slot + 1) leaves) none).1 leaf later

  pub all_supported : (shard : ℕ) (some : List Log) → support_fault setup logs shard some ≡ None → (log : Log) (leaf : Leaf) → IsIn log some → IsIn leaf log.leaves
      → is_supported setup logs leaf ≡ true
  all_supported shard [] none log leaf within there = absurd within
  all_supported shard (first ∷ more) none log leaf (inl same) there =
      let parts = neither_there (unsupported setup logs shard 0 first.leaves) (support_fault setup logs (shard + 1) more) none in
      leaves_supported shard 0 first.leaves parts.0 leaf (subst (λ (l : Log). IsIn leaf l.leaves) same there)
  all_supported shard (first ∷ more) none log leaf (inr later) there =
      let parts = neither_there (unsupported setup logs shard 0 first.leaves) (support_fault setup logs (shard + 1) more) none in
      all_supported (shard + 1) more parts.1 log leaf later there
