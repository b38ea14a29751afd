use Rattle.std.proofs.Common.{◌≡◌, List, [], sym, ap, subst, ◌∙◌}
use Rattle.std.specs.Map.{keys_of, values_of, lookup}
use Rattle.std.specs.Option.{option_or}
use Rattle.std.specs.BTreeMap.{BTreeMap}
use Rattle.cs_base.specs.declared.key.Key.{Key}
use Rattle.cs_merkle_kept.specs.declared.leaf.Leaf.{Leaf}
use Rattle.cs_merkle_kept.specs.Leaves.{AreRising, all_put, leaf_entries}
use Rattle.cs_table.specs.Seen.{seen, is_under}
use Rattle.cs_check_rules.specs.Root.{ledger_key_bytes}
use Rattle.cs_check.specs.Root.{record_leaves}
use Rattle.cs_check.specs.Leaves.{Hashed, HasLeaves, AreWaiting, hashes_of, leaf_hash_in}
use Rattle.cs_check.proofs.Hashing.{joined_keys, joined_leaves, joined_values}
use Rattle.cs_check.proofs.hashes.Hashes.root.Goals as goal

pub invariant_of-self-2 : goal.invariant_of-self-2
invariant_of-self-2 c =
    let tree = c.self.inside.tree in
    let waiting = c.self.inside.waiting.entries in
    let new = c.in_ok-self-inside.field-0 in
    let was : c.replace-waiting.result.entries ≡ waiting = ap (λ (m : BTreeMap Key Leaf). m.entries) c.replace-waiting.ensures.value in
    let none : c.replace-waiting.new.dest.entries ≡ [] =
    ap (λ (m : BTreeMap Key Leaf). m.entries) c.replace-waiting.ensures.after ∙ c.new-2.ensures.empty in
    let put : new ≡ all_put tree (leaf_entries (values_of waiting)) =
    c.in_ok-self-inside.ensures.new ∙ (λ i. all_put (c.replace-tree.ensures.value i) (leaf_entries (values_of (was i)))) in
    let rising = subst (λ (es : List (Key × Leaf)). AreRising (keys_of (leaf_entries (values_of es)))) was c.in_ok-self-inside.ensures.rising in
    record {
      keys = joined_keys tree new waiting put c.self.invariant.under_keys c.self.invariant.keys rising;
      under_keys = subst AreWaiting (sym none) tt;
    }

pub returns-clause-leaves : goal.returns-clause-leaves
returns-clause-leaves c = λ name wide.
    let tree = c.self.inside.tree in
    let waiting = c.self.inside.waiting.entries in
    let new = c.in_ok-self-inside.field-0 in
    let was : c.replace-waiting.result.entries ≡ waiting = ap (λ (m : BTreeMap Key Leaf). m.entries) c.replace-waiting.ensures.value in
    let none : c.replace-waiting.new.dest.entries ≡ [] =
    ap (λ (m : BTreeMap Key Leaf). m.entries) c.replace-waiting.ensures.after ∙ c.new-2.ensures.empty in
    let put : new ≡ all_put tree (leaf_entries (values_of waiting)) =
    c.in_ok-self-inside.ensures.new ∙ (λ i. all_put (c.replace-tree.ensures.value i) (leaf_entries (values_of (was i)))) in
    let rising = subst (λ (es : List (Key × Leaf)). AreRising (keys_of (leaf_entries (values_of es)))) was c.in_ok-self-inside.ensures.rising in
    let has = subst (λ (h : Hashed). HasLeaves h (seen c.args.table.now)) (sym c.self.view_is) c.requires in
    ap (λ (es : List (Key × Leaf)). option_or (lookup (is_under name) (hashes_of es)) (leaf_hash_in new (ledger_key_bytes name))) none
    ∙ joined_leaves tree new waiting put c.self.invariant.under_keys c.self.invariant.keys rising c.args.table.now has name wide

pub returns-clause-root : goal.returns-clause-root
returns-clause-root c =
    let tree = c.self.inside.tree in
    let waiting = c.self.inside.waiting.entries in
    let new = c.in_ok-self-inside.field-0 in
    let table = c.args.table.now in
    let was : c.replace-waiting.result.entries ≡ waiting = ap (λ (m : BTreeMap Key Leaf). m.entries) c.replace-waiting.ensures.value in
    let put : new ≡ all_put tree (leaf_entries (values_of waiting)) =
    c.in_ok-self-inside.ensures.new ∙ (λ i. all_put (c.replace-tree.ensures.value i) (leaf_entries (values_of (was i)))) in
    let rising = subst (λ (es : List (Key × Leaf)). AreRising (keys_of (leaf_entries (values_of es)))) was c.in_ok-self-inside.ensures.rising in
    let has = subst (λ (h : Hashed). HasLeaves h (seen table)) (sym c.self.view_is) c.requires in
    c.root-root.ensures.leaves (record_leaves table.rows)
    (joined_values tree new waiting put c.self.invariant.under_keys c.self.invariant.keys rising table has
    c.records-records.ensures.rising c.records-records.ensures.stored c.records-records.ensures.widths c.root-root.ensures.rising)
