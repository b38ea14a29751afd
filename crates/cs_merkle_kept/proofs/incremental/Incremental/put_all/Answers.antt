use Rattle.std.proofs.Common.{◌≡◌, ℕ, ◌+◌, ◌-◌, ◌*◌, ◌^◌, ◌≤◌, length, sym, ap, ◌∙◌, subst, arith}
use Rattle.std.specs.Prelude.{zip}
use Rattle.std.specs.Map.{keys_of}
use Rattle.std.proofs.lemmas.List.{length-map}
use Rattle.cs_merkle.specs.Tree.{leaves_of_vectors}
use Rattle.cs_merkle_kept.specs.Levels.{IsHeight}
use Rattle.cs_merkle_kept.specs.Leaves.{leaf_entry, leaf_entries}
use Rattle.cs_merkle_kept.specs.Counts.{AreOldKeys, IsFirstNew}
use Rattle.cs_merkle_kept.proofs.Whole.{keys_zipped, length_zipped, few_named, few_old, few_new}
use Rattle.cs_merkle_kept.proofs.incremental.Incremental.put_all.Goals as goal

pub returns-clause-once : goal.returns-clause-once
returns-clause-once g c =
    let put = c.in_ok-places.ensures in
    let keys' = leaves_of_vectors c.put_leaves.new.keys.items in
    let hashes' = c.put_leaves.new.hashes.items in
    let long = length_zipped keys' hashes' put.kept.long in
    subst (λ (n : ℕ). c.raise.new.steps ≤ c.args.steps.now + (n - 1)) (sym long)
    (subst (λ hs. c.raise.new.steps ≤ c.args.steps.now + (length hs - 1)) c.as_slice.ensures.value
    c.in_ok-raise.ensures.once)

pub returns-clause-few_old : goal.returns-clause-few_old
returns-clause-few_old g c = λ height fits olds.
    let put = c.in_ok-places.ensures in
    let places = c.in_ok-places.places.items in
    let first = c.in_ok-places.first in
    let keys = leaves_of_vectors c.tree.inside.keys.items in
    let hashes = c.tree.inside.hashes.items in
    let entries = leaf_entries c.args.leaves.now in
    let keys' = leaves_of_vectors c.put_leaves.new.keys.items in
    let hashes' = c.put_leaves.new.hashes.items in
    let tall_at = length c.raise.new.levels.items in
    let was : zip keys hashes ≡ c.args.self.now = c.tree.view_is ∙ c.replace-tree.ensures.value in
    let old : keys_of c.args.self.now ≡ keys =
    ap keys_of (sym was) ∙ keys_zipped keys hashes c.tree.invariant.kept.long in
    let tall : IsHeight (length hashes') tall_at =
    subst (λ hs. IsHeight (length hs) tall_at) c.as_slice.ensures.value c.in_ok-raise.ensures.height in
    let bound = few_named (length places) (length c.as_mut_slice-changed.result.now) (length hashes')
    (length c.as_slice.result.now) first tall_at c.args.steps.now c.raise.new.steps
    (ap length c.as_mut_slice-changed.ensures.value) (ap length c.as_slice.ensures.value)
    c.in_ok-raise.ensures.few in
    let all = put.olds (subst (λ ks. AreOldKeys ks (keys_of entries)) old olds) in
    few_old (length places) (length hashes') first tall_at height c.args.steps.now c.raise.new.steps
    (length c.args.leaves.now) tall
    (subst (λ (n : ℕ). n ≤ 2 ^ height) (length_zipped keys' hashes' put.kept.long) fits)
    (all.0 ∙ length-map c.args.leaves.now leaf_entry) all.1 bound

pub returns-clause-few_new : goal.returns-clause-few_new
returns-clause-few_new g c = λ height before place fits new.
    let put = c.in_ok-places.ensures in
    let places = c.in_ok-places.places.items in
    let first = c.in_ok-places.first in
    let keys = leaves_of_vectors c.tree.inside.keys.items in
    let hashes = c.tree.inside.hashes.items in
    let entries = leaf_entries c.args.leaves.now in
    let keys' = leaves_of_vectors c.put_leaves.new.keys.items in
    let hashes' = c.put_leaves.new.hashes.items in
    let tall_at = length c.raise.new.levels.items in
    let was : zip keys hashes ≡ c.args.self.now = c.tree.view_is ∙ c.replace-tree.ensures.value in
    let old : keys_of c.args.self.now ≡ keys =
    ap keys_of (sym was) ∙ keys_zipped keys hashes c.tree.invariant.kept.long in
    let tall : IsHeight (length hashes') tall_at =
    subst (λ hs. IsHeight (length hs) tall_at) c.as_slice.ensures.value c.in_ok-raise.ensures.height in
    let bound = few_named (length places) (length c.as_mut_slice-changed.result.now) (length hashes')
    (length c.as_slice.result.now) first tall_at c.args.steps.now c.raise.new.steps
    (ap length c.as_mut_slice-changed.ensures.value) (ap length c.as_slice.ensures.value)
    c.in_ok-raise.ensures.few in
    let long = length_zipped keys' hashes' put.kept.long in
    let at : IsFirstNew keys keys' (keys_of entries) before place =
    subst (λ ks. IsFirstNew ks keys' (keys_of entries) before place) old
    (subst (λ ks. IsFirstNew (keys_of c.args.self.now) ks (keys_of entries) before place)
    (keys_zipped keys' hashes' put.kept.long) new) in
    let all = put.new before place at in
    subst (λ (n : ℕ). c.raise.new.steps ≤ c.args.steps.now + (n - place) + (before + 1) * height) (sym long)
    (few_new (length places) (length hashes') first tall_at height c.args.steps.now c.raise.new.steps
    before place tall (subst (λ (n : ℕ). n ≤ 2 ^ height) long fits) all.0 all.1
    (omega (arith, at.within, put.kept.long)) bound)
