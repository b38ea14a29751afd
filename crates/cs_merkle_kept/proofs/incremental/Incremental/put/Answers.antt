use Rattle.std.proofs.Common.{◌≡◌, ℕ, zero, suc, [], ◌∷◌, List, length, sym, ap, ◌∙◌, subst, arith}
use Rattle.std.specs.Prelude.{◌↔◌, Contains, IsTrue, is_err}
use Rattle.std.specs.Map.{keys_of}
use Rattle.cs_merkle.specs.Tree.{leaves_of_vectors}
use Rattle.cs_merkle_kept.specs.Counts.{AreOldKeys}
use Rattle.cs_merkle_kept.proofs.Hashes.{Hashes}
use Rattle.cs_merkle_kept.proofs.Keys.{told_new, told_old}
use Rattle.cs_merkle_kept.proofs.Front.{Entry}
use Rattle.cs_merkle_kept.proofs.Whole.{keys_zipped, few_joins}
use Rattle.cs_merkle_kept.proofs.incremental.Incremental.put.Goals as goal

one_old : (old : Hashes) (key : List ℕ) → Contains old key → AreOldKeys old (key ∷ [])
one_old old key there zero less = there
one_old old key there (suc i) less = absurd (omega (arith, less))

pub returns-clause-is_new : goal.returns-clause-is_new
returns-clause-is_new g c =
    let keys = leaves_of_vectors c.self.inside.keys.items in
    let hashes = c.self.inside.hashes.items in
    let key = c.args.key.now in
    let seen : leaves_of_vectors c.as_slice.result.now ≡ keys_of c.args.self.now =
    ap leaves_of_vectors c.as_slice.ensures.value
    ∙ sym (keys_zipped keys hashes c.self.invariant.kept.long) ∙ ap keys_of c.self.view_is in
    let told = told_new (leaves_of_vectors c.as_slice.result.now) key c.search.result c.search.ensures in
    subst (λ b. IsTrue b ↔ (Contains (keys_of c.args.self.now) key → ⊥)) (sym c.is_err-is_new.ensures.value)
    (subst (λ ks. IsTrue (is_err c.search.result) ↔ (Contains ks key → ⊥)) seen told)

pub returns-clause-joins : goal.returns-clause-joins
returns-clause-joins g c =
    let keys = leaves_of_vectors c.self.inside.keys.items in
    let hashes = c.self.inside.hashes.items in
    let key = c.args.key.now in
    let seen : leaves_of_vectors c.as_slice.result.now ≡ keys_of c.args.self.now =
    ap leaves_of_vectors c.as_slice.ensures.value
    ∙ sym (keys_zipped keys hashes c.self.invariant.kept.long) ∙ ap keys_of c.self.view_is in
    let named : key ≡ c.in_ok-leaf.leaf.key.items =
    sym (ap (λ (e : Entry). e.0) c.in_ok-leaf.ensures) in
    few_joins c.is_err-is_new.result (length c.put_all.new.self) c.args.steps.now c.put_all.new.steps
    c.in_ok-put_all.ensures.once
    (λ old h fits.
    let there = told_old (leaves_of_vectors c.as_slice.result.now) key c.search.result c.search.ensures
    (sym c.is_err-is_new.ensures.value ∙ old) in
    c.in_ok-put_all.ensures.few_old h fits
    (one_old (keys_of c.args.self.now) c.in_ok-leaf.leaf.key.items
    (subst (λ k. Contains (keys_of c.args.self.now) k) named
    (subst (λ ks. Contains ks key) seen there))))
