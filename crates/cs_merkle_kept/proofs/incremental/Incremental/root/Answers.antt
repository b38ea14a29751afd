use Rattle.std.proofs.Common.{◌≡◌, ℕ, ◌-◌, ◌<◌, get_or, [], List, length, sym, ap, ◌∙◌, subst, arith}
use Rattle.std.specs.Map.{keys_of, values_of}
use Rattle.std.proofs.lemmas.List.{length-map, get_or_read, nil_from_length}
use Rattle.cs_merkle.specs.Tree.{leaves_of_vectors}
use Rattle.cs_merkle_kept.specs.Levels.{hash_over, levels_of}
use Rattle.cs_merkle_kept.specs.Leaves.{AreRising}
use Rattle.cs_merkle_kept.proofs.Hashes.{over_none, over_leaves}
use Rattle.cs_merkle_kept.proofs.Tops.{top_is, top_item, over_single, short}
use Rattle.cs_merkle_kept.proofs.Whole.{keys_zipped, values_zipped}
use Rattle.cs_merkle_kept.proofs.incremental.Incremental.root.Goals as goal

pub index-requires : goal.index-requires
index-requires c =
    let levels = c.self.inside.levels.items in
    let v = c.in-Some.top.now in
    let some : 0 < length levels =
    subst (λ vs. 0 < length vs) c.deref.ensures.value c.in-Some.ensures.item.3.0 in
    let same = top_item levels v some
    (subst (λ vs. v ≡ get_or vs (length vs - 1) v) c.deref.ensures.value (c.in-Some.ensures.item.3.1 v)) in
    let t = top_is c.self.inside.hashes.items (levels_of levels) c.self.invariant.levels
    c.self.invariant.height (omega (arith, some, length-map levels (λ w. w.items))) in
    omega (arith, ap length same, t.one, v.ok.0)

pub returns-in-Some-clause-hashes : goal.returns-in-Some-clause-hashes
returns-in-Some-clause-hashes c =
    let keys = leaves_of_vectors c.self.inside.keys.items in
    let hashes = c.self.inside.hashes.items in
    let levels = c.self.inside.levels.items in
    let v = c.in-Some.top.now in
    let some : 0 < length levels =
    subst (λ vs. 0 < length vs) c.deref.ensures.value c.in-Some.ensures.item.3.0 in
    let same = top_item levels v some
    (subst (λ vs. v ≡ get_or vs (length vs - 1) v) c.deref.ensures.value (c.in-Some.ensures.item.3.1 v)) in
    let t = top_is hashes (levels_of levels) c.self.invariant.levels c.self.invariant.height
    (omega (arith, some, length-map levels (λ w. w.items))) in
    let within : 0 < length v.items = omega (arith, ap length same, t.one) in
    let values : hashes ≡ values_of c.args.self.now =
    sym (values_zipped keys hashes c.self.invariant.kept.long) ∙ ap values_of c.self.view_is in
    get_or_read v.items 0 c.index.result.now within c.index.ensures []
    ∙ ap (λ (xs : List (List ℕ)). get_or xs 0 []) same ∙ t.over ∙ ap hash_over values

pub returns-in-Some-clause-leaves : goal.returns-in-Some-clause-leaves
returns-in-Some-clause-leaves c = λ leaves of.
    returns-in-Some-clause-hashes c ∙ ap hash_over of ∙ over_leaves leaves

pub returns-in-Some-first-clause-hashes : goal.returns-in-Some-first-clause-hashes
returns-in-Some-first-clause-hashes c =
    let keys = leaves_of_vectors c.self.inside.keys.items in
    let hashes = c.self.inside.hashes.items in
    let levels = c.self.inside.levels.items in
    let none = c.in-None.ensures.item.3 in
    let few = short (length hashes) (length (levels_of levels)) c.self.invariant.height
    (omega (arith, none, ap length c.deref.ensures.value, length-map levels (λ w. w.items))) in
    let some = c.in-Some-first.ensures.item.3.0 in
    let one : length hashes ≡ 1 = omega (arith, few, some, ap length c.deref-in-None.ensures.value) in
    let values : hashes ≡ values_of c.args.self.now =
    sym (values_zipped keys hashes c.self.invariant.kept.long) ∙ ap values_of c.self.view_is in
    c.in-Some-first.ensures.item.3.1 []
    ∙ ap (λ (xs : List (List ℕ)). get_or xs 0 []) c.deref-in-None.ensures.value
    ∙ over_single hashes one ∙ ap hash_over values

pub returns-in-Some-first-clause-leaves : goal.returns-in-Some-first-clause-leaves
returns-in-Some-first-clause-leaves c = λ leaves of.
    returns-in-Some-first-clause-hashes c ∙ ap hash_over of ∙ over_leaves leaves

pub returns-in-None-first-clause-hashes : goal.returns-in-None-first-clause-hashes
returns-in-None-first-clause-hashes c =
    let keys = leaves_of_vectors c.self.inside.keys.items in
    let hashes = c.self.inside.hashes.items in
    let none = c.in-None-first.ensures.item.3 in
    let empty : hashes ≡ [] =
    nil_from_length hashes (omega (arith, none, ap length c.deref-in-None.ensures.value)) in
    let values : hashes ≡ values_of c.args.self.now =
    sym (values_zipped keys hashes c.self.invariant.kept.long) ∙ ap values_of c.self.view_is in
    c.digest.ensures ∙ sym over_none ∙ ap hash_over (sym empty ∙ values)

pub returns-in-None-first-clause-leaves : goal.returns-in-None-first-clause-leaves
returns-in-None-first-clause-leaves c = λ leaves of.
    returns-in-None-first-clause-hashes c ∙ ap hash_over of ∙ over_leaves leaves

pub returns-in-Some-clause-rising : goal.returns-in-Some-clause-rising
returns-in-Some-clause-rising c =
    let kept = c.self.invariant.kept in
    subst AreRising
    (sym (keys_zipped (leaves_of_vectors c.self.inside.keys.items) c.self.inside.hashes.items kept.long)
    ∙ ap keys_of c.self.view_is) kept.rising

pub returns-in-Some-first-clause-rising : goal.returns-in-Some-first-clause-rising
returns-in-Some-first-clause-rising c =
    let kept = c.self.invariant.kept in
    subst AreRising
    (sym (keys_zipped (leaves_of_vectors c.self.inside.keys.items) c.self.inside.hashes.items kept.long)
    ∙ ap keys_of c.self.view_is) kept.rising
