use Rattle.std.proofs.Common.{◌≡◌, ℕ, ◌<◌, get_or, List, [], ◌∷◌, ◌++◌, length, set, sym, ap, ◌∙◌, subst, arith}
use Rattle.std.specs.Prelude.{Contains}
use Rattle.std.specs.Map.{keys_of}
use Rattle.std.proofs.lemmas.List.{length-map, length_push}
use Rattle.cs_merkle.specs.Tree.{leaves_of_vectors}
use Rattle.cs_merkle_kept.specs.Leaves.{leaf_entry, leaf_entries, IsAt, IsGap}
use Rattle.cs_merkle_kept.specs.Puts.{IsPutFront}
use Rattle.cs_merkle_kept.proofs.Keys.{gap_spares}
use Rattle.cs_merkle_kept.proofs.Front.{key_at, entry_at, front_more}
use Rattle.cs_merkle_kept.proofs.changes.put_front.Goals as goal

pub returns-in-Err-clause-ended : goal.returns-in-Err-clause-ended
returns-in-Err-clause-ended c = λ less there.
    let keys = leaves_of_vectors c.args.keys.now in
    let entries = leaf_entries c.args.leaves.now in
    let item = c.leaf-item.result in
    let i = c.loop-leaf.leaf-index in
    let at_end : length c.loop-leaf.places.items ≡ i = c.loop-leaf.invariant.1 in
    let gap : IsGap keys item.key.items c.in-Err.field-0 =
    subst (λ (k : List ℕ). IsGap keys k c.in-Err.field-0) c.key.ensures c.in-Err.ensures in
    let key : get_or (keys_of entries) (length c.loop-leaf.places.items) [] ≡ item.key.items =
    ap (λ (m : ℕ). get_or (keys_of entries) m []) at_end
    ∙ key_at entries i (leaf_entry item)
    (omega (arith, less, at_end, length-map c.args.leaves.now leaf_entry))
    (entry_at c.args.leaves.now i item c.leaf-item.is) in
    gap_spares keys item.key.items c.in-Err.field-0 gap (subst (λ (k : List ℕ). Contains keys k) key there)

pub loop-leaf-preserved : goal.loop-leaf-preserved
loop-leaf-preserved c =
    let keys = leaves_of_vectors c.args.keys.now in
    let entries = leaf_entries c.args.leaves.now in
    let item = c.leaf-item.result in
    let i = c.loop-leaf.leaf-index in
    let place = c.in-Ok.place in
    let places = c.loop-leaf.places.items in
    let hashes = c.loop-leaf.hashes in
    let at_end : length places ≡ i = c.loop-leaf.invariant.1 in
    let at : IsAt keys item.key.items place =
    subst (λ (k : List ℕ). IsAt keys k place) c.key.ensures c.in-Ok.ensures in
    let there : length places < length entries =
    omega (arith, at_end, length-map c.args.leaves.now leaf_entry) in
    let is : leaf_entry item ≡ get_or entries (length places) (leaf_entry item) =
    entry_at c.args.leaves.now i item c.leaf-item.is
    ∙ ap (λ (m : ℕ). get_or entries m (leaf_entry item)) (sym at_end) in
    let pushed : c.push.new.self.items ≡ places ++ place ∷ [] = c.in_ok-push-in-Ok.ensures.items in
    let front = front_more keys entries c.args.hashes.now hashes places (leaf_entry item) place
    c.requires.kept there is at c.loop-leaf.invariant.0 in (
      subst (λ (ps : List ℕ). IsPutFront keys entries c.args.hashes.now (set hashes place c.hash.result) ps)
          (sym pushed)
          (subst (λ (h : List ℕ). IsPutFront keys entries c.args.hashes.now (set hashes place h) (places ++ place ∷ []))
          (sym c.hash.ensures) front),
      ap length pushed ∙ omega (arith, length_push places place, at_end),
    )
