use Rattle.std.proofs.Common.{◌≡◌, List, ℕ, ◌∷◌, take, drop, set, sym, ap, ◌∙◌, subst, refl}
use Rattle.std.specs.Prelude.{Vec}
use Rattle.std.specs.List.{insert}
use Rattle.std.proofs.lemmas.List.{map-append, take-map, drop-map}
use Rattle.cs_merkle.specs.Tree.{leaves_of_vectors}
use Rattle.cs_merkle_kept.specs.Leaves.{leaf_entry, IsAt, IsGap}
use Rattle.cs_merkle_kept.specs.Puts.{IsPutOne}
use Rattle.cs_merkle_kept.proofs.Keys.{put_at, put_in}
use Rattle.cs_merkle_kept.proofs.changes.put_one.Goals as goal

leaves-insert : {Z : Type 0} (vs : List (Vec ℕ Z)) (i : ℕ) (v : Vec ℕ Z) →
    leaves_of_vectors (insert vs i v) ≡ insert (leaves_of_vectors vs) i v.items
leaves-insert {Z} vs i v =
    map-append (λ (w : Vec ℕ Z). w.items) (take i vs) (v ∷ drop i vs)
    ∙ rw (take-map (λ (w : Vec ℕ Z). w.items) i vs, drop-map (λ (w : Vec ℕ Z). w.items) i vs) refl

pub returns-in-Ok : goal.returns-in-Ok
returns-in-Ok c =
    let keys = leaves_of_vectors c.args.keys.now.items in
    let hashes = c.args.hashes.now.items in
    let leaf = c.args.leaf.now in
    let at : IsAt keys leaf.key.items c.in-Ok.place =
    subst (λ (k : List ℕ). IsAt keys k c.in-Ok.place) c.key.ensures
    (subst (λ vs. IsAt (leaves_of_vectors vs) c.key.result.now c.in-Ok.place) c.as_slice.ensures.value
    c.in-Ok.ensures) in
    subst (λ (h : List ℕ). IsPutOne keys hashes (leaf_entry leaf) keys (set hashes c.in-Ok.place h) c.in-Ok.place)
    (sym c.hash.ensures)
    (put_at keys hashes leaf.key.items leaf.hash c.in-Ok.place c.requires.kept at)

pub returns-in_ok-insert-in-Err-2 : goal.returns-in_ok-insert-in-Err-2
returns-in_ok-insert-in-Err-2 c =
    let keys = leaves_of_vectors c.args.keys.now.items in
    let hashes = c.args.hashes.now.items in
    let leaf = c.args.leaf.now in
    let place = c.in-Err.place in
    let gap : IsGap keys leaf.key.items place =
    subst (λ (k : List ℕ). IsGap keys k place) c.key.ensures
    (subst (λ vs. IsGap (leaves_of_vectors vs) c.key.result.now place) c.as_slice.ensures.value
    c.in-Err.ensures) in
    let copied : c.in_ok-from_slice-in-Err.field-0.items ≡ leaf.key.items =
    c.in_ok-from_slice-in-Err.ensures.items ∙ c.key-in-Err.ensures in
    let new_keys : leaves_of_vectors c.insert.new.self.items ≡ insert keys place leaf.key.items =
    ap leaves_of_vectors c.in_ok-insert-in-Err.ensures.items
    ∙ leaves-insert c.args.keys.now.items place c.in_ok-from_slice-in-Err.field-0
    ∙ ap (insert keys place) copied in
    let new_hashes : c.insert-in-Err.new.self.items ≡ insert hashes place leaf.hash =
    c.in_ok-insert-in-Err-2.ensures.items ∙ ap (insert hashes place) c.hash-in-Err.ensures in
    subst (λ ks. IsPutOne keys hashes (leaf_entry leaf) ks c.insert-in-Err.new.self.items place)
    (sym new_keys)
    (subst (λ hs. IsPutOne keys hashes (leaf_entry leaf) (insert keys place leaf.key.items) hs place)
    (sym new_hashes)
    (put_in keys hashes leaf.key.items leaf.hash place c.requires.kept gap))
