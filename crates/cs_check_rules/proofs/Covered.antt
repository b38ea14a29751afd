-- A proof that is shown is of the checkpoint that has the head, and a chain's proofs are shown.
use Rattle.std.proofs.Common.{◌≡◌, ℕ, ◌+◌, ◌*◌, ◌/◌, ◌%◌, ◌<◌, ◌≤◌, get_or, List, [], ◌∷◌, ◌++◌, length, map, drop, reverse, Some, refl, sym, ap, ◌∙◌, subst, arith, length-take, length-drop}
use Rattle.std.proofs.lemmas.List.{length-map}
use Rattle.std.specs.Prelude.{slice_get, All, Contains, option_map}
use Rattle.std.proofs.lemmas.List.{get_or-take, get_or-drop}
use Rattle.std.proofs.lemmas.List.Elements.{Contains-append_right, All-get_or}
use Rattle.std.proofs.lemmas.Option.{slice_get-get_or, slice_get_within, get_or_from_slice_get, slice_get-map}
use Rattle.cs_base.specs.Fields.{Found, IsForm}
use Rattle.cs_base.specs.declared.version.Version.TheVariants.{One}
use Rattle.cs_tx_types.specs.declared.checkpoint.Checkpoint.{Checkpoint}
use Rattle.cs_tx_types.specs.declared.leaf.Leaf.{Leaf}
use Rattle.cs_tx_types.specs.declared.proof.Proof.{Proof}
use Rattle.cs_tx_types.specs.Log.{leaf_encoding, LeafFits, leaf_at, checkpoint_encoding, CheckpointFits, checkpoint_at, ProofFits}
use Rattle.cs_tx_types.specs.laws.Log.{leaf_form, checkpoint_form}
use Rattle.cs_merkle.specs.Tree.{tree_of, merkle_tree_hash}
use Rattle.cs_merkle.specs.Path.{ShowsLeaf, audit_path}
use Rattle.cs_merkle.specs.Collisions.{strings_in, strings_by, NoTreeCollision}
use Rattle.cs_merkle.proofs.Roots.{path_shows}
use Rattle.cs_merkle.proofs.Shown.{shown_is_there}
use Rattle.cs_check_rules.specs.Chain.{Log, covered_leaves, head_of, checkpoint_of, IsProofOf}
use Rattle.cs_check_rules.specs.Shown.{Shows, CoversLeaves, head_string, NoProofCollision, IsOf}

first_there : (x : List ℕ) (xs : List (List ℕ)) → Contains (x ∷ xs) x
first_there x xs = (0, omega arith, refl)

rest_there : (x y : List ℕ) (xs : List (List ℕ)) → Contains xs y → Contains (x ∷ xs) y
rest_there x y xs there = Contains-append_right (x ∷ []) xs y there

-- what fits is told by its encoding
one_value : {X : Type 0} (write : X → List ℕ) (Fits : X → Type 0) (read : List ℕ → Found X) →
    IsForm write Fits read → (x y : X) → Fits x → Fits y → write x ≡ write y → x ≡ y
one_value {X} write Fits read form x y fits_x fits_y same =
    let both : Some (x, []) ≡ Some (y, []) =
    sym (form.again x [] fits_x) ∙ ap (λ (text : List ℕ). read (text ++ [])) same
    ∙ form.again y [] fits_y in
    let pairs : (x, []) ≡ (y, []) = cc in
    ap (λ (p : X × List ℕ). p.0) pairs

one_checkpoint : (c : Checkpoint) (leaves : List (List ℕ)) (p : Proof) → CoversLeaves c leaves →
    ProofFits One p → NoProofCollision c leaves p → Shows (head_of c) p → p.checkpoint ≡ c
one_checkpoint c leaves p over fits apart shows =
    let strings : head_string c ≡ head_string p.checkpoint =
    apart (head_string c) (head_string p.checkpoint)
    (first_there (head_string c) (strings_in (tree_of leaves)))
    (first_there (head_string p.checkpoint)
    (strings_by 16 p.place (leaf_encoding One p.leaf) (reverse p.path)))
    (sym shows.checkpoint) in
    let same : checkpoint_encoding One p.checkpoint ≡ checkpoint_encoding One c = ap (drop 1) (sym strings) in
    one_value (checkpoint_encoding One) (CheckpointFits One) (checkpoint_at One) (checkpoint_form One) p.checkpoint c
    fits.checkpoint over.fits same

pub covered : (c : Checkpoint) (leaves : List (List ℕ)) (p : Proof) → CoversLeaves c leaves →
    ProofFits One p → NoProofCollision c leaves p → Shows (head_of c) p → IsOf c leaves p
covered c leaves p over fits apart shows =
    let same = one_checkpoint c leaves p over fits apart shows in
    let bytes = leaf_encoding One p.leaf in
    let tree : NoTreeCollision leaves p.place bytes p.path =
    λ a b a_in b_in hashes. apart a b
    (rest_there (head_string c) a (strings_in (tree_of leaves)) a_in)
    (rest_there (head_string p.checkpoint) b (strings_by 16 p.place bytes (reverse p.path))
    (subst (λ (n : ℕ). Contains (strings_by n p.place bytes (reverse p.path)) b) over.all b_in))
    hashes in
    let root : p.checkpoint.leaf_root ≡ merkle_tree_hash leaves =
    ap (λ (d : Checkpoint). d.leaf_root) same ∙ over.root in
    let here : ShowsLeaf (merkle_tree_hash leaves) (length leaves) p.place bytes p.path =
    subst (λ (n : ℕ). ShowsLeaf (merkle_tree_hash leaves) n p.place bytes p.path) (sym over.all)
    (subst (λ (r : List ℕ). ShowsLeaf r 16 p.place bytes p.path) root shows.leads) in
    let (leaf_is, path_is) = shown_is_there leaves p.place bytes p.path tree here in
    record { checkpoint = same; leaf = leaf_is; path = path_is }

pub covered_leaf : (c : Checkpoint) (leaves : List Leaf) (p : Proof) → All (LeafFits One) leaves →
    CoversLeaves c (map (leaf_encoding One) leaves) → ProofFits One p →
    NoProofCollision c (map (leaf_encoding One) leaves) p → Shows (head_of c) p →
    slice_get leaves p.place ≡ Some p.leaf
covered_leaf c leaves p all over fits apart shows =
    let is = covered c (map (leaf_encoding One) leaves) p over fits apart shows in
    let there = slice_get_within (map (leaf_encoding One) leaves) p.place (leaf_encoding One p.leaf) is.leaf in
    let within : p.place < length leaves = omega (arith, there, length-map leaves (leaf_encoding One)) in
    let l : Leaf = get_or leaves p.place p.leaf in
    let read : slice_get leaves p.place ≡ Some l = slice_get-get_or leaves p.place p.leaf within in
    let both : Some (leaf_encoding One l) ≡ Some (leaf_encoding One p.leaf) =
    sym (slice_get-map (leaf_encoding One) leaves p.place ∙ ap (option_map (leaf_encoding One)) read) ∙ is.leaf in
    let same : leaf_encoding One l ≡ leaf_encoding One p.leaf = cc in
    read ∙ ap Some (one_value (leaf_encoding One) (LeafFits One) (leaf_at One) (leaf_form One) l p.leaf
    (All-get_or (LeafFits One) leaves p.place p.leaf within all) fits.leaf same)

pub chain_shows : (log : Log) (slot : ℕ) (p : Proof) → 16 * (slot / 16) + 16 ≤ length log.leaves →
    IsProofOf log slot p → p.leaf.slot ≡ slot →
    Shows (head_of (checkpoint_of log (slot / 16))) p
chain_shows log slot p enough is of_slot =
    let number = slot / 16 in
    let place = slot % 16 in
    let part = covered_leaves log number in
    let bytes = leaf_encoding One p.leaf in
    let rest = drop (16 * number) log.leaves in
    let long : length part ≡ 16 =
    omega (arith, enough, length-take 16 rest, length-drop (16 * number) log.leaves) in
    let low : place < 16 = omega arith in
    let sum : 16 * number + place ≡ slot = omega arith in
    let at : get_or part place bytes ≡ bytes =
    get_or-take 16 rest place bytes low ∙ get_or-drop (16 * number) log.leaves place bytes
    ∙ ap (λ (i : ℕ). get_or log.leaves i bytes) sum
    ∙ get_or_from_slice_get log.leaves slot bytes bytes is.leaf in
    let there : slice_get part place ≡ Some bytes =
    slice_get-get_or part place bytes (omega (arith, long, low)) ∙ ap Some at in
    let shown : ShowsLeaf (merkle_tree_hash part) 16 place bytes (audit_path part place) =
    subst (λ (n : ℕ). ShowsLeaf (merkle_tree_hash part) n place bytes (audit_path part place)) long
    (path_shows part place bytes there) in
    let root : p.checkpoint.leaf_root ≡ merkle_tree_hash part =
    ap (λ (c : Checkpoint). c.leaf_root) is.checkpoint in
    let count : p.checkpoint.number ≡ number = ap (λ (c : Checkpoint). c.number) is.checkpoint in
    record {
      checkpoint = ap head_of is.checkpoint;
      leads = rw (root, is.place, is.path) shown;
      slot = of_slot ∙ omega (arith, sum, count, is.place);
    }
