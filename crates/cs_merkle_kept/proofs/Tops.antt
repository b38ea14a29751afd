-- The top of the levels is the tree hash.
use Rattle.std.proofs.Common.{◌≡◌, ℕ, zero, suc, ◌+◌, ◌-◌, ◌/◌, ◌<◌, ◌≤◌, get_or, List, [], ◌∷◌, length, sym, ap, ◌∙◌, subst, arith}
use Rattle.std.specs.Prelude.{Vec}
use Rattle.std.proofs.lemmas.List.{length-map, get_or-map}
use Rattle.cs_merkle_kept.specs.Levels.{hash_over, levels_of, AreLevels, IsHeight}
use Rattle.cs_merkle_kept.proofs.Hashes.{Hashes, over_one}
use Rattle.cs_merkle_kept.proofs.Parents.{length-parents, over-parents}

-- one hash is that over itself
pub over_single : (hashes : Hashes) → length hashes ≡ 1 → get_or hashes 0 [] ≡ hash_over hashes
over_single [] one = absurd (omega (arith, one))
over_single (hash ∷ []) one = sym (over_one hash)
over_single (hash ∷ next ∷ more) one = absurd (omega (arith, one))

abbrev pub top : List Hashes → Hashes
top levels = get_or levels (length levels - 1) []

pub record IsTop (hashes : Hashes) (levels : List Hashes) : Type 0 where
  pub one : length (top levels) ≡ 1
  pub over : get_or (top levels) 0 [] ≡ hash_over hashes

pub top_is : (hashes : Hashes) (levels : List Hashes) → AreLevels hashes levels →
    IsHeight (length hashes) (length levels) → 0 < length levels → IsTop hashes levels
top_is hashes [] are tall some = absurd (omega (arith, some))
top_is hashes (level ∷ []) are tall some =
    let one : length level ≡ 1 =
    omega (arith, tall.0, tall.1, ap length are.0, length-parents hashes) in
    record {
      one = one;
      over = over_single level one ∙ ap hash_over are.0 ∙ over-parents hashes;
    }
top_is hashes (level ∷ next ∷ levels) are tall some =
    let long : length level ≡ (length hashes + 1) / 2 = ap length are.0 ∙ length-parents hashes in
    let above = top_is level (next ∷ levels) are.1
    (subst (λ (n : ℕ). IsHeight n (length (next ∷ levels))) (sym long) tall.1) (omega arith) in
    let last : length (level ∷ next ∷ levels) - 1 ≡ suc (length (next ∷ levels) - 1) = omega arith in
    let same : top (level ∷ next ∷ levels) ≡ top (next ∷ levels) =
    ap (λ (i : ℕ). get_or (level ∷ next ∷ levels) i []) last in
    record {
      one = ap length same ∙ above.one;
      over = ap (λ (xs : Hashes). get_or xs 0 []) same ∙ above.over ∙ ap hash_over are.0
          ∙ over-parents hashes;
    }

pub top_item : {Z : Type 0} (vs : List (Vec (List ℕ) Z)) (v : Vec (List ℕ) Z) → 0 < length vs →
    v ≡ get_or vs (length vs - 1) v → v.items ≡ top (levels_of vs)
top_item {Z} vs v some is =
    ap (λ (w : Vec (List ℕ) Z). w.items) is
    ∙ sym (get_or-map (λ (w : Vec (List ℕ) Z). w.items) vs (length vs - 1) v [] (omega (arith, some)))
    ∙ ap (λ (n : ℕ). get_or (levels_of vs) (n - 1) [])
    (sym (length-map vs (λ (w : Vec (List ℕ) Z). w.items)))

-- without a level there is one leaf at most
pub short : (count height : ℕ) → IsHeight count height → height ≡ 0 → count ≤ 1
short count zero tall none = tall
short count (suc height) tall none = absurd (omega (arith, none))
