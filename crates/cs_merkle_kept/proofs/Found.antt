-- What a binary search finds among rising keys.
use Rattle.std.proofs.Common.{◌≡◌, ℕ, ◌+◌, ◌<◌, get_or, false, List, [], ◌∷◌, length, Ok, Err, Result, sym, ap, ◌∙◌, arith}
use Rattle.std.specs.Prelude.{Vec, MatchResult}
use Rattle.std.specs.declared.cmp.Ordering.TheVariants.{Equal}
use Rattle.std.specs.Ordering.{is_lt, ordering_index}
use Rattle.std.specs.List.Sorted.{IsSearchInRange, IsBinarySearchResult, IsNonDecreasingBy}
use Rattle.std.proofs.lemmas.Cmp.{nat_list_cmp_total, tied_back}
use Rattle.std.proofs.lemmas.List.{length-map, get_or-map}
use Rattle.std.proofs.lemmas.List.Sorted.{searchable_from_sorted}
use Rattle.cs_merkle.specs.Tree.{leaves_of_vectors}
use Rattle.cs_merkle_kept.specs.Leaves.{byte_order, AreRising, IsAt, IsGap}
use Rattle.cs_merkle_kept.proofs.Keys.{back_greater, back_less, same_key}

module _ {Z : Type 0} (keys : List (Vec ℕ Z)) (key : List ℕ) (rising : AreRising (leaves_of_vectors keys)) where
  at : (i : ℕ) (d : Vec ℕ Z) → i < length keys → get_or (leaves_of_vectors keys) i [] ≡ (get_or keys i d).items
  at i d there = get_or-map (λ (v : Vec ℕ Z). v.items) keys i d [] there

  long : length (leaves_of_vectors keys) ≡ length keys
  long = length-map keys (λ (v : Vec ℕ Z). v.items)

  one_up : (k : ℕ) (d : Vec ℕ Z) → k + 1 < length keys →
      is_lt (byte_order (get_or keys (k + 1) d).items (get_or keys k d).items) ≡ false
  one_up k d there =
      let less = rising k (k + 1) (omega arith) (omega (arith, there, long)) in
      let back = back_greater (get_or (leaves_of_vectors keys) k []) (get_or (leaves_of_vectors keys) (k + 1) []) less in
      ap (λ (x : List ℕ). is_lt (byte_order x (get_or keys k d).items)) (sym (at (k + 1) d there))
      ∙ ap (λ (x : List ℕ). is_lt (byte_order (get_or (leaves_of_vectors keys) (k + 1) []) x))
      (sym (at k d (omega (arith, there))))
      ∙ ap is_lt back

  rises : IsNonDecreasingBy (λ (v : Vec ℕ Z). ordering_index (byte_order v.items key)) keys
  rises = searchable_from_sorted nat_list_cmp_total (λ (v : Vec ℕ Z). v.items) keys key
      (λ k d low high. one_up k d high)

  found : (d : Vec ℕ Z) (r : Result ℕ ℕ) → IsSearchInRange r (length keys) →
      IsBinarySearchResult (λ (v : Vec ℕ Z). byte_order v.items key) keys r →
      MatchResult r (IsAt (leaves_of_vectors keys) key) (IsGap (leaves_of_vectors keys) key)
  found d (Ok place) within equal =
      let here = at place d within in
      let same : byte_order (get_or (leaves_of_vectors keys) place []) key ≡ Equal =
      ap (λ (x : List ℕ). byte_order x key) here ∙ equal d in
      record {
        within = omega (arith, within, long);
        below = λ i less.
            back_greater (get_or (leaves_of_vectors keys) i []) key
            (ap (byte_order (get_or (leaves_of_vectors keys) i []))
            (sym (same_key (get_or (leaves_of_vectors keys) place []) key same))
            ∙ rising i place less (omega (arith, within, long)));
        here = tied_back nat_list_cmp_total (get_or (leaves_of_vectors keys) place []) key same;
      }
  found d (Err place) within parted =
      let halves = parted rises in
      record {
        within = omega (arith, within, long);
        below = λ i less.
            back_greater (get_or (leaves_of_vectors keys) i []) key
            (ap (λ (x : List ℕ). byte_order x key) (at i d (omega (arith, less, within)))
            ∙ halves.0 i d (omega arith) less);
        above = λ i low high.
            back_less (get_or (leaves_of_vectors keys) i []) key
            (ap (λ (x : List ℕ). byte_order x key) (at i d (omega (arith, high, long)))
            ∙ halves.1 i d low (omega (arith, high, long)));
      }

pub found_in : {Z : Type 0} (keys : List (Vec ℕ Z)) (key : List ℕ) (r : Result ℕ ℕ) →
    AreRising (leaves_of_vectors keys) → IsSearchInRange r (length keys) →
    IsBinarySearchResult (λ (v : Vec ℕ Z). byte_order v.items key) keys r →
    MatchResult r (IsAt (leaves_of_vectors keys) key) (IsGap (leaves_of_vectors keys) key)
found_in [] key (Ok place) rising within equal = absurd (omega (arith, within))
found_in [] key (Err place) rising within parted = record {
  within = within;
  below = λ i less. absurd (omega (arith, less, within));
  above = λ i low high. absurd (omega (arith, high));
}
found_in (v ∷ vs) key r rising within is = found (v ∷ vs) key rising v r within is
