-- Leaves at the front are put under keys that are there.
use Rattle.std.proofs.Common.{◌≡◌, ℕ, zero, suc, ◌+◌, ◌<◌, ◌≤◌, get_or, set, inl, inr, List, [], ◌∷◌, ◌++◌, length, take, refl, sym, ap, ◌∙◌, subst, arith}
use Rattle.std.proofs.Math.ListN.{get_or-map}
use Rattle.std.specs.Prelude.{Contains, zip}
use Rattle.std.specs.List.Sorted.{IsNonDecreasing}
use Rattle.std.specs.Map.{keys_of}
use Rattle.std.specs.BTreeMap.{insert_entry}
use Rattle.std.proofs.lemmas.Bool.{cases_lt, cases_eq}
use Rattle.std.proofs.lemmas.List.{length-map, length-set, get_or-set_other, get_or_default, get_or_append_left, get_or_push, length_push, take_more}
use Rattle.cs_merkle_kept.specs.declared.leaf.Leaf.{Leaf}
use Rattle.cs_merkle_kept.specs.Leaves.{KeyedHashes, byte_order, AreRising, all_put, IsAt, leaf_entry, leaf_entries}
use Rattle.cs_merkle_kept.specs.Kept.{AreKept}
use Rattle.cs_merkle_kept.specs.Puts.{IsPutFront}
use Rattle.cs_merkle_kept.proofs.Hashes.{Hashes}
use Rattle.cs_merkle_kept.proofs.Keys.{at_contains, same_key, not_both, put_at}

abbrev pub Entry : Type 0
Entry = List ℕ × List ℕ

pub key_at : (leaves : KeyedHashes) (i : ℕ) (leaf : Entry) → i < length leaves →
    leaf ≡ get_or leaves i leaf → get_or (keys_of leaves) i [] ≡ leaf.0
key_at [] i leaf there is = absurd (omega (arith, there))
key_at (l ∷ ls) zero leaf there is = ap (λ (e : Entry). e.0) (sym is)
key_at (l ∷ ls) (suc i) leaf there is = key_at ls i leaf (omega (arith, there)) is

pub entry_at : (leaves : List Leaf) (i : ℕ) (leaf : Leaf) → leaf ≡ get_or leaves i leaf →
    leaf_entry leaf ≡ get_or (leaf_entries leaves) i (leaf_entry leaf)
entry_at leaves i leaf is = ap leaf_entry is ∙ sym (get_or-map leaf_entry leaves i leaf)

-- ---- one after the other

pub all_put-append : (es ls ms : KeyedHashes) → all_put es (ls ++ ms) ≡ all_put (all_put es ls) ms
all_put-append es [] ms = refl
all_put-append es (l ∷ ls) ms = all_put-append (insert_entry byte_order es l.0 l.1) ls ms

pub all_put_more : (es ls : KeyedHashes) (i : ℕ) (l : Entry) → i < length ls → l ≡ get_or ls i l →
    all_put es (take (i + 1) ls) ≡ insert_entry byte_order (all_put es (take i ls)) l.0 l.1
all_put_more es ls i l there is =
    ap (all_put es) (take_more ls i l there ∙ ap (λ (m : Entry). take i ls ++ m ∷ []) (sym is))
    ∙ all_put-append es (take i ls) (l ∷ [])

pub front_none : (keys : Hashes) (leaves : KeyedHashes) (hashes : Hashes) →
    IsPutFront keys leaves hashes hashes []
front_none keys leaves hashes = record {
  few = omega arith;
  long = refl;
  put = refl;
  same = λ i spares. refl;
  here = λ i none. absurd (omega (arith, none));
}

pub front_more : (keys : Hashes) (leaves : KeyedHashes) (old new : Hashes) (places : List ℕ) (leaf : Entry)
    (place : ℕ) → AreKept keys old → length places < length leaves →
    leaf ≡ get_or leaves (length places) leaf → IsAt keys leaf.0 place →
    IsPutFront keys leaves old new places →
    IsPutFront keys leaves old (set new place leaf.1) (places ++ place ∷ [])
front_more keys leaves old new places leaf place kept there is at f =
    let long = length_push places place in
    let kept_new : AreKept keys new = record { long = kept.long ∙ sym f.long; rising = kept.rising } in
    let one = put_at keys new leaf.0 leaf.1 place kept_new at in
    record {
      few = omega (arith, long, there);
      long = length-set new place leaf.1 ∙ f.long;
      put = one.put
          ∙ ap (λ (es : KeyedHashes). insert_entry byte_order es leaf.0 leaf.1) f.put
          ∙ sym (all_put_more (zip keys old) leaves (length places) leaf there is)
          ∙ ap (λ (m : ℕ). all_put (zip keys old) (take m leaves)) (sym long);
      same = λ i spares.
          get_or-set_other new place i leaf.1 []
          (λ same. spares (length places) (omega arith) (omega (arith, long))
          (get_or_push places place 0 (length places) refl ∙ sym same))
          ∙ f.same i (λ k low high e. spares k low (omega (arith, high, long))
          (get_or_append_left places (place ∷ []) 0 k high ∙ e));
      here = λ i within. elim (cases_lt i (length places)) [
        | inl before ↦
            subst (λ (p : ℕ). IsAt keys (get_or (keys_of leaves) i []) p)
            (sym (get_or_append_left places (place ∷ []) 0 i before)) (f.here i before)
        | inr behind ↦
            let last : length places ≡ i = omega (arith, behind, within, long) in
            let key : get_or (keys_of leaves) i [] ≡ leaf.0 =
            ap (λ (m : ℕ). get_or (keys_of leaves) m []) (sym last)
            ∙ key_at leaves (length places) leaf there is in
            subst (λ (k : List ℕ). IsAt keys k (get_or (places ++ place ∷ []) i 0)) (sym key)
            (subst (λ (p : ℕ). IsAt keys leaf.0 p) (sym (get_or_push places place 0 i last)) at)
      ];
    }

-- ---- the places of rising keys rise

module _ (keys : Hashes) (leaves : KeyedHashes) (old new : Hashes) (places : List ℕ)
    (f : IsPutFront keys leaves old new places) where
  pub front_found : (i : ℕ) → i < length places → Contains keys (get_or (keys_of leaves) i [])
  front_found i within =
      at_contains keys (get_or (keys_of leaves) i []) (get_or places i 0) (f.here i within)

  rising_at : AreRising (keys_of leaves) → (i j : ℕ) → i < j → j < length places →
      get_or places i 0 ≤ get_or places j 0
  rising_at rising i j less within =
      let few = f.few in
      let long = length-map leaves (λ (e : Entry). e.0) in
      let one = f.here i (omega (arith, less, within)) in
      let two = f.here j within in
      let key_i = get_or (keys_of leaves) i [] in
      let key_j = get_or (keys_of leaves) j [] in
      elim (cases_lt (get_or places j 0) (get_or places i 0)) [
        | inl down ↦
            absurd (not_both key_i key_j (rising i j less (omega (arith, within, few, long)))
            (ap (byte_order key_i) (same_key key_j (get_or keys (get_or places j 0) []) two.here)
            ∙ one.below (get_or places j 0) down))
        | inr up ↦ up
      ]

  pub front_rising : AreRising (keys_of leaves) → IsNonDecreasing places
  front_rising rising i j d low high =
      let at_i = get_or_default places i d 0 (omega (arith, low, high)) in
      let at_j = get_or_default places j d 0 high in
      elim (cases_eq i j) [
        | inl same ↦
            let e : get_or places i d ≡ get_or places j d = ap (λ (m : ℕ). get_or places m d) same in
            omega (arith, e)
        | inr apart ↦
            omega (arith, at_i, at_j, rising_at rising i j (omega (arith, low, apart)) high)
      ]
