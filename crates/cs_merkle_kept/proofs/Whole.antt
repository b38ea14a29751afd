-- What is put at once: the leaves, the levels that are stale, and how many joins they take.
use Rattle.std.proofs.Common.{◌≡◌, ℕ, ◌+◌, ◌-◌, ◌*◌, ◌^◌, ◌<◌, ◌≤◌, get_or, inl, inr, Bool, true, false, List, [], ◌∷◌, length, take, drop, refl, sym, ap, ◌∙◌, subst, arith, take-append-drop, length-drop}
use Rattle.std.specs.Prelude.{Contains, zip}
use Rattle.std.specs.Map.{keys_of, values_of}
use Rattle.std.proofs.lemmas.Bool.{cases_lt}
use Rattle.std.proofs.lemmas.List.{length-map, get_or-drop, drop-map}
use Rattle.cs_merkle_kept.specs.Levels.{IsHeight}
use Rattle.cs_merkle_kept.specs.Leaves.{KeyedHashes, byte_order, AreRising, all_put, IsAt}
use Rattle.cs_merkle_kept.specs.Changes.{IsChanged}
use Rattle.cs_merkle_kept.specs.Puts.{IsPutFront, IsPutRest, IsPutAll}
use Rattle.cs_merkle_kept.specs.Counts.{most_joins, IsFirstNew, AreOldKeys, FewJoins}
use Rattle.cs_merkle_kept.proofs.Hashes.{Hashes}
use Rattle.cs_merkle_kept.proofs.Heights.{least, least_height}
use Rattle.cs_merkle_kept.proofs.Keys.{one_place}
use Rattle.cs_merkle_kept.proofs.Front.{Entry, all_put-append, front_found, front_rising}
use Rattle.cs_merkle_kept.proofs.Counted.{most_none, most_some, more_room}

-- ---- keys and hashes of a list

pub keys_zipped : (keys hashes : Hashes) → length keys ≡ length hashes → keys_of (zip keys hashes) ≡ keys
keys_zipped [] hashes long = refl
keys_zipped (k ∷ ks) [] long = absurd (omega (arith, long))
keys_zipped (k ∷ ks) (h ∷ hs) long =
    ap (λ (xs : Hashes). k ∷ xs) (keys_zipped ks hs (omega (arith, long)))

pub values_zipped : (keys hashes : Hashes) → length keys ≡ length hashes →
    values_of (zip keys hashes) ≡ hashes
values_zipped [] [] long = refl
values_zipped [] (h ∷ hs) long = absurd (omega (arith, long))
values_zipped (k ∷ ks) [] long = absurd (omega (arith, long))
values_zipped (k ∷ ks) (h ∷ hs) long =
    ap (λ (xs : Hashes). h ∷ xs) (values_zipped ks hs (omega (arith, long)))

pub length_zipped : (keys hashes : Hashes) → length keys ≡ length hashes →
    length (zip keys hashes) ≡ length hashes
length_zipped keys hashes long =
    sym (length-map (zip keys hashes) (λ (e : Entry). e.1)) ∙ ap length (values_zipped keys hashes long)

rising_rest : (keys : Hashes) (k : ℕ) → AreRising keys → AreRising (drop k keys)
rising_rest keys k rising i j less within =
    ap (λ (z : List ℕ). byte_order z (get_or (drop k keys) j [])) (get_or-drop k keys i [])
    ∙ ap (byte_order (get_or keys (k + i) [])) (get_or-drop k keys j [])
    ∙ rising (k + i) (k + j) (omega (arith, less)) (omega (arith, within, length-drop k keys))

module _ (keys hashes : Hashes) (leaves : KeyedHashes) (hashes' : Hashes) (places : List ℕ)
    (keys'' hashes'' : Hashes) (first : ℕ)
    (f : IsPutFront keys leaves hashes hashes' places)
    (r : IsPutRest keys hashes' (drop (length places) leaves) keys'' hashes'' first) where
  abbrev k : ℕ
  k = length places

  all_are_put : zip keys'' hashes'' ≡ all_put (zip keys hashes) leaves
  all_are_put =
      r.put ∙ ap (λ (es : KeyedHashes). all_put es (drop k leaves)) f.put
      ∙ sym (all_put-append (zip keys hashes) (take k leaves) (drop k leaves))
      ∙ ap (all_put (zip keys hashes)) (take-append-drop k leaves)

  no_fewer : length hashes ≤ length hashes''
  no_fewer = let more = r.more in omega (arith, more, f.long)

  changed : IsChanged hashes hashes'' places first
  changed =
      let more = r.more in
      let reach = r.reach in
      let long = f.long in
      record {
        reach = omega (arith, reach, long);
        whole = λ none. omega (arith, more, reach, long, none);
        same = λ i less spares. r.same i less ∙ f.same i spares;
      }

  module _ (ended : k < length leaves → Contains keys (get_or (keys_of leaves) k []) → ⊥) where
    abbrev long_keys : length (keys_of leaves) ≡ length leaves
    long_keys = length-map leaves (λ (e : Entry). e.0)

    all_old : AreOldKeys keys (keys_of leaves) → (k ≡ length leaves) × (first ≡ length hashes'')
    all_old olds =
        let few = f.few in
        elim (cases_lt k (length leaves)) [
          | inl less ↦ absurd (ended less (olds k (omega (arith, less, long_keys))))
          | inr all ↦ (omega (arith, all, few), r.none (omega (arith, length-drop k leaves, all)))
        ]

    module _ (rising : AreRising (keys_of leaves)) (there : AreRising (keys_of (drop k leaves)) →
        0 < length (drop k leaves) → IsAt keys'' (get_or (keys_of (drop k leaves)) 0 []) first) where
      some_new : (before place : ℕ) → IsFirstNew keys keys'' (keys_of leaves) before place →
          (k ≡ before) × (first ≡ place)
      some_new before place new =
          let some = new.some in
          let same : k ≡ before = elim (cases_lt before k) [
            | inl early ↦
                absurd (new.fresh (front_found keys leaves hashes hashes' places f before early))
            | inr late ↦ elim (cases_lt k before) [
              | inl less ↦ absurd (ended (omega (arith, less, some, long_keys)) (new.olds k less))
              | inr equal ↦ omega (arith, late, equal)
            ]
          ] in
          let split : keys_of (drop k leaves) ≡ drop k (keys_of leaves) =
          sym (drop-map (λ (e : Entry). e.0) k leaves) in
          let at = there (subst AreRising (sym split) (rising_rest (keys_of leaves) k rising))
          (omega (arith, length-drop k leaves, some, same, long_keys)) in
          let end : k + 0 ≡ before = omega (arith, same) in
          let key : get_or (keys_of (drop k leaves)) 0 [] ≡ get_or (keys_of leaves) before [] =
          ap (λ (ks : Hashes). get_or ks 0 []) split ∙ get_or-drop k (keys_of leaves) 0 []
          ∙ ap (λ (m : ℕ). get_or (keys_of leaves) m []) end in (
            same,
            sym (one_place keys'' (get_or (keys_of (drop k leaves)) 0 []) first place r.kept.rising at
                new.within (new.here ∙ sym key)),
          )

      pub all_put_is : IsPutAll keys hashes leaves keys'' hashes'' places first
      all_put_is = record {
        kept = r.kept;
        put = all_are_put;
        more = no_fewer;
        changed = changed;
        rising = front_rising keys leaves hashes hashes' places f rising;
        olds = all_old;
        new = some_new;
      }

-- ---- how many joins that takes

pub few_named : (k k' n n' first height start end : ℕ) → k' ≡ k → n' ≡ n →
    end ≤ start + most_joins k' (n' - first) height → end ≤ start + most_joins k (n - first) height
few_named k k' n n' first height start end same_k same_n bound = rw (same_k, same_n) at bound

pub few_old : (k n first height h start end count : ℕ) → IsHeight n height → n ≤ 2 ^ h → k ≡ count → first ≡ n →
    end ≤ start + most_joins k (n - first) height → end ≤ start + count * h
few_old k n first height h start end count tall fits same all bound =
    let is = most_none k (n - first) height (omega (arith, all)) in
    let room = more_room k height h (least height n h tall fits) in
    rw (← same) (omega (arith, bound, is, room))

pub few_new : (k n first height h start end before place : ℕ) → IsHeight n height → n ≤ 2 ^ h → k ≡ before →
    first ≡ place → place < n → end ≤ start + most_joins k (n - first) height →
    end ≤ start + (n - place) + (before + 1) * h
few_new k n first height h start end before place tall fits same here within bound =
    let is = most_some k (n - first) height (omega (arith, here, within)) in
    let room = more_room (k + 1) height h (least height n h tall fits) in
    rw (← same, ← here) (omega (arith, bound, is, room))

-- of one leaf
pub few_joins : (is_new : Bool) (n start end : ℕ) → end ≤ start + (n - 1) →
    (is_new ≡ false → (h : ℕ) → n ≤ 2 ^ h → end ≤ start + 1 * h) → FewJoins is_new n (end - start)
few_joins true n start end once few = omega (arith, once)
few_joins false n start end once few = (
  omega (arith, once),
  λ some. least_height n (end - start) some (λ h fits. omega (arith, few refl h fits)),
)
