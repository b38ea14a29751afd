-- What changed on a level is what changed on the level above.
use Rattle.std.proofs.Common.{◌≡◌, ℕ, zero, suc, ◌+◌, ◌*◌, ◌/◌, ◌<◌, ◌≤◌, get_or, inl, inr, List, [], ◌∷◌, ◌++◌, length, take, replicate, refl, sym, ap, ◌∙◌, subst, arith}
use Rattle.std.specs.List.Sorted.{IsNonDecreasing}
use Rattle.std.proofs.lemmas.Bool.{cases_lt, lt-ltb, le-ltb}
use Rattle.std.proofs.lemmas.List.{length-map, get_or-take, get_or_default}
use Rattle.cs_merkle_kept.specs.Levels.{parents, parent_at, AreLevels, IsHeight}
use Rattle.cs_merkle_kept.specs.Changes.{Spares, IsChanged, kept_above, halved, AreOld, IsStale, WereOver}
use Rattle.cs_merkle_kept.proofs.Hashes.{Hashes}
use Rattle.cs_merkle_kept.proofs.Parents.{length-parents, get-parents, joined, alone}

-- where some moved, and where none did
pub kept_some : (first count : ℕ) → first < count → kept_above first count ≡ first / 2
kept_some first count some = rw (lt-ltb first count some) refl

pub kept_all : (first count : ℕ) → count ≤ first → kept_above first count ≡ (count + 1) / 2
kept_all first count none = rw (le-ltb first count none) refl

get-halved : (places : List ℕ) (i : ℕ) → get_or (halved places) i 0 ≡ get_or places i 0 / 2
get-halved [] i = refl
get-halved (p ∷ ps) zero = refl
get-halved (p ∷ ps) (suc i) = get-halved ps i

pub halved-rising : (places : List ℕ) → IsNonDecreasing places → IsNonDecreasing (halved places)
halved-rising places rising i j d low high =
    let long = length-map places (λ p. p / 2) in
    let at : (k : ℕ) → k < length places → get_or (halved places) k d ≡ get_or places k 0 / 2 =
    λ k within. get_or_default (halved places) k d 0 (omega (arith, within, long)) ∙ get-halved places k in
    omega (
      arith,
      at i (omega (arith, low, high, long)),
      at j (omega (arith, high, long)),
      rising i j 0 low (omega (arith, high, long)),
    )

-- a node that no halved place names is over two that none names
spared_below : (places : List ℕ) (j i : ℕ) → i / 2 ≡ j → Spares (halved places) j → Spares places i
spared_below places j i half spares k low high is =
    spares k low (omega (arith, high, length-map places (λ p. p / 2)))
    (get-halved places k ∙ ap (λ (m : ℕ). m / 2) is ∙ half)

module _ (old new : Hashes) (places : List ℕ) (first : ℕ) (c : IsChanged old new places first) where
  -- what is kept lies over what is kept
  pub kept_within : (kept_above first (length new) ≤ length (parents old))
      × (2 * kept_above first (length new) ≤ length new + 1)
  kept_within =
      let long = length-parents old in
      let reach = c.reach in
      elim (cases_lt first (length new)) [
        | inl some ↦
            let is = kept_some first (length new) some in
            (omega (arith, is, long, reach), omega (arith, is, some))
        | inr none ↦
            let is = kept_all first (length new) none in
            (omega (arith, is, long, c.whole none), omega (arith, is))
      ]

  pub same_parent : (j : ℕ) → j < kept_above first (length new) → Spares (halved places) j →
      parent_at new j ≡ parent_at old j
  same_parent j kept spares =
      let reach = c.reach in
      let same_left : 2 * j < first → get_or new (2 * j) [] ≡ get_or old (2 * j) [] =
      λ before. c.same (2 * j) before (spared_below places j (2 * j) (omega arith) spares) in
      let same_right : 2 * j + 1 < first → get_or new (2 * j + 1) [] ≡ get_or old (2 * j + 1) [] =
      λ before. c.same (2 * j + 1) before (spared_below places j (2 * j + 1) (omega arith) spares) in
      elim (cases_lt first (length new)) [
        | inl some ↦
            let is = kept_some first (length new) some in
            let right : 2 * j + 1 < first = omega (arith, kept, is) in
            let left : 2 * j < first = omega (arith, right) in
            joined new j (omega (arith, right, some))
            ∙ rw (same_left left, same_right right) (sym (joined old j (omega (arith, right, reach))))
        | inr none ↦
            let is = kept_all first (length new) none in
            let long = c.whole none in
            let left : 2 * j < first = omega (arith, kept, is, none) in
            elim (cases_lt (2 * j + 1) (length new)) [
              | inl two ↦
                  joined new j two
                  ∙ rw (same_left left, same_right (omega (arith, two, none)))
                  (sym (joined old j (omega (arith, two, long))))
              | inr one ↦
                  alone new j one ∙ same_left left ∙ sym (alone old j (omega (arith, one, long)))
            ]
      ]

  pub changed_above : IsChanged (parents old) (parents new) (halved places)
      (kept_above first (length new))
  changed_above =
      let long_old = length-parents old in
      let long_new = length-parents new in
      let within = kept_within in
      record {
        reach = within.0;
        whole = λ none. elim (cases_lt first (length new)) [
          | inl some ↦ absurd (omega (arith, kept_some first (length new) some, some, long_new, none))
          | inr all ↦ omega (arith, c.whole all, long_old, long_new)
        ];
        same = λ j kept spares.
            get-parents new j (omega (arith, kept, within.1))
            ∙ same_parent j kept spares
            ∙ sym (get-parents old j (omega (arith, kept, within.0, long_old)));
      }

-- ---- the levels that were, with those that are added

-- what a level that is to be made anew needs, and the levels above it then
pub record IsFirstStale (below level : Hashes) (levels : List Hashes) (places : List ℕ) (first kept : ℕ)
    : Type 0 where
  pub within : kept ≤ length level
  pub few : 2 * kept ≤ length below + 1
  pub others : (j : ℕ) → j < kept → Spares (halved places) j →
      get_or level j [] ≡ parent_at below j
  pub above : IsStale (parents below) levels (halved places) kept

pub first_stale : (below level : Hashes) (levels : List Hashes) (places : List ℕ) (first : ℕ) →
    IsStale below (level ∷ levels) places first →
    IsFirstStale below level levels places first (kept_above first (length below))
first_stale below level levels places first s =
    let kept = kept_above first (length below) in
    let (less, same, above) = s.kept in
    let within = kept_within s.old below places first s.changed in
    let long = length-parents s.old in
    record {
      within = less;
      few = within.1;
      others = λ j before spares.
          sym (get_or-take kept level j [] before)
          ∙ ap (λ (xs : Hashes). get_or xs j []) same
          ∙ get_or-take kept (parents s.old) j [] before
          ∙ get-parents s.old j (omega (arith, before, within.0, long))
          ∙ sym (same_parent s.old below places first s.changed j before spares);
      above = record {
        old = parents s.old;
        changed = changed_above s.old below places first s.changed;
        kept = subst (λ (n : ℕ). AreOld (parents s.old) levels n kept)
            (sym (length-parents below)) above;
      };
    }

none_kept : (first count : ℕ) → first ≤ 1 → 1 < count → kept_above first count ≡ 0
none_kept first count few many = omega (arith, kept_some first count (omega (arith, few, many)), few)

added : (m count first : ℕ) (old : Hashes) → length old ≤ 1 → first ≤ length old →
    IsHeight count m → AreOld old (replicate m []) count first
added zero count first old few reach height = tt
added (suc m) count first old few reach height =
    let none = none_kept first count (omega (arith, few, reach)) height.0 in
    let long = length-parents old in (
      omega (arith, none),
      rw none refl,
      rw none (added m ((count + 1) / 2) 0 (parents old) (omega (arith, long, few)) (omega arith) height.1),
    )

kept_reach : (count first : ℕ) (old : Hashes) → first ≤ length old →
    (count ≤ first → length old ≡ count) → (kept_above first count ≤ length (parents old))
    × ((count + 1) / 2 ≤ kept_above first count → length (parents old) ≡ (count + 1) / 2)
kept_reach count first old reach whole =
    let long = length-parents old in
    elim (cases_lt first count) [
      | inl some ↦
          let is = kept_some first count some in
          (omega (arith, is, long, reach), λ all. absurd (omega (arith, is, all, some)))
      | inr none ↦
          let is = kept_all first count none in
          (omega (arith, is, long, whole none), λ all. omega (arith, long, whole none))
    ]

pub still_old : (levels : List Hashes) (m count first : ℕ) (old : Hashes) →
    IsHeight (length old) (length levels) → AreLevels old levels → first ≤ length old →
    (count ≤ first → length old ≡ count) → IsHeight count (length levels + m) →
    AreOld old (levels ++ replicate m []) count first
still_old [] m count first old low are reach whole high =
    added m count first old low reach (let e : 0 + m ≡ m = omega arith in rw (← e) high)
still_old (level ∷ levels) m count first old low are reach whole high =
    let long = length-parents old in
    let kept = kept_above first count in
    let is : level ≡ parents old = are.0 in
    let (less, whole_above) = kept_reach count first old reach whole in
    let shape : suc (length levels) + m ≡ suc (length levels + m) = omega arith in
    let tall : IsHeight count (suc (length levels + m)) = rw shape at high in (
      omega (arith, less, ap length is),
      ap (take kept) is,
      still_old levels m ((count + 1) / 2) kept (parents old)
          (rw long low.1) (subst (λ (l : Hashes). AreLevels l levels) is are.1) less whole_above tall.1,
    )

-- levels that were over hashes, with those that are added, are stale
pub stale_grown : (hashes : Hashes) (levels : List Hashes) (places : List ℕ) (first m : ℕ) →
    WereOver hashes levels places first → IsHeight (length hashes) (length levels + m) →
    IsStale hashes (levels ++ replicate m []) places first
stale_grown hashes levels places first m w tall = record {
  old = w.old;
  changed = w.changed;
  kept = still_old levels m (length hashes) first w.old w.height w.over w.changed.reach
      w.changed.whole tall;
}
