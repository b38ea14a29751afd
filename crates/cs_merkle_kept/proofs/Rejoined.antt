-- Nodes at rising places are made anew one after the other.
use Rattle.std.proofs.Common.{◌≡◌, ℕ, ◌+◌, ◌*◌, ◌<◌, ◌≤◌, get_or, set, ◌⊎◌, inl, inr, List, [], length, take, sym, ap, ◌∙◌, subst, arith}
use Rattle.std.specs.List.Sorted.{IsNonDecreasing}
use Rattle.std.proofs.lemmas.Bool.{cases_eq}
use Rattle.std.proofs.lemmas.List.{length-set, get_or-set_same, get_or-set_other, get_or-take, ext_get_or, length-take-le}
use Rattle.cs_merkle_kept.specs.Levels.{parents, parent_at}
use Rattle.cs_merkle_kept.specs.Changes.{SparesFrom}
use Rattle.cs_merkle_kept.proofs.Hashes.{Hashes}
use Rattle.cs_merkle_kept.proofs.Parents.{length-parents, get-parents}

-- After so many of the places: the nodes before `next` are right, and so are those that none of the places to come is.
pub record IsRejoined (below above : Hashes) (places : List ℕ) (done next : ℕ) : Type 0 where
  pub front : (j : ℕ) → j < next → get_or above j [] ≡ parent_at below j
  pub others : (j : ℕ) → j < length above → SparesFrom done places j →
      get_or above j [] ≡ parent_at below j
  pub ahead : (i : ℕ) → done ≤ i → i < length places → next ≤ get_or places i 0 + 1
  pub within : next ≤ length above

pub begun : (below above : Hashes) (places : List ℕ) →
    ((j : ℕ) → j < length above → SparesFrom 0 places j → get_or above j [] ≡ parent_at below j) →
    IsRejoined below above places 0 0
begun below above places others = record {
  front = λ j none. absurd (omega (arith, none));
  others = others;
  ahead = λ i low high. omega arith;
  within = omega arith;
}

spared_one : (places : List ℕ) (done j : ℕ) → SparesFrom (done + 1) places j →
    (get_or places done 0 ≡ j → ⊥) → SparesFrom done places j
spared_one places done j spares other i low high is =
    elim (cases_eq i done) [
      | inl same ↦ other (ap (λ (m : ℕ). get_or places m 0) (sym same) ∙ is)
      | inr apart ↦ spares i (omega (arith, low, apart)) high is
    ]

-- a place that was made anew before, or is behind the end
pub skipped : (below above : Hashes) (places : List ℕ) (done next place : ℕ) →
    done < length places → get_or places done 0 ≡ place →
    (place < next) ⊎ (length above ≤ place) → IsRejoined below above places done next →
    IsRejoined below above places (done + 1) next
skipped below above places done next place there is outside r = record {
  front = r.front;
  others = λ j within spares. elim (cases_eq place j) [
    | inl same ↦ elim outside [
      | inl before ↦ r.front j (omega (arith, before, same))
      | inr behind ↦ absurd (omega (arith, behind, same, within))
    ]
    | inr apart ↦ r.others j within (spared_one places done j spares (λ e. apart (sym is ∙ e)))
  ];
  ahead = λ i low high. r.ahead i (omega (arith, low)) high;
  within = r.within;
}

-- a place whose node is made anew
pub remade : (below above : Hashes) (places : List ℕ) (done next place : ℕ) →
    IsNonDecreasing places → done < length places → get_or places done 0 ≡ place →
    next ≤ place → place < length above → IsRejoined below above places done next →
    IsRejoined below (set above place (parent_at below place)) places (done + 1) (place + 1)
remade below above places done next place rising there is low high r =
    let new : Hashes = set above place (parent_at below place) in
    let long : length new ≡ length above = length-set above place (parent_at below place) in
    let here : get_or new place [] ≡ parent_at below place =
    get_or-set_same above place (parent_at below place) [] high in
    let elsewhere : (j : ℕ) → (j ≡ place → ⊥) → get_or new j [] ≡ get_or above j [] =
    λ j apart. get_or-set_other above place j (parent_at below place) [] apart in
    let to_come : (i : ℕ) → done ≤ i → i < length places → place ≤ get_or places i 0 =
    λ i after within. omega (arith, rising done i 0 after within, is) in
    record {
      front = λ j before. elim (cases_eq j place) [
        | inl same ↦ subst (λ (m : ℕ). get_or new m [] ≡ parent_at below m) (sym same) here
        | inr apart ↦ elsewhere j apart
            ∙ r.others j (omega (arith, before, high))
            (λ i after within e. apart (omega (arith, to_come i after within, e, before)))
      ];
      others = λ j within spares. elim (cases_eq j place) [
        | inl same ↦ subst (λ (m : ℕ). get_or new m [] ≡ parent_at below m) (sym same) here
        | inr apart ↦ elsewhere j apart
            ∙ r.others j (omega (arith, within, long))
            (spared_one places done j spares (λ e. apart (sym e ∙ is)))
      ];
      ahead = λ i after within. omega (arith, to_come i (omega (arith, after)) within);
      within = omega (arith, high, long);
    }

pub all_remade : (below above : Hashes) (places : List ℕ) (done next : ℕ) →
    length places ≤ done → 2 * length above ≤ length below + 1 →
    IsRejoined below above places done next → above ≡ take (length above) (parents below)
all_remade below above places done next all few r =
    let n = length above in
    let room : n ≤ length (parents below) = omega (arith, few, length-parents below) in
    ext_get_or [] above (take n (parents below)) (sym (length-take-le n (parents below) room))
    (λ j within. r.others j within (λ i low high. absurd (omega (arith, low, high, all)))
    ∙ sym (get-parents below j (omega (arith, within, few)))
    ∙ sym (get_or-take n (parents below) j [] within))
