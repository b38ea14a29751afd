-- Keys in order: where one stands, and what is put under it.
use Rattle.std.proofs.Common.{◌≡◌, ℕ, zero, suc, ◌+◌, ◌-◌, ◌<◌, ◌≤◌, get_or, set, inl, inr, List, [], ◌∷◌, length, refl, sym, ap, ◌∙◌, arith}
use Rattle.std.specs.Prelude.{◌↔◌, false, Result, Ok, Err, Contains, IsTrue, MatchResult, is_err, zip}
use Rattle.std.specs.List.{insert}
use Rattle.std.specs.Ordering.{ordering_reverse}
use Rattle.std.specs.declared.cmp.Ordering.TheVariants.{Less, Equal, Greater}
use Rattle.std.specs.BTreeMap.{insert_entry}
use Rattle.std.proofs.lemmas.Bool.{false≢true, cases_lt, cases_eq}
use Rattle.std.proofs.lemmas.Cmp.{nat_list_cmp_total, tied_itself}
use Rattle.std.proofs.lemmas.Map.Lookups.{exact_bytes}
use Rattle.std.proofs.lemmas.List.{length-set, get_or-set_other, get_or_default}
use Rattle.std.proofs.lemmas.List.Edits.{length-insert, get_or-insert_below, get_or-insert_at, get_or-insert_above}
use Rattle.cs_merkle_kept.specs.Leaves.{KeyedHashes, byte_order, AreRising, IsAt, IsGap}
use Rattle.cs_merkle_kept.specs.Kept.{AreKept}
use Rattle.cs_merkle_kept.specs.Puts.{IsPutOne}
use Rattle.cs_merkle_kept.proofs.Hashes.{Hashes}

-- ---- the order

pub back_greater : (x y : List ℕ) → byte_order x y ≡ Less → byte_order y x ≡ Greater
back_greater x y less = nat_list_cmp_total.antisymm y x ∙ ap ordering_reverse less

pub back_less : (x y : List ℕ) → byte_order x y ≡ Greater → byte_order y x ≡ Less
back_less x y greater = nat_list_cmp_total.antisymm y x ∙ ap ordering_reverse greater

pub self_equal : (x : List ℕ) → byte_order x x ≡ Equal
self_equal x = tied_itself nat_list_cmp_total x

pub same_key : (x y : List ℕ) → byte_order x y ≡ Equal → x ≡ y
same_key x y same = exact_bytes x y same

pub not_both : (x y : List ℕ) → byte_order x y ≡ Less → byte_order x y ≡ Greater → ⊥
not_both x y less greater = let bad : Less ≡ Greater = sym less ∙ greater in cc

pub not_less : (x y : List ℕ) → x ≡ y → byte_order x y ≡ Less → ⊥
not_less x y same less =
    let bad : Equal ≡ Less = sym (self_equal x) ∙ ap (λ (z : List ℕ). byte_order x z) same ∙ less in cc

pub not_greater : (x y : List ℕ) → x ≡ y → byte_order x y ≡ Greater → ⊥
not_greater x y same greater =
    let bad : Equal ≡ Greater = sym (self_equal x) ∙ ap (λ (z : List ℕ). byte_order x z) same ∙ greater in cc

-- a key more, greater than the last one
pub rising_more : (keys : Hashes) (i : ℕ) → 0 < i →
    ((a b : ℕ) → a < b → b < i → byte_order (get_or keys a []) (get_or keys b []) ≡ Less) →
    byte_order (get_or keys (i - 1) []) (get_or keys i []) ≡ Less →
    (a b : ℕ) → a < b → b < i + 1 → byte_order (get_or keys a []) (get_or keys b []) ≡ Less
rising_more keys i some before here a b less within =
    elim (cases_lt b i) [
      | inl front ↦ before a b less front
      | inr back ↦
          let last : b ≡ i = omega (arith, back, within) in
          let to : byte_order (get_or keys a []) (get_or keys i []) ≡ Less = elim (cases_eq a (i - 1)) [
            | inl same ↦
                ap (λ (m : ℕ). byte_order (get_or keys m []) (get_or keys i [])) same ∙ here
            | inr apart ↦
                nat_list_cmp_total.trans (get_or keys a []) (get_or keys (i - 1) []) (get_or keys i [])
                (before a (i - 1) (omega (arith, less, last, apart)) (omega (arith, some))) here
          ] in
          ap (λ (m : ℕ). byte_order (get_or keys a []) (get_or keys m [])) last ∙ to
    ]

-- ---- a key that stands at a place, and one that isn't there

pub at_contains : (keys : Hashes) (key : List ℕ) (place : ℕ) → IsAt keys key place → Contains keys key
at_contains keys key place at = (
  place,
  at.within,
  get_or_default keys place key [] at.within ∙ sym (same_key key (get_or keys place []) at.here),
)

pub gap_spares : (keys : Hashes) (key : List ℕ) (place : ℕ) → IsGap keys key place →
    Contains keys key → ⊥
gap_spares keys key place gap (i, within, is) =
    let same : key ≡ get_or keys i [] = sym (get_or_default keys i [] key within ∙ is) in
    elim (cases_lt i place) [
      | inl before ↦ not_greater key (get_or keys i []) same (gap.below i before)
      | inr behind ↦ not_less key (get_or keys i []) same (gap.above i behind within)
    ]

-- what a search tells
pub told_new : (keys : Hashes) (key : List ℕ) (r : Result ℕ ℕ) →
    MatchResult r (IsAt keys key) (IsGap keys key) → IsTrue (is_err r) ↔ (Contains keys key → ⊥)
told_new keys key (Ok place) at =
    (λ bad. absurd (false≢true bad), λ no. absurd (no (at_contains keys key place at)))
told_new keys key (Err place) gap = (λ _. gap_spares keys key place gap, λ _. refl)

pub told_old : (keys : Hashes) (key : List ℕ) (r : Result ℕ ℕ) →
    MatchResult r (IsAt keys key) (IsGap keys key) → is_err r ≡ false → Contains keys key
told_old keys key (Ok place) at old = at_contains keys key place at
told_old keys key (Err place) gap old = absurd (false≢true (sym old))

-- it stands at one place alone
pub one_place : (keys : Hashes) (key : List ℕ) (place i : ℕ) → AreRising keys → IsAt keys key place →
    i < length keys → get_or keys i [] ≡ key → i ≡ place
one_place keys key place i rising at within is =
    elim (cases_lt i place) [
      | inl before ↦ absurd (not_greater key (get_or keys i []) (sym is) (at.below i before))
      | inr behind ↦ elim (cases_eq i place) [
        | inl same ↦ same
        | inr apart ↦
            let here = same_key key (get_or keys place []) at.here in
            absurd (not_less (get_or keys place []) (get_or keys i []) (sym here ∙ sym is)
            (rising place i (omega (arith, behind, apart)) within))
      ]
    ]

not_behind : (keys : Hashes) (key : List ℕ) (place i : ℕ) → AreRising keys → IsAt keys key place →
    place ≤ i → i < length keys → byte_order key (get_or keys i []) ≡ Greater → ⊥
not_behind keys key place i rising at behind within greater =
    let here = same_key key (get_or keys place []) at.here in
    elim (cases_eq i place) [
      | inl same ↦
          not_greater key (get_or keys i []) (here ∙ ap (λ (m : ℕ). get_or keys m []) (sym same)) greater
      | inr apart ↦
          not_both (get_or keys place []) (get_or keys i [])
          (rising place i (omega (arith, behind, apart)) within)
          (ap (λ (k : List ℕ). byte_order k (get_or keys i [])) (sym here) ∙ greater)
    ]

-- ---- putting one

replaced : (keys hashes : Hashes) (key hash : List ℕ) (place : ℕ) → length keys ≡ length hashes →
    IsAt keys key place →
    insert_entry byte_order (zip keys hashes) key hash ≡ zip keys (set hashes place hash)
replaced [] hashes key hash place long at = absurd (omega (arith, at.within))
replaced (k ∷ ks) [] key hash place long at = absurd (omega (arith, long))
replaced (k ∷ ks) (h ∷ hs) key hash zero long at = rw at.here refl
replaced (k ∷ ks) (h ∷ hs) key hash (suc place) long at =
    rw (at.below 0 (omega arith))
    (ap (λ (es : KeyedHashes). (k, h) ∷ es)
    (replaced ks hs key hash place (omega (arith, long)) (record {
      within = omega (arith, at.within);
      below = λ i less. at.below (suc i) (omega (arith, less));
      here = at.here;
    })))

inserted : (keys hashes : Hashes) (key hash : List ℕ) (place : ℕ) → length keys ≡ length hashes →
    IsGap keys key place → insert_entry byte_order (zip keys hashes) key hash
    ≡ zip (insert keys place key) (insert hashes place hash)
inserted [] [] key hash zero long gap = refl
inserted [] [] key hash (suc place) long gap = absurd (omega (arith, gap.within))
inserted [] (h ∷ hs) key hash place long gap = absurd (omega (arith, long))
inserted (k ∷ ks) [] key hash place long gap = absurd (omega (arith, long))
inserted (k ∷ ks) (h ∷ hs) key hash zero long gap = rw (gap.above 0 (omega arith) (omega arith)) refl
inserted (k ∷ ks) (h ∷ hs) key hash (suc place) long gap =
    rw (gap.below 0 (omega arith))
    (ap (λ (es : KeyedHashes). (k, h) ∷ es)
    (inserted ks hs key hash place (omega (arith, long)) (record {
      within = omega (arith, gap.within);
      below = λ i less. gap.below (suc i) (omega (arith, less));
      above = λ i low high. gap.above (suc i) (omega (arith, low)) (omega (arith, high));
    })))

-- two that are in order stay so under other names
in_order : (x x' y y' : List ℕ) → x ≡ x' → y ≡ y' → byte_order x' y' ≡ Less → byte_order x y ≡ Less
in_order x x' y y' a b less =
    ap (λ (z : List ℕ). byte_order z y) a ∙ ap (λ (z : List ℕ). byte_order x' z) b ∙ less

get_inserted : (keys : Hashes) (key : List ℕ) (place i : ℕ) → place ≤ length keys → place < i →
    get_or (insert keys place key) i [] ≡ get_or keys (i - 1) []
get_inserted keys key place i within behind =
    let e : i ≡ (i - 1) + 1 = omega (arith, behind) in
    ap (λ (m : ℕ). get_or (insert keys place key) m []) e
    ∙ get_or-insert_above keys place key [] (i - 1) (omega (arith, behind)) within

rising_inserted : (keys : Hashes) (key : List ℕ) (place : ℕ) → AreRising keys → IsGap keys key place →
    AreRising (insert keys place key)
rising_inserted keys key place rising gap i j less high =
    let new : Hashes = insert keys place key in
    let in_range = gap.within in
    let long = length-insert keys place key gap.within in
    elim (cases_lt j place) [
      | inl before ↦
          in_order (get_or new i []) (get_or keys i []) (get_or new j []) (get_or keys j [])
          (get_or-insert_below keys place key [] i (omega (arith, less, before)) gap.within)
          (get_or-insert_below keys place key [] j before gap.within)
          (rising i j less (omega (arith, before, in_range)))
      | inr later ↦ elim (cases_eq j place) [
        | inl same ↦
            in_order (get_or new i []) (get_or keys i []) (get_or new j []) key
            (get_or-insert_below keys place key [] i (omega (arith, less, same)) gap.within)
            (ap (λ (m : ℕ). get_or new m []) same ∙ get_or-insert_at keys place key [] gap.within)
            (back_less key (get_or keys i []) (gap.below i (omega (arith, less, same))))
        | inr apart ↦
            let after : place < j = omega (arith, later, apart) in
            let there = get_inserted keys key place j gap.within after in
            elim (cases_lt i place) [
              | inl before ↦
                  in_order (get_or new i []) (get_or keys i []) (get_or new j [])
                  (get_or keys (j - 1) [])
                  (get_or-insert_below keys place key [] i before gap.within) there
                  (rising i (j - 1) (omega (arith, before, after)) (omega (arith, high, long, after)))
              | inr behind ↦ elim (cases_eq i place) [
                | inl here ↦
                    in_order (get_or new i []) key (get_or new j []) (get_or keys (j - 1) [])
                    (ap (λ (m : ℕ). get_or new m []) here
                    ∙ get_or-insert_at keys place key [] gap.within)
                    there
                    (gap.above (j - 1) (omega (arith, after)) (omega (arith, high, long, after)))
                | inr beyond ↦
                    in_order (get_or new i []) (get_or keys (i - 1) []) (get_or new j [])
                    (get_or keys (j - 1) [])
                    (get_inserted keys key place i gap.within (omega (arith, behind, beyond))) there
                    (rising (i - 1) (j - 1) (omega (arith, less, behind, beyond))
                    (omega (arith, high, long, after)))
              ]
            ]
      ]
    ]

pub put_at : (keys hashes : Hashes) (key hash : List ℕ) (place : ℕ) → AreKept keys hashes →
    IsAt keys key place → IsPutOne keys hashes (key, hash) keys (set hashes place hash) place
put_at keys hashes key hash place kept at =
    let long = kept.long in
    let long_set = length-set hashes place hash in
    let in_range = at.within in
    record {
      kept = record { long = omega (arith, long, long_set); rising = kept.rising };
      put = sym (replaced keys hashes key hash place kept.long at);
      more = omega (arith, long_set);
      reach = omega (arith, in_range, long);
      same_hash = λ i less.
          get_or-set_other hashes place i hash [] (λ same. omega (arith, same, less));
      same_key = λ i less. refl;
      here = at;
      behind = λ i within greater. elim (cases_lt i place) [
        | inl less ↦ less
        | inr more ↦ absurd (not_behind keys key place i kept.rising at more within greater)
      ];
    }

pub put_in : (keys hashes : Hashes) (key hash : List ℕ) (place : ℕ) → AreKept keys hashes →
    IsGap keys key place →
    IsPutOne keys hashes (key, hash) (insert keys place key) (insert hashes place hash) place
put_in keys hashes key hash place kept gap =
    let long = kept.long in
    let in_range = gap.within in
    let within : place ≤ length hashes = omega (arith, long, in_range) in
    let long_keys = length-insert keys place key gap.within in
    let long_hashes = length-insert hashes place hash within in
    record {
      kept = record {
        long = omega (arith, long, long_keys, long_hashes);
        rising = rising_inserted keys key place kept.rising gap;
      };
      put = sym (inserted keys hashes key hash place kept.long gap);
      more = omega (arith, long_hashes);
      reach = within;
      same_hash = λ i less. get_or-insert_below hashes place hash [] i less within;
      same_key = λ i less. get_or-insert_below keys place key [] i less gap.within;
      here = record {
        within = omega (arith, long_keys, in_range);
        below = λ i less.
            ap (byte_order key) (get_or-insert_below keys place key [] i less gap.within)
            ∙ gap.below i less;
        here = ap (byte_order key) (get_or-insert_at keys place key [] gap.within)
            ∙ self_equal key;
      };
      behind = λ i there greater. elim (cases_lt i place) [
        | inl less ↦ less
        | inr more ↦ absurd (not_both key (get_or keys i []) (gap.above i more there) greater)
      ];
    }
