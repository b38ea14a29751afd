-- The least active dummy among the records, which rise by their keys.
use Rattle.std.proofs.Common.{Less, Greater, ◌≡◌, ℕ, ◌<◌, ◌-◌, ◌^◌, Bool, true, false, not, cond, List, [], ◌∷◌, Option, Some, None, refl, sym, ap, ◌∙◌, subst, arith, inl, inr}
use Rattle.std.specs.Prelude.{◌==◌}
use Rattle.std.specs.List.{filter, AllByRecursion}
use Rattle.std.specs.List.Sorted.{IsStrictlySortedBy}
use Rattle.std.specs.Map.{keys_of}
use Rattle.std.specs.declared.cmp.Ordering.{Ordering}
use Rattle.std.specs.Ordering.{nat_cmp, ordering_then, is_eq, is_le, is_lt}
use Rattle.std.specs.BTreeMap.Range.{range_contains, entries_between}
use Rattle.std.specs.declared.ops.Bound.TheVariants.{Included}
use Rattle.std.proofs.lemmas.Bool.{cases_Bool, cases_lt, both_ways, and_parts, eqb-true}
use Rattle.cs_base.specs.declared.key.Key.{Key}
use Rattle.cs_base.specs.declared.key.Key.TheVariants as key
use Rattle.cs_tx_types.specs.declared.state.State.{State}
use Rattle.cs_tx_types.specs.declared.state.State.TheVariants as state
use Rattle.cs_ledger.specs.Session as ledger
use Rattle.cs_ledger.proofs.Basics.{key_refl, same_key as same_key_of}
use Rattle.cs_tx_types.specs.declared.record.Record.{Record}
use Rattle.cs_table.specs.Seen.{Stored, is_under, row_in, seen_row, seen_state, seen, AllStored, RowFits, RowsFit}
use Rattle.cs_tx.specs.Sessions.{key_seen}
use Rattle.cs_ledger.specs.Table.{is_free}
use Rattle.cs_table.specs.Dummies.{first_active, is_active, IsLeastDummy, Least, NoneActive}
use Rattle.cs_table.proofs.Rows.{key_cmp, same_key}
use Rattle.cs_base.proofs.KeyOrder.{nat_cmp-less, nat_cmp-equal, nat_cmp-greater}

abbrev Rows : Type 0
Rows = List (Key × Record)

-- the keys of a shard's dummies
abbrev pub is_dummy_of : ℕ → Key → Bool
is_dummy_of shard q = range_contains key_cmp (Included (key.Dummy shard 0)) (Included (key.Dummy shard (2 ^ 64 - 1))) q

abbrev pub dummies_among : ℕ → Rows → Rows
dummies_among shard rows = filter (λ e. is_dummy_of shard e.0) rows

-- the one that comes first, or the next one
abbrev pub or_next : ℕ → ℕ → Option Key → Key
or_next shard next (Some k) = k
or_next shard next None = key.Dummy shard next

dummies_cmp : (shard n m : ℕ) → key_cmp (key.Dummy shard n) (key.Dummy shard m) ≡ nat_cmp n m
dummies_cmp shard n m = ap (λ o. ordering_then o (nat_cmp n m)) (nat_cmp-equal shard shard refl)

active_free : (s : State) → is_free (seen_state s) ≡ is_active s
active_free state.Unknown = refl
active_free (state.Active object) = refl
active_free (state.Locked object by) = refl
active_free (state.Inactive by) = refl
active_free (state.Shared object readers) = refl

-- whether the dummy of this serial is active in the rows
abbrev free_in : Rows → ℕ → ℕ → Bool
free_in rows shard serial = is_free (seen_row (row_in rows (ledger.Dummy shard serial))).state

-- ---- the first row decides of its own key, and the others of other keys

at_head : (e : Key × Record) (rows : Rows) (shard serial : ℕ) → is_under (ledger.Dummy shard serial) e.0 ≡ true → free_in (e ∷ rows) shard serial ≡ is_active e.1.state
at_head e rows shard serial here =
    ap (λ test. is_free (seen_row (cond test (Some e.1) (row_in rows (ledger.Dummy shard serial)))).state) here ∙ active_free e.1.state

past_head : (e : Key × Record) (rows : Rows) (shard serial : ℕ) → is_under (ledger.Dummy shard serial) e.0 ≡ false → free_in (e ∷ rows) shard serial ≡ free_in rows shard serial
past_head e rows shard serial other =
    ap (λ test. is_free (seen_row (cond test (Some e.1) (row_in rows (ledger.Dummy shard serial)))).state) other

under_is : (shard serial : ℕ) (k : Key) → is_under (ledger.Dummy shard serial) k ≡ true → k ≡ key.Dummy shard serial
under_is shard serial (key.Object d) h = absurd (both_ways false refl h)
under_is shard serial (key.Dummy t m) h =
    let parts = and_parts (shard == t) (serial == m) h in
    ap (λ (s : ℕ). key.Dummy s m) (sym (eqb-true shard t parts.0)) ∙ ap (λ (n : ℕ). key.Dummy shard n) (sym (eqb-true serial m parts.1))

-- no row is under a name, where none of their keys is
absent : (k : Key) (name : ledger.Key) → ((y : Key) → key_cmp k y ≡ Less → is_under name y ≡ false) → (rows : Rows) → AllByRecursion (λ y. key_cmp k y ≡ Less) (keys_of rows) → row_in rows name ≡ None
absent k name other [] above = refl
absent k name other (e ∷ rows) above = rw (other e.0 above.0) (absent k name other rows above.1)

absent_own : (k : Key) (rows : Rows) → AllByRecursion (λ y. key_cmp k y ≡ Less) (keys_of rows) → row_in rows (key_seen k) ≡ None
absent_own k rows above = absent k (key_seen k) (λ y less. sym (same_key k y) ∙ ap is_eq less) rows above

greater_less : (o : Ordering) → o ≡ Greater → o ≡ Less → ⊥
greater_less o g l = let q : Greater ≡ Less = sym g ∙ l in cc

absent_below : (shard serial less : ℕ) → less < serial → (rows : Rows) → AllByRecursion (λ y. key_cmp (key.Dummy shard serial) y ≡ Less) (keys_of rows) → row_in rows (ledger.Dummy shard less) ≡ None
absent_below shard serial less lt rows above =
    absent (key.Dummy shard serial) (ledger.Dummy shard less)
    (λ y is_less. elim (cases_Bool (is_under (ledger.Dummy shard less) y)) [
      | inl under ↦
          let at : key_cmp (key.Dummy shard serial) (key.Dummy shard less) ≡ Less = subst (λ z. key_cmp (key.Dummy shard serial) z ≡ Less) (under_is shard less y under) is_less in
          absurd (greater_less _ (dummies_cmp shard serial less ∙ nat_cmp-greater serial less lt) at)
      | inr other ↦ other
    ])
    rows above

-- ---- the dummies of a shard lie between the first and the last that there can be

from_first : (n : ℕ) → is_le (nat_cmp 0 n) ≡ true
from_first n =
    elim (cases_lt 0 n) [
      | inl some ↦ ap is_le (nat_cmp-less 0 n some)
      | inr none ↦ ap is_le (nat_cmp-equal 0 n (omega arith))
    ]

to_last : (n : ℕ) → n < 2 ^ 64 → is_lt (nat_cmp (2 ^ 64 - 1) n) ≡ false
to_last n small =
    elim (cases_lt n (2 ^ 64 - 1)) [
      | inl below ↦ ap is_lt (nat_cmp-greater (2 ^ 64 - 1) n below)
      | inr at ↦ ap is_lt (nat_cmp-equal (2 ^ 64 - 1) n (omega arith))
    ]

dummy_is_in : (shard n : ℕ) → n < 2 ^ 64 → is_dummy_of shard (key.Dummy shard n) ≡ true
dummy_is_in shard n small =
    rw (dummies_cmp shard 0 n, dummies_cmp shard (2 ^ 64 - 1) n, from_first n, to_last n small) refl

record DummyOf (shard : ℕ) (k : Key) : Type 0 where
  serial : ℕ
  is : k ≡ key.Dummy shard serial
  small : serial < 2 ^ 64

within_last : (n : ℕ) → not (is_lt (nat_cmp (2 ^ 64 - 1) n)) ≡ true → n < 2 ^ 64
within_last n h =
    elim (cases_lt (2 ^ 64 - 1) n) [
      | inl past ↦ absurd (both_ways false refl (sym (ap (λ o. not (is_lt o)) (nat_cmp-less (2 ^ 64 - 1) n past)) ∙ h))
      | inr within ↦ omega arith
    ]

in_is_dummy : (shard : ℕ) (k : Key) → is_dummy_of shard k ≡ true → DummyOf shard k
in_is_dummy shard (key.Object d) h = absurd (both_ways false refl h)
in_is_dummy shard (key.Dummy t n) h =
    let parts = and_parts (is_le (ordering_then (nat_cmp shard t) (nat_cmp 0 n))) (not (is_lt (ordering_then (nat_cmp shard t) (nat_cmp (2 ^ 64 - 1) n)))) h in
    elim (cases_lt shard t) [
      | inl less ↦ absurd (both_ways false refl (sym (ap (λ o. not (is_lt (ordering_then o (nat_cmp (2 ^ 64 - 1) n)))) (nat_cmp-less shard t less)) ∙ parts.1))
      | inr at_least ↦ elim (cases_lt t shard) [
        | inl more ↦ absurd (both_ways false refl (sym (ap (λ o. is_le (ordering_then o (nat_cmp 0 n))) (nat_cmp-greater shard t more)) ∙ parts.0))
        | inr at_most ↦
            let same : shard ≡ t = omega arith in
            record {
              serial = n;
              is = ap (λ (s : ℕ). key.Dummy s n) (sym same);
              small = within_last n (sym (ap (λ o. not (is_lt (ordering_then o (nat_cmp (2 ^ 64 - 1) n)))) (nat_cmp-equal shard t same)) ∙ parts.1);
            }
      ]
    ]

-- ---- the scan finds the least one

-- the key is that of the least active dummy
record LeastIn (rows : Rows) (shard : ℕ) (k : Key) : Type 0 where
  serial : ℕ
  is : k ≡ key.Dummy shard serial
  small : serial < 2 ^ 64
  free : free_in rows shard serial ≡ true
  below : (less : ℕ) → less < serial → free_in rows shard less ≡ false

module _ (shard : ℕ) (e : Key × Record) (rows : Rows) (above : AllByRecursion (λ y. key_cmp e.0 y ≡ Less) (keys_of rows)) where
  none_own : (serial : ℕ) → e.0 ≡ key.Dummy shard serial → free_in rows shard serial ≡ false
  none_own serial is =
      ap (λ found. is_free (seen_row found).state) (subst (λ (k : Key). row_in rows (key_seen k) ≡ None) is (absent_own e.0 rows above))

  -- the first row is it
  least_here : DummyOf shard e.0 → is_active e.1.state ≡ true → LeastIn (e ∷ rows) shard e.0
  least_here of active = record {
    serial = of.serial;
    is = of.is;
    small = of.small;
    free = at_head e rows shard of.serial (subst (λ (k : Key). is_under (ledger.Dummy shard of.serial) k ≡ true) (sym of.is) (key_refl (ledger.Dummy shard of.serial))) ∙ active;
    below = λ less lt.
        elim (cases_Bool (is_under (ledger.Dummy shard less) e.0)) [
          | inl under ↦ absurd (let q : key.Dummy shard of.serial ≡ key.Dummy shard less = sym of.is ∙ under_is shard less e.0 under in let n : of.serial ≡ less = cc in omega arith)
          | inr other ↦
              past_head e rows shard less other
              ∙ ap (λ found. is_free (seen_row found).state) (absent_below shard of.serial less lt rows (subst (λ (k : Key). AllByRecursion (λ y. key_cmp k y ≡ Less) (keys_of rows)) of.is above))
        ];
  }

  -- it is a later one, since the first row is none
  least_later : (k : Key) → (is_dummy_of shard e.0 ≡ true → is_active e.1.state ≡ false) → LeastIn rows shard k → LeastIn (e ∷ rows) shard k
  least_later k idle least = record {
    serial = least.serial;
    is = least.is;
    small = least.small;
    free = elim (cases_Bool (is_under (ledger.Dummy shard least.serial) e.0)) [
      | inl under ↦ absurd (both_ways _ (none_own least.serial (under_is shard least.serial e.0 under)) least.free)
      | inr other ↦ past_head e rows shard least.serial other ∙ least.free
    ];
    below = λ less lt.
        elim (cases_Bool (is_under (ledger.Dummy shard less) e.0)) [
          | inl under ↦
              at_head e rows shard less under
              ∙ idle (subst (λ (k : Key). is_dummy_of shard k ≡ true) (sym (under_is shard less e.0 under)) (dummy_is_in shard less (omega (arith, lt, least.small))))
          | inr other ↦ past_head e rows shard less other ∙ least.below less lt
        ];
  }

module _ (shard : ℕ) where
  least_in : (rows : Rows) (k : Key) → IsStrictlySortedBy key_cmp (keys_of rows) → first_active (dummies_among shard rows) ≡ Some k → LeastIn rows shard k
  unfolding IsStrictlySortedBy
  least_in [] k sorted found = cc
  least_in (e ∷ rows) k sorted found =
      elim (cases_Bool (is_dummy_of shard e.0)) [
        | inl inside ↦
            let first : first_active (e ∷ dummies_among shard rows) ≡ Some k = sym (ap (λ test. first_active (cond test (e ∷ dummies_among shard rows) (dummies_among shard rows))) inside) ∙ found in
            elim (cases_Bool (is_active e.1.state)) [
              | inl active ↦
                  let q : Some e.0 ≡ Some k = sym (ap (λ test. cond test (Some e.0) (first_active (dummies_among shard rows))) active) ∙ first in
                  let same : e.0 ≡ k = cc in
                  subst (λ (z : Key). LeastIn (e ∷ rows) shard z) same (least_here shard e rows sorted.0 (in_is_dummy shard e.0 inside) active)
              | inr idle ↦
                  least_later shard e rows sorted.0 k (λ _. idle)
                  (least_in rows k sorted.1 (sym (ap (λ test. cond test (Some e.0) (first_active (dummies_among shard rows))) idle) ∙ first))
            ]
        | inr outside ↦
            least_later shard e rows sorted.0 k (λ inside. absurd (both_ways _ outside inside))
            (least_in rows k sorted.1 (sym (ap (λ test. first_active (cond test (e ∷ dummies_among shard rows) (dummies_among shard rows))) outside) ∙ found))
      ]

  none_past : (e : Key × Record) (rows : Rows) (serial : ℕ) → serial < 2 ^ 64 → (is_dummy_of shard e.0 ≡ true → is_active e.1.state ≡ false) → free_in rows shard serial ≡ false → free_in (e ∷ rows) shard serial ≡ false
  none_past e rows serial small idle later =
      elim (cases_Bool (is_under (ledger.Dummy shard serial) e.0)) [
        | inl under ↦
            at_head e rows shard serial under
            ∙ idle (subst (λ (k : Key). is_dummy_of shard k ≡ true) (sym (under_is shard serial e.0 under)) (dummy_is_in shard serial small))
        | inr other ↦ past_head e rows shard serial other ∙ later
      ]

  none_in : (rows : Rows) → first_active (dummies_among shard rows) ≡ None → (serial : ℕ) → serial < 2 ^ 64 → free_in rows shard serial ≡ false
  none_in [] none serial small = refl
  none_in (e ∷ rows) none serial small =
      elim (cases_Bool (is_dummy_of shard e.0)) [
        | inl inside ↦
            let first : first_active (e ∷ dummies_among shard rows) ≡ None = sym (ap (λ test. first_active (cond test (e ∷ dummies_among shard rows) (dummies_among shard rows))) inside) ∙ none in
            elim (cases_Bool (is_active e.1.state)) [
              | inl active ↦ absurd (let q : Some e.0 ≡ None = sym (ap (λ test. cond test (Some e.0) (first_active (dummies_among shard rows))) active) ∙ first in cc)
              | inr idle ↦
                  none_past e rows serial small (λ _. idle) (none_in rows (sym (ap (λ test. cond test (Some e.0) (first_active (dummies_among shard rows))) idle) ∙ first) serial small)
            ]
        | inr outside ↦
            none_past e rows serial small (λ inside. absurd (both_ways _ outside inside))
            (none_in rows (sym (ap (λ test. first_active (cond test (e ∷ dummies_among shard rows) (dummies_among shard rows))) outside) ∙ none) serial small)
      ]

-- what a scan of the shard's dummies gives
pub least_dummy : (s : Stored) → IsStrictlySortedBy key_cmp (keys_of s.rows) → (found : Option Key) → first_active (dummies_among s.shard s.rows) ≡ found → IsLeastDummy s.shard (seen s) (key_seen (or_next s.shard s.next found))
least_dummy s sorted None none = NoneActive (none_in s.shard s.rows none)
least_dummy s sorted (Some k) some =
    let least = least_in s.shard s.rows k sorted some in
    subst (λ (z : Key). IsLeastDummy s.shard (seen s) (key_seen z)) (sym least.is) (Least least.serial least.free least.below)

-- the rows between two keys, where these are the first and the last dummy
pub scanned : (s : Stored) (shard : ℕ) (rows range : Rows) (low high : Key) (found : Option Key) → shard ≡ s.shard → rows ≡ s.rows → low ≡ key.Dummy shard 0 → high ≡ key.Dummy shard (2 ^ 64 - 1)
    → range ≡ entries_between key_cmp (Included low) (Included high) rows → IsStrictlySortedBy key_cmp (keys_of rows) → found ≡ first_active range
    → IsLeastDummy s.shard (seen s) (key_seen (or_next s.shard s.next found))
scanned s shard rows range low high found own held first last between sorted scan =
    let ends : entries_between key_cmp (Included low) (Included high) rows ≡ dummies_among shard rows =
    ap (λ (k : Key). entries_between key_cmp (Included k) (Included high) rows) first
    ∙ ap (λ (k : Key). entries_between key_cmp (Included (key.Dummy shard 0)) (Included k) rows) last in
    least_dummy s (subst (λ (r : Rows). IsStrictlySortedBy key_cmp (keys_of r)) held sorted) found
    (ap (λ (n : ℕ). first_active (dummies_among n s.rows)) (sym own) ∙ ap (λ (r : Rows). first_active (dummies_among shard r)) (sym held) ∙ sym (ap first_active (between ∙ ends)) ∙ sym scan)

-- ---- all rows

-- each row is the one that is found under its key
pub all_stored : (rows : Rows) → IsStrictlySortedBy key_cmp (keys_of rows) → RowsFit rows → AllStored rows
unfolding IsStrictlySortedBy
all_stored [] sorted fits = tt
all_stored (e ∷ rows) sorted fits = (
  subst (λ test. RowFits (cond test (Some e.1) (row_in rows (key_seen e.0)))) (key_refl (key_seen e.0)) (fits (key_seen e.0)),
  all_stored rows sorted.1 (λ name. elim (cases_Bool (is_under name e.0)) [
    | inl under ↦
        let same : key_seen e.0 ≡ name = sym (same_key_of name (key_seen e.0) under) in
        subst RowFits (sym (subst (λ (other : ledger.Key). row_in rows other ≡ None) same (absent_own e.0 rows sorted.0))) tt
    | inr other ↦ subst (λ test. RowFits (cond test (Some e.1) (row_in rows name))) other (fits name)
  ]),
)
