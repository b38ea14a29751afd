-- A history that the ledger takes is one of which no place is broken.
use Rattle.std.proofs.Common.{◌≡◌, ◌⊎◌, inl, inr, Bool, true, false, ◌||◌, List, [], ◌∷◌, ◌++◌, map, Option, Some, None, refl, sym, ap, subst, ◌∙◌, append_assoc, append-nil}
use Rattle.std.specs.Prelude.{not, bytes_eq, find, if◌then◌else◌}
use Rattle.std.proofs.lemmas.Bool.{and_parts, and_from, or_cases, or_left, or_right, both_ways}
use Rattle.cs_base.specs.Lists.{IsIn}
use Rattle.cs_ledger.specs.Ledger.{Bytes, Item, Transaction, Ledger, names, has, all_differ, apart, ledger_after, Takes, HoldsAll, Serial}
use Rattle.cs_ledger.proofs.Basics.{same_bytes, bytes_from}
use Rattle.cs_world_law.proofs.Counting.{all-from}
use Rattle.cs_audit_rules.specs.declared.verdict.Fault.{Fault}
use Rattle.cs_audit_rules.specs.Slots.{is_just}
use Rattle.cs_audit_rules.specs.History.{first_with_digest, holds_all, takes, then_told, history_fault}
use Rattle.cs_audit_rules.proofs.Told.{has_in}

-- ---- names in lists

in_has : (name : Bytes) (others : List Bytes) → IsIn name others → has name others ≡ true
in_has name [] within = absurd within
in_has name (other ∷ others) (inl same) = or_left _ _ (bytes_from name other same)
in_has name (other ∷ others) (inr later) = or_right _ _ (in_has name others later)

pub digest_in : (tx : Transaction) (txs : List Transaction) → IsIn tx txs → has tx.digest (map (λ (t : Transaction). t.digest) txs) ≡ true
digest_in tx [] within = absurd within
digest_in tx (other ∷ txs) (inl same) = or_left _ _ (bytes_from tx.digest other.digest (ap (λ (t : Transaction). t.digest) same))
digest_in tx (other ∷ txs) (inr later) = or_right _ _ (digest_in tx txs later)

not_of : (b : Bool) → (b ≡ true → ⊥) → b ≡ false
not_of true never = absurd (never refl)
not_of false never = refl

falls : (b : Bool) → not b ≡ true → b ≡ true → ⊥
falls true is there = both_ways false refl is
falls false is there = both_ways false refl there

in_middle : (d : Bytes) (done rest : List Bytes) → has d (done ++ d ∷ rest) ≡ true
in_middle d [] rest = or_left _ _ (bytes_from d d refl)
in_middle d (x ∷ done) rest = or_right _ _ (in_middle d done rest)

-- a name that differs from all before it
not_before : (d : Bytes) (done rest : List Bytes) → all_differ (done ++ d ∷ rest) ≡ true → has d done ≡ false
not_before d [] rest differ = refl
not_before d (x ∷ done) rest differ =
    let parts = and_parts (not (has x (done ++ d ∷ rest))) (all_differ (done ++ d ∷ rest)) differ in
    not_of (bytes_eq d x || has d done)
    (λ there. elim (or_cases (bytes_eq d x) (has d done) there) [
      | inl same ↦ falls (has x (done ++ d ∷ rest)) parts.0 (subst (λ n. has n (done ++ d ∷ rest) ≡ true) (same_bytes d x same) (in_middle d done rest))
      | inr later ↦ both_ways (has d done) (not_before d done rest parts.1) later
    ])

pub differ_more : (xs : List Bytes) (d : Bytes) → all_differ xs ≡ true → has d xs ≡ false → all_differ (xs ++ d ∷ []) ≡ true
differ_more [] d differ new = refl
differ_more (x ∷ xs) d differ new =
    let parts = and_parts (not (has x xs)) (all_differ xs) differ in
    let later : has d xs ≡ false = not_of (has d xs) (λ there. both_ways (has d (x ∷ xs)) new (or_right _ _ there)) in
    let apart_end : has x (xs ++ d ∷ []) ≡ false = not_of (has x (xs ++ d ∷ []))
    (λ there. elim (has_end x xs there) [
      | inl before ↦ falls (has x xs) parts.0 before
      | inr same ↦ both_ways (has d (x ∷ xs)) new (or_left _ _ (bytes_from d x (sym same)))
    ]) in
    and_from _ _ (ap not apart_end) (differ_more xs d parts.1 later)
  where
    has_end : (name : Bytes) (ys : List Bytes) → has name (ys ++ d ∷ []) ≡ true → (has name ys ≡ true) ⊎ (name ≡ d)
    has_end name [] there = elim (or_cases (bytes_eq name d) false there) [ inl same ↦ inr (same_bytes name d same) | inr none ↦ absurd (both_ways false refl none) ]
    has_end name (y ∷ ys) there =
        elim (or_cases (bytes_eq name y) (has name (ys ++ d ∷ [])) there) [
          | inl same ↦ inl (or_left _ _ same)
          | inr later ↦ elim (has_end name ys later) [ inl before ↦ inl (or_right _ _ before) | inr last ↦ inr last ]
        ]

-- ---- the ledger

just_own : (bytes : Bytes) (found : Option Bytes) → found ≡ Some bytes → is_just bytes found ≡ true
just_own bytes found is = ap (is_just bytes) is ∙ bytes_from bytes bytes refl

holds_from : (ledger : Ledger) (items : List Item) → HoldsAll ledger items → holds_all ledger items ≡ true
holds_from ledger items holds =
    all-from (λ (item : Item). is_just item.object (ledger.active item.name)) items (λ item within. just_own item.object (ledger.active item.name) (holds item within))

apart_from : (items : List Item) (others : List Bytes) → ((item : Item) → IsIn item items → IsIn item.name others → ⊥) → apart (names items) others ≡ true
apart_from [] others never = refl
apart_from (item ∷ items) others never =
    and_from _ _ (ap not (not_of (has item.name others) (λ there. never item (inl refl) (has_in item.name others there))))
    (apart_from items others (λ other within there. never other (inr within) there))

takes_from : (ledger : Ledger) (tx : Transaction) → Takes ledger tx → takes ledger tx ≡ true
takes_from ledger tx is =
    and_from _ _ (and_from _ _ is.well_formed is.approved)
    (and_from _ _ (and_from _ _ (holds_from ledger tx.inputs is.inputs) (holds_from ledger tx.references is.references))
    (and_from _ _ (apart_from tx.outputs ledger.created is.fresh) is.differ))

-- ---- what is found

-- a transaction of which no other has the digest
pub found_first : (tx : Transaction) (txs : List Transaction) → IsIn tx txs → ((other : Transaction) → IsIn other txs → tx.digest ≡ other.digest → other ≡ tx)
    → first_with_digest tx.digest txs ≡ Some tx
found_first tx [] within alone = absurd within
found_first tx (first ∷ txs) within alone = by (bytes_eq tx.digest first.digest) refl (λ later. found_first tx txs later (λ other there same. alone other (inr there) same)) within
  where
    by : (b : Bool) → bytes_eq tx.digest first.digest ≡ b → (IsIn tx txs → first_with_digest tx.digest txs ≡ Some tx) → IsIn tx (first ∷ txs)
        → (if b then Some first else find (λ (t : Transaction). bytes_eq tx.digest t.digest) txs) ≡ Some tx
    by true same more there = ap (λ t. Some t) (alone first (inl refl) (same_bytes tx.digest first.digest same))
    by false other more (inl is) = absurd (both_ways (bytes_eq tx.digest first.digest) other (bytes_from tx.digest first.digest (ap (λ (t : Transaction). t.digest) is)))
    by false other more (inr later) = more later

-- ---- the history

abbrev pub digests : List Transaction → List Bytes
digests txs = map (λ (tx : Transaction). tx.digest) txs

then_fine : (ledger : Ledger) (d : Bytes) (done : List Bytes) (tx : Transaction) (more : Ledger → Option Fault) → has d done ≡ false → takes ledger tx ≡ true
    → more (ledger_after ledger tx) ≡ None → then_told ledger d done (Some tx) more ≡ None
then_fine ledger d done tx more new taken none = rw (and_from _ _ (ap not new) taken) none

module _ (txs : List Transaction) where
  pub none_broken : (done : List Bytes) (ledger : Ledger) (rest : List Transaction) → Serial ledger rest
      → ((tx : Transaction) → IsIn tx rest → first_with_digest tx.digest txs ≡ Some tx)
      → all_differ (done ++ digests rest) ≡ true
      → ((tx : Transaction) → IsIn tx txs → has tx.digest (done ++ digests rest) ≡ true)
      → history_fault txs ledger done (digests rest) ≡ None
  none_broken done ledger [] serial found differ whole =
      rw (all-from (λ (tx : Transaction). has tx.digest done) txs (λ tx within. subst (λ ds. has tx.digest ds ≡ true) (append-nil done) (whole tx within))) refl
  none_broken done ledger (tx ∷ rest) serial found differ whole =
      let d = tx.digest in
      let same : (done ++ d ∷ []) ++ digests rest ≡ done ++ d ∷ digests rest = append_assoc done (d ∷ []) (digests rest) in
      let later = none_broken (done ++ d ∷ []) (ledger_after ledger tx) rest serial.1 (λ other within. found other (inr within))
      (subst (λ ds. all_differ ds ≡ true) (sym same) differ)
      (λ other within. subst (λ ds. has other.digest ds ≡ true) (sym same) (whole other within)) in
      ap (λ o. then_told ledger d done o (λ next. history_fault txs next (done ++ d ∷ []) (digests rest))) (found tx (inl refl))
      ∙ then_fine ledger d done tx (λ next. history_fault txs next (done ++ d ∷ []) (digests rest)) (not_before d done (digests rest) differ) (takes_from ledger tx serial.0) later
