-- The readers of an object: with one more, without one, and that they stay within all limits.
use Rattle.std.proofs.Common.{◌≡◌, suc, ◌+◌, ◌≤◌, ◌<◌, Bool, true, false, not, ◌&&◌, ◌||◌, if◌then◌else◌, cond, List, [], ◌∷◌, ◌++◌, length, length-append, bytes_eq, inl, inr, refl, sym, ap, ◌∙◌, subst, arith}
use Rattle.std.specs.Prelude.{◌↔◌}
use Rattle.std.specs.List.{filter, list_any, AllByRecursion}
use Rattle.std.proofs.lemmas.Bool.{cases_Bool, both_ways, cond_both, ltb-true}
use Rattle.cs_base.specs.Lists.{is_empty}
use Rattle.cs_base.specs.declared.limits.TheConstants.{MOST_READERS}
use Rattle.cs_tx_value.specs.Object.{DigestFits}
use Rattle.cs_tx_types.specs.State.{readers_differ, ReadersFit}
use Rattle.cs_ledger.specs.Ledger.{Bytes, has}
use Rattle.cs_ledger.specs.Table.{Unknown, Active, Shared, has_seat, with_reader, without_reader, read_by, joined_by, vacated_by}
use Rattle.cs_ledger.proofs.Basics.{same_bytes, bytes_refl}

abbrev Readers : Type 0
Readers = List Bytes

-- ---- tests

or_parts : (a b : Bool) → (a || b) ≡ false → (a ≡ false) × (b ≡ false)
or_parts true b h = absurd (both_ways true h refl)
or_parts false b h = (refl, h)

or_false : (a b : Bool) → a ≡ false → b ≡ false → (a || b) ≡ false
or_false a b p q = rw (p, q) refl

-- a test and its mirror
mirrored : (a b : Bytes) → bytes_eq a b ≡ false → bytes_eq b a ≡ false
mirrored a b h =
    elim (cases_Bool (bytes_eq b a)) [
      | inl same ↦ absurd (both_ways _ h (subst (λ (z : Bytes). bytes_eq a z ≡ true) (sym (same_bytes b a same)) (bytes_refl a)))
      | inr differs ↦ differs
    ]

has_is : (d : Bytes) (readers : Readers) → has d readers ≡ list_any (λ reader. bytes_eq d reader) readers
has_is d [] = refl
has_is d (reader ∷ readers) = ap (λ (b : Bool). bytes_eq d reader || b) (has_is d readers)

has_last : (d by : Bytes) (readers : Readers) → has d readers ≡ false → bytes_eq d by ≡ false → has d (readers ++ by ∷ []) ≡ false
has_last d by [] h other = or_false (bytes_eq d by) false other refl
has_last d by (reader ∷ readers) h other =
    let p = or_parts (bytes_eq d reader) (has d readers) h in
    or_false _ _ p.0 (has_last d by readers p.1 other)

pub has_end : (d : Bytes) (readers : Readers) → has d (readers ++ d ∷ []) ≡ true
has_end d [] = ap (λ (b : Bool). b || false) (bytes_refl d)
has_end d (reader ∷ readers) = or_right (bytes_eq d reader) (has d (readers ++ d ∷ [])) (has_end d readers)
  where
    or_right : (a b : Bool) → b ≡ true → (a || b) ≡ true
    or_right true b h = refl
    or_right false b h = h

-- ---- one more

abbrev stays : Bytes → Readers → Bool
stays d readers = has d readers || not (has_seat readers)

pub with_same : (d : Bytes) (readers : Readers) → stays d readers ≡ true → with_reader d readers ≡ readers
with_same d readers h = ap (λ (b : Bool). if b then readers else readers ++ d ∷ []) h

pub with_more : (d : Bytes) (readers : Readers) → stays d readers ≡ false → with_reader d readers ≡ readers ++ d ∷ []
with_more d readers h = ap (λ (b : Bool). if b then readers else readers ++ d ∷ []) h

pub with_twice : (d : Bytes) (readers : Readers) → with_reader d (with_reader d readers) ≡ with_reader d readers
with_twice d readers =
    elim (cases_Bool (stays d readers)) [
      | inl same ↦ ap (with_reader d) (with_same d readers same)
      | inr more ↦
          let is = with_more d readers more in
          ap (with_reader d) is
          ∙ with_same d (readers ++ d ∷ []) (ap (λ (b : Bool). b || not (has_seat (readers ++ d ∷ []))) (has_end d readers))
          ∙ sym is
    ]

-- ---- one less

pub without_none : (d : Bytes) (readers : Readers) → has d readers ≡ false → without_reader d readers ≡ readers
without_none d [] h = refl
without_none d (reader ∷ readers) h =
    let p = or_parts (bytes_eq d reader) (has d readers) h in
    ap (λ (b : Bool). if b then without_reader d readers else reader ∷ without_reader d readers) p.0
    ∙ ap (λ (rs : Readers). reader ∷ rs) (without_none d readers p.1)

pub without_has : (d : Bytes) (readers : Readers) → has d (without_reader d readers) ≡ false
without_has d [] = refl
without_has d (reader ∷ readers) =
    cond_both (bytes_eq d reader) (without_reader d readers) (reader ∷ without_reader d readers) (λ rs. has d rs ≡ false)
    (λ same. without_has d readers)
    (λ other. or_false _ _ other (without_has d readers))

pub without_twice : (d : Bytes) (readers : Readers) → without_reader d (without_reader d readers) ≡ without_reader d readers
without_twice d readers = without_none d (without_reader d readers) (without_has d readers)

pub without_less : (d : Bytes) (readers : Readers) → length (without_reader d readers) ≤ length readers
without_less d [] = omega arith
without_less d (reader ∷ readers) =
    cond_both (bytes_eq d reader) (without_reader d readers) (reader ∷ without_reader d readers) (λ rs. length rs ≤ suc (length readers))
    (λ same. omega (arith, without_less d readers))
    (λ other. omega (arith, without_less d readers))

kept_or_not : (b : Bool) (reader : Bytes) (kept left : Readers) → kept ≡ left → cond (not b) (reader ∷ kept) kept ≡ (if b then left else reader ∷ left)
kept_or_not true reader kept left same = same
kept_or_not false reader kept left same = ap (λ (rs : Readers). reader ∷ rs) same

-- what is kept of a list by the test is the list without that reader
pub without_is : (d : Bytes) (readers : Readers) → filter (λ reader. not (bytes_eq d reader)) readers ≡ without_reader d readers
without_is d [] = refl
without_is d (reader ∷ readers) =
    kept_or_not (bytes_eq d reader) reader (filter (λ r. not (bytes_eq d r)) readers) (without_reader d readers) (without_is d readers)

-- ---- they fit

and_parts : (a b : Bool) → (a && b) ≡ true → (a ≡ true) × (b ≡ true)
and_parts true b h = (refl, h)
and_parts false b h = absurd (both_ways false refl h)

and_from : (a b : Bool) → a ≡ true → b ≡ true → (a && b) ≡ true
and_from a b p q = rw (p, q) refl

not_true : (b : Bool) → not b ≡ true → b ≡ false
not_true false h = refl
not_true true h = absurd (both_ways false refl h)

not_false : (b : Bool) → b ≡ false → not b ≡ true
not_false b h = ap not h

-- the reader that isn't among the others
abbrev is_apart : Bytes → Readers → Bool
is_apart reader readers = not (list_any (λ other. bytes_eq reader other) readers)

apart_is : (reader : Bytes) (readers : Readers) → has reader readers ≡ false → is_apart reader readers ≡ true
apart_is reader readers h = not_false _ (sym (has_is reader readers) ∙ h)

apart_from : (reader : Bytes) (readers : Readers) → is_apart reader readers ≡ true → has reader readers ≡ false
apart_from reader readers h = has_is reader readers ∙ not_true _ h

differ_last : (d : Bytes) (readers : Readers) → readers_differ readers ≡ true → has d readers ≡ false → readers_differ (readers ++ d ∷ []) ≡ true
differ_last d [] h none = refl
differ_last d (reader ∷ readers) h none =
    let p = and_parts (is_apart reader readers) (readers_differ readers) h in
    let q = or_parts (bytes_eq d reader) (has d readers) none in
    and_from _ _
    (apart_is reader (readers ++ d ∷ []) (has_last reader d readers (apart_from reader readers p.0) (mirrored d reader q.0)))
    (differ_last d readers p.1 q.1)

less_has : (d by : Bytes) (readers : Readers) → has by readers ≡ false → has by (without_reader d readers) ≡ false
less_has d by [] h = refl
less_has d by (reader ∷ readers) h =
    let p = or_parts (bytes_eq by reader) (has by readers) h in
    cond_both (bytes_eq d reader) (without_reader d readers) (reader ∷ without_reader d readers) (λ rs. has by rs ≡ false)
    (λ same. less_has d by readers p.1)
    (λ other. or_false _ _ p.0 (less_has d by readers p.1))

differ_less : (d : Bytes) (readers : Readers) → readers_differ readers ≡ true → readers_differ (without_reader d readers) ≡ true
differ_less d [] h = refl
differ_less d (reader ∷ readers) h =
    let p = and_parts (is_apart reader readers) (readers_differ readers) h in
    cond_both (bytes_eq d reader) (without_reader d readers) (reader ∷ without_reader d readers) (λ rs. readers_differ rs ≡ true)
    (λ same. differ_less d readers p.1)
    (λ other. and_from _ _ (apart_is reader (without_reader d readers) (less_has d reader readers (apart_from reader readers p.0))) (differ_less d readers p.1))

all_last : (d : Bytes) (readers : Readers) → DigestFits d → AllByRecursion DigestFits readers → AllByRecursion DigestFits (readers ++ d ∷ [])
all_last d [] fits all = (fits, tt)
all_last d (reader ∷ readers) fits all = (all.0, all_last d readers fits all.1)

all_less : (d : Bytes) (readers : Readers) → AllByRecursion DigestFits readers → AllByRecursion DigestFits (without_reader d readers)
all_less d [] all = tt
all_less d (reader ∷ readers) all =
    cond_both (bytes_eq d reader) (without_reader d readers) (reader ∷ without_reader d readers) (AllByRecursion DigestFits)
    (λ same. all_less d readers all.1)
    (λ other. (all.0, all_less d readers all.1))

pub first_fits : (d : Bytes) → DigestFits d → ReadersFit (d ∷ [])
first_fits d fits = ((omega arith, (omega arith, (fits, tt))), refl)

more_fit : (d : Bytes) (readers : Readers) → DigestFits d → stays d readers ≡ false → ReadersFit readers → ReadersFit (readers ++ d ∷ [])
more_fit d readers fits more h =
    let p = or_parts (has d readers) (not (has_seat readers)) more in
    let seat : length readers < MOST_READERS = ltb-true (length readers) MOST_READERS (seated (has_seat readers) p.1) in
    let longer = length-append readers (d ∷ []) in
    ((omega (arith, longer), (omega (arith, longer, seat), all_last d readers fits h.0.1.1)), differ_last d readers h.1 p.0)
  where
    seated : (b : Bool) → not b ≡ false → b ≡ true
    seated true e = refl
    seated false e = absurd (both_ways true e refl)

pub seated_fit : (d : Bytes) (readers : Readers) → DigestFits d → has d readers ≡ false → has_seat readers ≡ true → ReadersFit readers → ReadersFit (readers ++ d ∷ [])
seated_fit d readers fits none seat h = more_fit d readers fits (or_false (has d readers) (not (has_seat readers)) none (ap not seat)) h

pub with_fits : (d : Bytes) (readers : Readers) → DigestFits d → ReadersFit readers → ReadersFit (with_reader d readers)
with_fits d readers fits h =
    cond_both (stays d readers) readers (readers ++ d ∷ []) ReadersFit
    (λ same. h)
    (λ more. more_fit d readers fits more h)

some_left : (readers : Readers) → (readers ≡ [] → ⊥) → 1 ≤ length readers
some_left [] some = absurd (some refl)
some_left (reader ∷ readers) some = omega arith

pub without_fits : (d : Bytes) (readers : Readers) → ReadersFit readers → (without_reader d readers ≡ [] → ⊥) → ReadersFit (without_reader d readers)
without_fits d readers h some =
    ((some_left (without_reader d readers) some, (omega (arith, without_less d readers, h.0.1.0), all_less d readers h.0.1.1)), differ_less d readers h.1)

-- ---- which of them make another state

object_readers : (object : Bytes) (a b : Readers) → Shared object a ≡ Shared object b → a ≡ b
object_readers object a b e = cc

longer : (d : Bytes) (readers : Readers) → readers ++ d ∷ [] ≡ readers → ⊥
longer d readers e =
    let more = length-append readers (d ∷ []) in
    let even : length (readers ++ d ∷ []) ≡ length readers = ap (λ (rs : Readers). length rs) e in
    omega (arith, more, even)

de_morgan : (a b : Bool) → (not a && b) ≡ false → (a || not b) ≡ true
de_morgan true b h = refl
de_morgan false true h = absurd (both_ways true h refl)
de_morgan false false h = refl

de_morgan_back : (a b : Bool) → (not a && b) ≡ true → (a || not b) ≡ false
de_morgan_back true b h = absurd (both_ways false refl h)
de_morgan_back false true h = refl
de_morgan_back false false h = absurd (both_ways false refl h)

-- a session that joins makes another state where it takes a seat
pub joins_exactly : (d object : Bytes) (readers : Readers) (b : Bool) → b ≡ (not (has d readers) && has_seat readers) → (b ≡ false) ↔ (joined_by d (Shared object readers) ≡ Shared object readers)
joins_exactly d object readers b is = (
  λ stays_so. ap (λ (rs : Readers). Shared object rs) (with_same d readers (de_morgan (has d readers) (has_seat readers) (sym is ∙ stays_so))),
  λ same. elim (cases_Bool b) [
    | inl moves ↦ absurd (longer d readers (sym (with_more d readers (de_morgan_back (has d readers) (has_seat readers) (sym is ∙ moves))) ∙ object_readers object _ _ same))
    | inr stays_so ↦ stays_so
  ],
)

active_shared : (object : Bytes) (readers : Readers) → Active object ≡ Shared object readers → ⊥
active_shared object readers e = cc

-- a session that leaves makes another state where it reads, or where there is no reader
pub leaves_exactly : (d object : Bytes) (readers : Readers) (b : Bool) → b ≡ (is_empty readers || has d readers) → (b ≡ false) ↔ (vacated_by d (Shared object readers) ≡ Shared object readers)
leaves_exactly d object [] b is = (
  λ stays_so. absurd (both_ways b stays_so is),
  λ same. absurd (active_shared object [] same),
)
leaves_exactly d object (reader ∷ readers) b is = (
  λ stays_so. ap (read_by object) (without_none d (reader ∷ readers) (sym is ∙ stays_so)),
  λ same. elim (cases_Bool b) [
    | inl moves ↦ absurd (stays_among (without_reader d (reader ∷ readers)) refl (sym is ∙ moves) same)
    | inr stays_so ↦ stays_so
  ],
)
  where
    stays_among : (rest : Readers) → without_reader d (reader ∷ readers) ≡ rest → has d (reader ∷ readers) ≡ true → read_by object rest ≡ Shared object (reader ∷ readers) → ⊥
    stays_among [] rest_is among e = active_shared object (reader ∷ readers) e
    stays_among (r ∷ rs) rest_is among e =
        both_ways _ (subst (λ (l : Readers). has d l ≡ false) (rest_is ∙ object_readers object (r ∷ rs) (reader ∷ readers) e) (without_has d (reader ∷ readers))) among

-- ---- one after the other

pub joined_twice : (d : Bytes) (object : Bytes) (readers : Readers) → joined_by d (joined_by d (Shared object readers)) ≡ joined_by d (Shared object readers)
joined_twice d object readers = ap (λ (rs : Readers). Shared object rs) (with_twice d readers)

pub joined_active : (d object : Bytes) → joined_by d (Shared object (d ∷ [])) ≡ Shared object (d ∷ [])
joined_active d object = ap (λ (rs : Readers). Shared object rs) (with_same d (d ∷ []) (ap (λ (b : Bool). (b || false) || not (has_seat (d ∷ []))) (bytes_refl d)))

vacated_read : (d object : Bytes) (readers : Readers) → without_reader d readers ≡ readers → vacated_by d (read_by object readers) ≡ read_by object readers
vacated_read d object [] e = refl
vacated_read d object (reader ∷ readers) e = ap (read_by object) e

pub vacated_twice : (d object : Bytes) (readers : Readers) → vacated_by d (vacated_by d (Shared object readers)) ≡ vacated_by d (Shared object readers)
vacated_twice d object readers = vacated_read d object (without_reader d readers) (without_twice d readers)

pub shared_unknown : (object : Bytes) (readers : Readers) → read_by object readers ≡ Unknown → ⊥
shared_unknown object [] e = cc
shared_unknown object (reader ∷ readers) e = cc
