-- The lines of a change: what a member echoed in a slot, by rising digests.
use Rattle.std.proofs.Common.{◌≡◌, ℕ, ◌+◌, ◌≤◌, ◌==◌, nat_lt, bytes_eq, Bool, true, false, if◌then◌else◌, List, [], ◌∷◌, length, Option, Some, None, Ordering, Less, Equal, Greater, ◌⊎◌, inl, inr, refl, sym, ap, ◌∙◌, subst, arith}
use Rattle.std.specs.List.{list_all, list_any}
use Rattle.std.specs.Cmp.Lexicographic.{slice_cmp}
use Rattle.std.specs.Ordering.{nat_cmp, is_lt, ordering_reverse}
use Rattle.std.proofs.lemmas.Bool.{or_cases}
use Rattle.std.proofs.lemmas.Cmp.{nat_list_cmp_total}
use Rattle.std.proofs.lemmas.Map.Lookups.{exact_bytes}
use Rattle.std.proofs.lemmas.Slice.Eq.{bytes_eq-Decides}
use Rattle.cs_base.specs.Lists.{IsIn}
use Rattle.cs_order.specs.Counts.{when}
use Rattle.cs_order_rules.specs.Facts.{Facts, echo_in, rises}
use Rattle.cs_order_rules.specs.Rules.{insert_line, with_line, echoed_in}
use Rattle.cs_order_law.specs.laws.SafeFacts.{and_left, and_right, same_bytes}
use Rattle.cs_order_law.specs.laws.RuleFacts.{inserted_is}

abbrev pub Line : Type 0
Line = List ℕ × ℕ

-- all elements pass a test
pub all_by : {A : Type 0} (test : A → Bool) (xs : List A) → ((x : A) → IsIn x xs → test x ≡ true) → list_all test xs ≡ true
all_by test [] each = refl
all_by test (x ∷ xs) each = rw (each x (inl refl)) (all_by test xs (λ y h. each y (inr h)))

all_is : {A : Type 0} (test : A → Bool) (xs : List A) → list_all test xs ≡ true → (x : A) → IsIn x xs → test x ≡ true
all_is test [] h x k = absurd k
all_is test (y ∷ xs) h x (inl e) = rw e (and_left _ _ h)
all_is test (y ∷ xs) h x (inr k) = all_is test xs (and_right (test y) _ h) x k

abbrev pub is_before : List ℕ → List ℕ → Bool
is_before a b = is_lt (slice_cmp nat_cmp a b)

less_is : (o : Ordering) → is_lt o ≡ true → o ≡ Less
less_is Less h = refl
less_is Equal h = cc
less_is Greater h = cc

pub before_trans : (a b c : List ℕ) → is_before a b ≡ true → is_before b c ≡ true → is_before a c ≡ true
before_trans a b c h k = ap (λ o. is_lt o) (nat_list_cmp_total.trans a b c (less_is _ h) (less_is _ k))

-- of two different digests one is before the other
greater_by : (a b : List ℕ) (o : Ordering) → slice_cmp nat_cmp a b ≡ o → bytes_eq a b ≡ false → is_lt o ≡ false → is_before b a ≡ true
greater_by a b Less e other h = cc
greater_by a b Equal e other h = absurd (let same = (bytes_eq-Decides a b).1 (exact_bytes a b e) in cc)
greater_by a b Greater e other h = ap (λ o. is_lt o) (nat_list_cmp_total.antisymm b a ∙ ap (λ o. ordering_reverse o) e)

not_before : (a b : List ℕ) → bytes_eq a b ≡ false → is_before a b ≡ false → is_before b a ≡ true
not_before a b other h = greater_by a b (slice_cmp nat_cmp a b) refl other h

never_both : (a b : List ℕ) → is_before a b ≡ true → is_before b a ≡ true → ⊥
never_both a b h k = (let e = nat_list_cmp_total.antisymm a b in let l = less_is _ h in let m = less_is _ k in let c : Less ≡ ordering_reverse Less = sym l ∙ e ∙ ap (λ o. ordering_reverse o) m in cc)

-- a line put into its place leaves the digests rising
abbrev tail_ok : List ℕ → List Line → Bool
tail_ok digest lines = list_all (λ (later : Line). is_before digest later.0) lines

later_all : (a b : List ℕ) (lines : List Line) → is_before a b ≡ true → tail_ok b lines ≡ true → tail_ok a lines ≡ true
later_all a b lines h k = all_by (λ (later : Line). is_before a later.0) lines (λ x i. before_trans a b x.0 h (all_is (λ (later : Line). is_before b later.0) lines k x i))

inserted_later : (line other : Line) (lines : List Line) → is_before other.0 line.0 ≡ true → tail_ok other.0 lines ≡ true → tail_ok other.0 (insert_line line lines) ≡ true
inserted_later line other lines h k =
    all_by (λ (later : Line). is_before other.0 later.0) (insert_line line lines) (λ x i. elim (inserted_is x line lines i) [
      | inl e ↦ rw e h
      | inr old ↦ all_is (λ (later : Line). is_before other.0 later.0) lines k x old
    ])

same_head : (line other : Line) (later : Bool) (lines : List Line) → line.0 ≡ other.0 → rises (other ∷ lines) ≡ true → rises ((if later then line else other) ∷ lines) ≡ true
same_head line other true lines e h = rw e h
same_head line other false lines e h = h

rises_by : (line other : Line) (lines : List Line) (same before : Bool) → bytes_eq line.0 other.0 ≡ same → is_before line.0 other.0 ≡ before → rises (other ∷ lines) ≡ true → rises (insert_line line lines) ≡ true → rises (if same then (if nat_lt other.1 line.1 then line else other) ∷ lines else (if before then line ∷ other ∷ lines else other ∷ insert_line line lines)) ≡ true
rises_by line other lines true before e b h below = same_head line other (nat_lt other.1 line.1) lines (same_bytes line.0 other.0 e) h
rises_by line other lines false true e b h below = rw (b, later_all line.0 other.0 lines b (and_left _ _ h)) h
rises_by line other lines false false e b h below = rw (inserted_later line other lines (not_before line.0 other.0 e b) (and_left _ _ h)) below

pub insert_rises : (line : Line) (lines : List Line) → rises lines ≡ true → rises (insert_line line lines) ≡ true
insert_rises line [] h = refl
insert_rises line (other ∷ lines) h = rises_by line other lines (bytes_eq line.0 other.0) (is_before line.0 other.0) refl refl h (insert_rises line lines (and_right (tail_ok other.0 lines) _ h))

with_rises : (o : Option Line) (lines : List Line) → rises lines ≡ true → rises (with_line o lines) ≡ true
with_rises None lines h = h
with_rises (Some line) lines h = insert_rises line lines h

pub echoed_rises : (me slot : ℕ) (facts : Facts) → rises (echoed_in me slot facts) ≡ true
echoed_rises me slot [] = refl
echoed_rises me slot (fact ∷ facts) = with_rises (when (fact.0 == me) (echo_in slot fact.1)) (echoed_in me slot facts) (echoed_rises me slot facts)

-- at most one line more
length_by : (line other : Line) (lines inserted : List Line) (same later before : Bool) → length inserted ≤ length lines + 1 → length (if same then (if later then line else other) ∷ lines else (if before then line ∷ other ∷ lines else other ∷ inserted)) ≤ length (other ∷ lines) + 1
length_by line other lines inserted true true before h = omega arith
length_by line other lines inserted true false before h = omega arith
length_by line other lines inserted false later true h = omega arith
length_by line other lines inserted false later false h = omega arith

pub insert_length : (line : Line) (lines : List Line) → length (insert_line line lines) ≤ length lines + 1
insert_length line [] = omega arith
insert_length line (other ∷ lines) = length_by line other lines (insert_line line lines) (bytes_eq line.0 other.0) (nat_lt other.1 line.1) (is_before line.0 other.0) (insert_length line lines)

-- and none more where the digest is listed
any_is : (test : Line → Bool) (lines : List Line) → list_any test lines ≡ true → (x : Line) × IsIn x lines × (test x ≡ true)
any_is test [] h = cc
any_is test (x ∷ lines) h = elim (or_cases (test x) (list_any test lines) h) [ inl k ↦ (x, inl refl, k) | inr k ↦ (let r = any_is test lines k in (r.0, inr r.1, r.2)) ]

listed_by : (line other : Line) (lines : List Line) (x : Line) (same before : Bool) → bytes_eq line.0 other.0 ≡ same → is_before line.0 other.0 ≡ before → rises (other ∷ lines) ≡ true → x.0 ≡ line.0 → (x ≡ other) ⊎ IsIn x lines → (IsIn x lines → length (insert_line line lines) ≡ length lines) → length (if same then (if nat_lt other.1 line.1 then line else other) ∷ lines else (if before then line ∷ other ∷ lines else other ∷ insert_line line lines)) ≡ length (other ∷ lines)
listed_by line other lines x true before e b h is k below = one_head (nat_lt other.1 line.1)
  where
    one_head : (later : Bool) → length ((if later then line else other) ∷ lines) ≡ length (other ∷ lines)
    one_head true = refl
    one_head false = refl
listed_by line other lines x false before e b h is (inl k) below = absurd (let same : line.0 ≡ other.0 = sym is ∙ ap (λ (y : Line). y.0) k in let yes = (bytes_eq-Decides line.0 other.0).1 same in cc)
listed_by line other lines x false true e b h is (inr k) below = absurd (never_both line.0 other.0 b (subst (λ d. is_before other.0 d ≡ true) is (all_is (λ (later : Line). is_before other.0 later.0) lines (and_left _ _ h) x k)))
listed_by line other lines x false false e b h is (inr k) below = (let same = below k in omega arith)

insert_same : (line : Line) (lines : List Line) (x : Line) → rises lines ≡ true → x.0 ≡ line.0 → IsIn x lines → length (insert_line line lines) ≡ length lines
insert_same line [] x h is k = absurd k
insert_same line (other ∷ lines) x h is k = listed_by line other lines x (bytes_eq line.0 other.0) (is_before line.0 other.0) refl refl h is k (λ in_rest. insert_same line lines x (and_right (tail_ok other.0 lines) _ h) is in_rest)

pub insert_listed : (line : Line) (lines : List Line) → rises lines ≡ true → list_any (λ (other : Line). bytes_eq other.0 line.0) lines ≡ true → length (insert_line line lines) ≡ length lines
insert_listed line lines h k = (let r = any_is (λ (other : Line). bytes_eq other.0 line.0) lines k in insert_same line lines r.0 h (same_bytes r.0.0 line.0 r.2) r.1)
