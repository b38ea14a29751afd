-- A digest is safe, if at all, from the greatest view on from which f+1 members echoed it.
use Rattle.std.proofs.Common.{◌≡◌, ℕ, ◌+◌, ◌*◌, ◌≤◌, ◌<◌, ◌==◌, nat_lt, nat_le, bytes_eq, Bool, true, false, ◌&&◌, ◌||◌, List, [], ◌∷◌, Option, Some, None, inl, inr, refl, sym, ap, ◌∙◌, subst, ltb-true, lt-ltb, leb-true, le-leb, eqb-true, arith}
use Rattle.std.specs.List.{list_any}
use Rattle.std.proofs.lemmas.Bool.{or_cases}
use Rattle.std.proofs.lemmas.Bool.Decides.{eqb_tells, leb_tells}
use Rattle.cs_order.specs.Counts.{count_below, any_below, last_below}
use Rattle.cs_order.proofs.Searches.{any_at}
use Rattle.cs_order_rules.specs.declared.message.Change.{Change}
use Rattle.cs_order_rules.specs.Safe.{pair_allows, says_allowed, is_echo_listed, says_echoed, is_free_view, is_safe_from, is_safe}
use Rattle.cs_change.specs.Kept.{is_echoed}
use Rattle.cs_change.proofs.Counting.{enough_more, falls_back}
use Rattle.cs_change.proofs.Splits.{IsLast, last_is, none_passes}

pub and_left : (a b : Bool) → (a && b) ≡ true → a ≡ true
and_left true b h = refl
and_left false b h = h

pub and_right : (a b : Bool) → (a && b) ≡ true → b ≡ true
and_right true b h = h
and_right false b h = absurd (let no = h in cc)

pub both : (a b : Bool) → a ≡ true → b ≡ true → (a && b) ≡ true
both a b p q = rw (p, q) refl

-- A pair that allows a digest from a view on allows it from each later one.
pair_more : (v w : ℕ) (digest : List ℕ) (pair : Option (ℕ × List ℕ)) → v < w → pair_allows v digest pair ≡ true → pair_allows w digest pair ≡ true
pair_more v w digest None less is = refl
pair_more v w digest (Some pair) less is = ap (λ b. b || ((pair.0 == w) && bytes_eq pair.1 digest)) (lt-ltb pair.0 w under)
  where
    upto : pair.0 ≤ v
    upto = elim (or_cases (nat_lt pair.0 v) ((pair.0 == v) && bytes_eq pair.1 digest) is) [
      | inl before ↦ (let few = ltb-true pair.0 v before in omega arith)
      | inr same ↦ (let e = eqb-true pair.0 v (and_left (pair.0 == v) (bytes_eq pair.1 digest) same) in omega arith)
    ]

    under : pair.0 < w
    under = let few = upto in omega arith

allowed_more : (v w : ℕ) (digest : List ℕ) (change : Option Change) → v ≤ w → says_allowed v digest change ≡ true → says_allowed w digest change ≡ true
allowed_more v w digest None upto is = is
allowed_more v w digest (Some change) upto is =
    elim (eqb_tells v w) [
      | inl same ↦ subst (λ u. pair_allows u digest change.prepared ≡ true) same.1 is
      | inr other ↦ pair_more v w digest change.prepared (let e = other.1 in omega arith) is
    ]

-- A line at a view on is one from each earlier view on.
line_less : (v w below : ℕ) (digest : List ℕ) (line : List ℕ × ℕ) → v ≤ w → is_echo_listed w below digest line ≡ true → is_echo_listed v below digest line ≡ true
line_less v w below digest line upto is =
    let same = and_left (bytes_eq line.0 digest) (nat_le w line.1 && nat_lt line.1 below) is in
    let in_time = and_right (bytes_eq line.0 digest) (nat_le w line.1 && nat_lt line.1 below) is in
    let from = leb-true w line.1 (and_left (nat_le w line.1) (nat_lt line.1 below) in_time) in
    both (bytes_eq line.0 digest) (nat_le v line.1 && nat_lt line.1 below) same
    (both (nat_le v line.1) (nat_lt line.1 below) (le-leb v line.1 (omega arith)) (and_right (nat_le w line.1) (nat_lt line.1 below) in_time))

pub or_left : (a b : Bool) → a ≡ true → (a || b) ≡ true
or_left a b h = rw h refl

pub or_right : (a b : Bool) → b ≡ true → (a || b) ≡ true
or_right true b h = refl
or_right false b h = h

lines_less : (v w below : ℕ) (digest : List ℕ) (lines : List (List ℕ × ℕ)) → v ≤ w → list_any (is_echo_listed w below digest) lines ≡ true → list_any (is_echo_listed v below digest) lines ≡ true
lines_less v w below digest [] upto is = is
lines_less v w below digest (line ∷ lines) upto is =
    elim (or_cases (is_echo_listed w below digest line) (list_any (is_echo_listed w below digest) lines) is) [
      | inl here ↦ or_left (is_echo_listed v below digest line) (list_any (is_echo_listed v below digest) lines) (line_less v w below digest line upto here)
      | inr later ↦ or_right (is_echo_listed v below digest line) (list_any (is_echo_listed v below digest) lines) (lines_less v w below digest lines upto later)
    ]

says_less : (v w below : ℕ) (digest : List ℕ) (change : Option Change) → v ≤ w → says_echoed w below digest change ≡ true → says_echoed v below digest change ≡ true
says_less v w below digest None upto is = is
says_less v w below digest (Some change) upto is = lines_less v w below digest change.echoed upto is

module _ (f : ℕ) (changes : ℕ → Option Change) (view : ℕ) (digest : List ℕ) where
  abbrev pub is_allowed : ℕ → Bool
  is_allowed from = nat_le (2 * f + 1) (count_below (3 * f + 1) (λ m. says_allowed from digest (changes m)))

  allows_more : (v w : ℕ) → v ≤ w → is_allowed v ≡ true → is_allowed w ≡ true
  allows_more v w upto is = enough_more (2 * f + 1) (3 * f + 1) (λ m. says_allowed v digest (changes m)) (λ m. says_allowed w digest (changes m)) (λ m. allowed_more v w digest (changes m) upto) is

  pub echoed_less : (v w : ℕ) → v ≤ w → is_echoed f changes view digest w ≡ true → is_echoed f changes view digest v ≡ true
  echoed_less v w upto is = enough_more (f + 1) (3 * f + 1) (λ m. says_echoed w view digest (changes m)) (λ m. says_echoed v view digest (changes m)) (λ m. says_less v w view digest (changes m) upto) is

  -- up to the one in the middle, and from it on
  pub echoed_upto : (middle : ℕ) → is_echoed f changes view digest middle ≡ true → (v : ℕ) → v < middle + 1 → is_echoed f changes view digest v ≡ true
  echoed_upto middle is v less = echoed_less v middle (omega arith) is

  pub not_echoed_from : (middle : ℕ) → is_echoed f changes view digest middle ≡ false → (v : ℕ) → middle ≤ v → is_echoed f changes view digest v ≡ false
  not_echoed_from middle fails v late = falls_back (is_echoed f changes view digest v) (is_echoed f changes view digest middle) (echoed_less middle v late) fails

  no_echo : (v : ℕ) → is_echoed f changes view digest v ≡ false → is_safe_from f changes view digest v ≡ false
  no_echo v fails = never (is_allowed v) (is_echoed f changes view digest v) fails
    where
      never : (a b : Bool) → b ≡ false → (a && b) ≡ false
      never true b h = h
      never false b h = refl

  pub safe_nowhere : None ≡ last_below view (is_echoed f changes view digest) → any_below view (is_safe_from f changes view digest) ≡ false
  safe_nowhere none =
      let is : IsLast view (is_echoed f changes view digest) None = subst (IsLast view (is_echoed f changes view digest)) (sym none) (last_is view (is_echoed f changes view digest)) in
      none_passes view (is_safe_from f changes view digest) (λ v less. no_echo v (is v less))

  pub safe_from_last : (from : ℕ) → Some from ≡ last_below view (is_echoed f changes view digest) → any_below view (is_safe_from f changes view digest) ≡ is_allowed from
  safe_from_last from some = either (is_allowed from) refl
    where
      last : IsLast view (is_echoed f changes view digest) (Some from)
      last = subst (IsLast view (is_echoed f changes view digest)) (sym some) (last_is view (is_echoed f changes view digest))

      not_allowed : (v : ℕ) → is_allowed v ≡ false → is_safe_from f changes view digest v ≡ false
      not_allowed v fails = ap (λ b. b && is_echoed f changes view digest v) fails

      nowhere : is_allowed from ≡ false → (v : ℕ) → v < view → is_safe_from f changes view digest v ≡ false
      nowhere fails v less =
          elim (leb_tells v from) [
            | inl upto ↦ not_allowed v (falls_back (is_allowed v) (is_allowed from) (allows_more v from upto.1) fails)
            | inr later ↦ no_echo v (last.2 v later.1 less)
          ]

      either : (b : Bool) → is_allowed from ≡ b → any_below view (is_safe_from f changes view digest) ≡ b
      either true is = any_at view from (is_safe_from f changes view digest) last.0 (both (is_allowed from) (is_echoed f changes view digest from) is last.1)
      either false is = none_passes view (is_safe_from f changes view digest) (nowhere is)
