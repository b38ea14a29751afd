-- What the tests on changes say.
use Rattle.std.proofs.Common.{◌≡◌, ℕ, ◌≤◌, ◌<◌, ◌==◌, nat_lt, nat_le, bytes_eq, Bool, true, false, ◌&&◌, List, [], ◌∷◌, Option, Some, None, ◌⊎◌, inl, inr, refl, sym, ap, ltb-true, leb-true, eqb-true}
use Rattle.std.specs.List.{list_any}
use Rattle.std.proofs.lemmas.Bool.{or_cases}
use Rattle.std.proofs.lemmas.Slice.Eq.{bytes_eq-Decides}
use Rattle.cs_base.specs.Lists.{IsIn}
use Rattle.cs_order_rules.specs.declared.message.Change.{Change}
use Rattle.cs_order_rules.specs.Safe.{pair_free, says_none, pair_allows, says_allowed, is_echo_listed, says_echoed}

pub and_left : (a b : Bool) → (a && b) ≡ true → a ≡ true
and_left true b h = refl
and_left false b h = h

pub and_right : (a b : Bool) → (a && b) ≡ true → b ≡ true
and_right true b h = h
and_right false b h = cc

pub same_bytes : (xs ys : List ℕ) → bytes_eq xs ys ≡ true → xs ≡ ys
same_bytes xs ys h = (bytes_eq-Decides xs ys).0 h

pair_free_is : (pair : Option (ℕ × List ℕ)) → pair_free pair ≡ true → pair ≡ None
pair_free_is None h = refl
pair_free_is (Some p) h = cc

pub says_none_is : (change : Option Change) → says_none change ≡ true → (c : Change) × (change ≡ Some c) × (c.prepared ≡ None)
says_none_is None h = cc
says_none_is (Some c) h = (c, refl, pair_free_is c.prepared h)

-- no pair, or an earlier one, or exactly this one
abbrev pub Allows : ℕ → List ℕ → Option (ℕ × List ℕ) → Type 0
Allows view digest None = Unit {0}
Allows view digest (Some pair) = (pair.0 < view) ⊎ ((pair.0 ≡ view) × (pair.1 ≡ digest))

pair_allows_is : (view : ℕ) (digest : List ℕ) (pair : Option (ℕ × List ℕ)) → pair_allows view digest pair ≡ true → Allows view digest pair
pair_allows_is view digest None h = tt
pair_allows_is view digest (Some pair) h =
    elim (or_cases (nat_lt pair.0 view) ((pair.0 == view) && bytes_eq pair.1 digest) h) [
      | inl k ↦ inl (ltb-true pair.0 view k)
      | inr k ↦ inr (eqb-true pair.0 view (and_left _ _ k), same_bytes pair.1 digest (and_right (pair.0 == view) _ k))
    ]

pub says_allowed_is : (view : ℕ) (digest : List ℕ) (change : Option Change) → says_allowed view digest change ≡ true → (c : Change) × (change ≡ Some c) × Allows view digest c.prepared
says_allowed_is view digest None h = cc
says_allowed_is view digest (Some c) h = (c, refl, pair_allows_is view digest c.prepared h)

-- a line of the list
abbrev pub ListedIn : ℕ → ℕ → List ℕ → List (List ℕ × ℕ) → Type 0
ListedIn from below digest lines = (u : ℕ) × (from ≤ u) × (u < below) × IsIn (digest, u) lines

listed_is : (from below : ℕ) (digest : List ℕ) (lines : List (List ℕ × ℕ)) → list_any (is_echo_listed from below digest) lines ≡ true → ListedIn from below digest lines
listed_is from below digest [] h = cc
listed_is from below digest (line ∷ lines) h =
    elim (or_cases (is_echo_listed from below digest line) (list_any (is_echo_listed from below digest) lines) h) [
      | inl k ↦ (line.1, leb-true from line.1 (and_left _ _ (and_right (bytes_eq line.0 digest) _ k)), ltb-true line.1 below (and_right (nat_le from line.1) _ (and_right (bytes_eq line.0 digest) _ k)), inl (ap (λ (x : List ℕ). (x, line.1)) (sym (same_bytes line.0 digest (and_left _ _ k)))))
      | inr k ↦ let r = listed_is from below digest lines k in (r.0, r.1, r.2, inr r.3)
    ]

pub says_echoed_is : (from below : ℕ) (digest : List ℕ) (change : Option Change) → says_echoed from below digest change ≡ true → (c : Change) × (change ≡ Some c) × ListedIn from below digest c.echoed
says_echoed_is from below digest None h = cc
says_echoed_is from below digest (Some c) h = (c, refl, listed_is from below digest c.echoed h)
