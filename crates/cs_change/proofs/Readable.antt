-- The test of a digest says what is safe.
use Rattle.std.proofs.Common.{◌≡◌, ℕ, ◌+◌, ◌*◌, ◌≤◌, ◌<◌, nat_le, Bool, true, false, ◌&&◌, ◌||◌, List, Option, inl, inr, refl, sym, ◌∙◌, leb-true, le-leb, ◌↔◌}
use Rattle.std.proofs.lemmas.Bool.{or_cases}
use Rattle.cs_order.specs.Counts.{count_below, any_below}
use Rattle.cs_order.proofs.Searches.{any_at}
use Rattle.cs_order_rules.specs.declared.message.Change.{Change}
use Rattle.cs_order_rules.specs.Safe.{says_none, says_allowed, says_echoed, is_free_view, is_safe_from, is_safe, SafeAt}
use Rattle.cs_change.proofs.Splits.{one_passes}
use Rattle.cs_change.proofs.Safety.{and_left, and_right, both, or_left, or_right}

module _ (f : ℕ) (changes : ℕ → Option Change) (view : ℕ) (digest : List ℕ) where
  abbrev allowed : ℕ → ℕ
  allowed v = count_below (3 * f + 1) (λ m. says_allowed v digest (changes m))

  abbrev echoed : ℕ → ℕ
  echoed v = count_below (3 * f + 1) (λ m. says_echoed v view digest (changes m))

  safe_said : is_safe f changes view digest ≡ true → SafeAt f changes view digest
  safe_said is =
      elim (or_cases (is_free_view f changes) (any_below view (is_safe_from f changes view digest)) is) [
        | inl free ↦ inl (leb-true (2 * f + 1) (count_below (3 * f + 1) (λ m. says_none (changes m))) free)
        | inr some ↦
            let at = one_passes view (is_safe_from f changes view digest) some in
            inr (at.0, at.1, leb-true (2 * f + 1) (allowed at.0) (and_left _ _ at.2), leb-true (f + 1) (echoed at.0) (and_right (nat_le (2 * f + 1) (allowed at.0)) _ at.2))
      ]

  said_safe : SafeAt f changes view digest → is_safe f changes view digest ≡ true
  said_safe (inl free) = or_left (is_free_view f changes) (any_below view (is_safe_from f changes view digest)) (le-leb (2 * f + 1) (count_below (3 * f + 1) (λ m. says_none (changes m))) free)
  said_safe (inr at) =
      or_right (is_free_view f changes) (any_below view (is_safe_from f changes view digest))
      (any_at view at.0 (is_safe_from f changes view digest) at.1 (both _ _ (le-leb (2 * f + 1) (allowed at.0) at.2) (le-leb (f + 1) (echoed at.0) at.3)))

  pub safe_at : (result : Bool) → result ≡ is_safe f changes view digest → (result ≡ true) ↔ SafeAt f changes view digest
  safe_at result is = (λ holds. safe_said (sym is ∙ holds), λ said. is ∙ said_safe said)
