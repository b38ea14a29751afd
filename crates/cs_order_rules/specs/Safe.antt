-- When a digest is safe to propose in a view, by the changes to that view.
use Rattle.std.specs.Prelude.{ℕ, ◌+◌, ◌*◌, ◌≤◌, ◌<◌, ◌==◌, nat_lt, nat_le, bytes_eq, Bool, true, false, ◌&&◌, ◌||◌, List, Option, Some, None, ◌⊎◌}
use Rattle.std.specs.List.{list_any}
use Rattle.cs_order.specs.Counts.{count_below, any_below}
use Rattle.cs_order_rules.specs.declared.message.Change.{Change}

-- a change that tells of no prepared pair
abbrev pub pair_free : Option (ℕ × List ℕ) → Bool
pair_free None = true
pair_free (Some pair) = false

abbrev pub says_none : Option Change → Bool
says_none None = false
says_none (Some change) = pair_free change.prepared

-- no prepared pair, or one of an earlier view, or exactly this one
abbrev pub pair_allows : ℕ → List ℕ → Option (ℕ × List ℕ) → Bool
pair_allows view digest None = true
pair_allows view digest (Some pair) = nat_lt pair.0 view || ((pair.0 == view) && bytes_eq pair.1 digest)

abbrev pub says_allowed : ℕ → List ℕ → Option Change → Bool
says_allowed view digest None = false
says_allowed view digest (Some change) = pair_allows view digest change.prepared

-- the digest is listed as echoed at a view from the first to below the second
abbrev pub is_echo_listed : ℕ → ℕ → List ℕ → List ℕ × ℕ → Bool
is_echo_listed from below digest line = bytes_eq line.0 digest && (nat_le from line.1 && nat_lt line.1 below)

abbrev pub says_echoed : ℕ → ℕ → List ℕ → Option Change → Bool
says_echoed from below digest None = false
says_echoed from below digest (Some change) = list_any (is_echo_listed from below digest) change.echoed

-- the digest is safe in the view, by the change of each member, if it is there
abbrev pub SafeAt : ℕ → (ℕ → Option Change) → ℕ → List ℕ → Type 0
SafeAt f changes view digest =
    (2 * f + 1 ≤ count_below (3 * f + 1) (λ m. says_none (changes m)))
    ⊎ ((v : ℕ) × (v < view)
    × (2 * f + 1 ≤ count_below (3 * f + 1) (λ m. says_allowed v digest (changes m)))
    × (f + 1 ≤ count_below (3 * f + 1) (λ m. says_echoed v view digest (changes m))))

-- the same as tests: 2f+1 changes have no pair
abbrev pub is_free_view : ℕ → (ℕ → Option Change) → Bool
is_free_view f changes = nat_le (2 * f + 1) (count_below (3 * f + 1) (λ m. says_none (changes m)))

abbrev pub is_safe_from : ℕ → (ℕ → Option Change) → ℕ → List ℕ → ℕ → Bool
is_safe_from f changes view digest v =
    nat_le (2 * f + 1) (count_below (3 * f + 1) (λ m. says_allowed v digest (changes m)))
    && nat_le (f + 1) (count_below (3 * f + 1) (λ m. says_echoed v view digest (changes m)))

abbrev pub is_safe : ℕ → (ℕ → Option Change) → ℕ → List ℕ → Bool
is_safe f changes view digest = is_free_view f changes || any_below view (is_safe_from f changes view digest)
