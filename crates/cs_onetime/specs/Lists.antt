-- Lists that are made place by place.
use Rattle.std.specs.Prelude.{ℕ, zero, suc, List, [], ◌∷◌, ◌++◌}

-- what stands at each of the first so many places
unfoldable pub listed : {A : Type 0} → (ℕ → A) → ℕ → List A
listed at zero = []
listed at (suc n) = listed at n ++ at n ∷ []

-- the same of lists, one put behind the other
unfoldable pub joined : (ℕ → List ℕ) → ℕ → List ℕ
joined at zero = []
joined at (suc n) = joined at n ++ at n
