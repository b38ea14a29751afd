-- Digests that are read into places, one after the other.
use Rattle.std.proofs.Common.{◌≡◌, ℕ, ◌+◌, ◌-◌, ◌≤◌, ◌<◌, List, take, set, length, length-set, Some, None, refl, ap, ◌∙◌}
use Rattle.std.proofs.lemmas.List.{take_all}
use Rattle.std.proofs.lemmas.Grind.{take-set_at}
use Rattle.cs_base.specs.Fields.{Found, bytes_at, many_at}
use Rattle.cs_base.proofs.Many.{with_front, goes_on, stops, is_done}

-- places of which so many are filled, and what is still read
abbrev pub IsFilled : List (List ℕ) → ℕ → List ℕ → Found (List (List ℕ)) → Type 0
IsFilled places i bytes total = with_front (take i places) (many_at (bytes_at 32) (length places - i) bytes) ≡ total

pub filled_more : (places : List (List ℕ)) (i : ℕ) (bytes rest digest : List ℕ) (total : Found (List (List ℕ))) → i < length places → bytes_at 32 bytes ≡ Some (digest, rest) → IsFilled places i bytes total → IsFilled (set places i digest) (i + 1) rest total
filled_more places i bytes rest digest total lt found so_far =
    (λ k. with_front (take-set_at places i (i + 1) digest refl lt k) (many_at (bytes_at 32) (length-set places i digest k - (i + 1)) rest))
    ∙ goes_on (bytes_at 32) (take i places) (length places) i bytes digest rest total lt found so_far

pub filled_not : (places : List (List ℕ)) (i : ℕ) (bytes : List ℕ) (total : Found (List (List ℕ))) → i < length places → bytes_at 32 bytes ≡ None → IsFilled places i bytes total → total ≡ None
filled_not places i bytes total lt none so_far = stops (bytes_at 32) (take i places) (length places) i bytes total lt none so_far

pub filled_all : (places : List (List ℕ)) (i : ℕ) (bytes : List ℕ) (total : Found (List (List ℕ))) → length places ≤ i → IsFilled places i bytes total → total ≡ Some (places, bytes)
filled_all places i bytes total le so_far =
    is_done (bytes_at 32) (take i places) (length places) i bytes total le so_far
    ∙ ap (λ (front : List (List ℕ)). Some (front, bytes)) (take_all i places le)
