-- Digests, as lists of numbers.
use Rattle.std.specs.Prelude.{◌≡◌, ℕ, ◌==◌, nat_lt, Bool, true, ◌&&◌, List, length}
use Rattle.std.specs.List.{list_all}
use Rattle.cs_order.specs.declared.proposed.Proposed.{Proposed}
use Rattle.cs_base.specs.Lists.{IsIn}

-- each of the numbers is a byte
abbrev pub are_bytes : List ℕ → Bool
are_bytes numbers = list_all (λ number. nat_lt number 256) numbers

-- a digest has 32 bytes
abbrev pub digest_fits : List ℕ → Bool
digest_fits digest = (length digest == 32) && are_bytes digest

-- each of the entries has one
abbrev pub HaveDigests : List Proposed → Type 0
HaveDigests entries = (entry : Proposed) → IsIn entry entries → digest_fits entry.digest ≡ true
