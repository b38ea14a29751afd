-- What a crash leaves within some calls of a disk.
use Rattle.std.specs.Prelude.{◌≡◌, ℕ, List, Option}
use Rattle.cs_disk.specs.Disk.{Torn}
use Rattle.cs_disk.specs.Moments.{LeavesOnly}

-- one of these outcomes, with any n bytes at this place
abbrev pub TearsFrom : ℕ → ℕ → (List ℕ → Type 0) → List ℕ → Type 0
TearsFrom at n outcomes c = (d : List ℕ) × outcomes d × Torn at n d c

-- Nothing was written: the content stays, and a crash at any moment since leaves what it might have left before.
pub record IsUntouched {D : Type 0} (content : D → Option (List ℕ)) (may_leave : D → List ℕ → Type 0) (moment : D → ℕ)
    (left_since : D → ℕ → List ℕ → Type 0) (old new : D) : Type 0 where
  pub same : content new ≡ content old
  pub outcomes : (c : List ℕ) → may_leave new c → may_leave old c
  pub since : LeavesOnly moment left_since old new (may_leave old)
