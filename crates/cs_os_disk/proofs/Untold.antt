-- A disk that tells nothing keeps to what is said of a crash.
use Rattle.std.proofs.Common.{◌≡◌, ℕ, ◌+◌, ◌-◌, ◌^◌, ◌≤◌, List, arith}
use Rattle.std.specs.Prelude.{min}
use Rattle.cs_base.specs.Outside.{HasCause}
use Rattle.cs_disk.specs.Disk.{Torn, Follows}
use Rattle.cs_disk.proofs.Tearing.{torn_same}

abbrev pub anything : List ℕ → Type 0
anything c = Unit {0}

pub may_tear : (at n : ℕ) → Follows (Torn at n) anything anything
may_tear at n = λ c left. (c, tt, torn_same at n c)

-- one fault more is the cause of whatever failed
pub counted : {Fails : Type 0} (old new : ℕ) → old ≤ new → new ≡ min (old + 1) (2 ^ 64 - 1) → HasCause old new Fails
counted old new later is = record { later = later; cause = λ failed. omega arith }
