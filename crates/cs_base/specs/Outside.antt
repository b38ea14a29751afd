-- What the calls of the outside do to what their object means, and when they may fail.
use Rattle.std.specs.Prelude.{ℕ, ◌+◌, ◌-◌, ◌^◌, ◌<◌, ◌≤◌, min, List, length, take, Option}
use Rattle.std.specs.Io.KnownBytes.{Consumes, Keeps, IsAtEnd, Appends}
use Rattle.cs_base.specs.declared.outside.Got.{Got}
use Rattle.cs_base.specs.declared.outside.Got.TheVariants.{Bytes, End, Failed}
use Rattle.cs_base.specs.declared.outside.Put.{Put}
use Rattle.cs_base.specs.declared.outside.Put.TheVariants.{Took, Failed as Refused, Memory}

-- a count has gone up in a call, or stands at its type's last value
abbrev pub Rose : ℕ → ℕ → Type 0
Rose before now = min (before + 1) (2 ^ 64 - 1) ≤ now

-- a call's count of faults doesn't fall, and the call has failed only where it rose
pub record HasCause (before now : ℕ) (Fails : Type 0) : Type 0 where
  pub later : before ≤ now
  pub cause : Fails → Rose before now

-- a read gave the first bytes left, at least one, or nothing
abbrev pub Reads : Option (List ℕ) → Option (List ℕ) → List ℕ → Got → Type 0
Reads old new buf (Bytes n) = (0 < n) × (n ≤ length buf) × Consumes old new (take n buf)
Reads old new buf End = IsAtEnd new × Keeps old new
Reads old new buf Failed = Keeps old new

-- a write appended the first bytes of the piece, at least one, or nothing
abbrev pub Writes : Option (List ℕ) → Option (List ℕ) → List ℕ → Put → Type 0
Writes old new piece (Took n) = (0 < n) × (n ≤ length piece) × Appends old new (take n piece)
Writes old new piece Refused = Keeps old new
Writes old new piece Memory = Keeps old new
