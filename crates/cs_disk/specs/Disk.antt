-- What the calls of a disk do to the content of its file, and what a crash may leave of it.
use Rattle.std.specs.Prelude.{◌≡◌, ◌⊎◌, ℕ, ◌+◌, ◌≤◌, max, List, ◌++◌, length, take, drop, Option, Some, None, IfSome, option_map}
use Rattle.cs_io.specs.Told.{Changes}
use Rattle.cs_disk.specs.declared.disk.Attached.{Attached}
use Rattle.cs_disk.specs.declared.disk.Attached.TheVariants as attached
use Rattle.cs_disk.specs.declared.disk.Length.{Length}
use Rattle.cs_disk.specs.declared.disk.Length.TheVariants as length-of
use Rattle.cs_disk.specs.declared.disk.DiskRead.{DiskRead}
use Rattle.cs_disk.specs.declared.disk.DiskRead.TheVariants as read
use Rattle.cs_disk.specs.declared.disk.Wrote.{Wrote}
use Rattle.cs_disk.specs.declared.disk.Wrote.TheVariants as wrote
use Rattle.cs_disk.specs.declared.disk.Synced.{Synced}
use Rattle.cs_disk.specs.declared.disk.Synced.TheVariants as synced

-- ---- the content

-- the file of this name is there, or none
abbrev pub Attaches : Option (Option (List ℕ)) → Option (Option (List ℕ)) → List ℕ → Attached → Type 0
Attaches old new name attached.Done = Changes (λ before now. now ≡ Some name) old new
Attaches old new name attached.Failed = Changes (λ before now. now ≡ None) old new
Attaches old new name attached.Memory = Changes (λ before now. now ≡ None) old new

-- a content that is told has at least so many bytes
abbrev pub Holds : Option (List ℕ) → ℕ → Type 0
Holds content n = IfSome content (λ file. n ≤ length file)

-- it has just as many
abbrev pub Measures : Option (List ℕ) → Length → Type 0
Measures content (length-of.Is n) = IfSome content (λ file. n ≡ length file)
Measures content length-of.Failed = Unit {0}

-- what a read gave stands there
abbrev pub DiskReads : Option (List ℕ) → ℕ → List ℕ → DiskRead → Type 0
DiskReads content at buf read.Done = IfSome content (λ file. buf ≡ take (length buf) (drop at file))
DiskReads content at buf read.Failed = Unit {0}

-- a file over which these bytes were written at this place
abbrev pub over : List ℕ → ℕ → List ℕ → List ℕ
over file at bytes = take at file ++ bytes ++ drop (at + length bytes) file

-- any n bytes at this place, and behind them what stood there; a file that ended before is no shorter for it
pub record Torn (at n : ℕ) (old new : List ℕ) : Type 0 where
  pub before : take at new ≡ take at old
  pub after : drop (at + n) new ≡ drop (at + n) old
  pub no_shorter : length old ≤ length new
  pub no_longer : length new ≤ max (length old) (at + n)

-- where it is told
abbrev pub ToldTorn : ℕ → ℕ → Option (List ℕ) → Option (List ℕ) → Type 0
ToldTorn at n None None = Unit {0}
ToldTorn at n (Some old) (Some new) = Torn at n old new
ToldTorn at n old new = ⊥

-- the bytes stand there, or any in their place, or nothing was written
abbrev pub DiskWrites : Option (List ℕ) → Option (List ℕ) → ℕ → List ℕ → Wrote → Type 0
DiskWrites old new at bytes wrote.Done = new ≡ option_map (λ file. over file at bytes) old
DiskWrites old new at bytes wrote.Failed = ToldTorn at (length bytes) old new
DiskWrites old new at bytes wrote.Memory = new ≡ old

-- ---- a crash

-- it leaves this and nothing else
abbrev pub Only : List ℕ → (List ℕ → Type 0) → Type 0
Only file outcomes = (c : List ℕ) → outcomes c → c ≡ file

-- after a sync it leaves the content alone
abbrev pub SyncedOnly : Option (List ℕ) → (List ℕ → Type 0) → Synced → Type 0
SyncedOnly content outcomes synced.Done = IfSome content (λ file. Only file outcomes)
SyncedOnly content outcomes synced.Failed = Unit {0}

-- each new outcome is an old one after a step
abbrev pub Follows : (List ℕ → List ℕ → Type 0) → (List ℕ → Type 0) → (List ℕ → Type 0) → Type 0
Follows step old new = (c : List ℕ) → new c → (d : List ℕ) × old d × step d c

-- Time goes on: a crash since t may have left what it may have left before, or what it may leave now.
pub record Elapses (before now : ℕ) (past since : ℕ → List ℕ → Type 0) (may_leave : List ℕ → Type 0)
    : Type 0 where
  pub later : before ≤ now
  pub nothing_else : (t : ℕ) (c : List ℕ) → t ≤ before → since t c → past t c ⊎ may_leave c
  pub keeps : (t : ℕ) (c : List ℕ) → t ≤ before → past t c → since t c
