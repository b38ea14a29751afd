-- A journal on its disk, and one that is read.
use Rattle.std.specs.Prelude.{◌≡◌, ◌≢◌, ◌⊎◌, ℕ, ◌+◌, ◌<◌, ◌≤◌, List, [], ◌∷◌, ◌++◌, length, take, drop, Option, Some, Result, Ok, Err}
use Rattle.std.specs.Int.{w32, to_be_bytes}
use Rattle.cs_base.specs.declared.limits.TheConstants.{MOST_DATAGRAM}
use Rattle.cs_io.specs.declared.link.MemInput.{MemInput}
use Rattle.cs_io.specs.declared.link.MemInput.TheVariants.{Datagram, Tick}
use Rattle.cs_disk.specs.Disk.{Only}
use Rattle.cs_journal.specs.Journal.{head, kept_bytes, Keeps, IsJournal}
use Rattle.cs_journal.specs.declared.journal.Journal.{Journal}
use Rattle.cs_journal.specs.declared.recovery.Recovery.{Recovery}
use Rattle.cs_journal.specs.declared.found.Found.{Found}
use Rattle.cs_journal.specs.declared.found.Found.TheVariants as found
use Rattle.cs_journal.specs.declared.error.JournalError.{JournalError}
use Rattle.cs_journal.specs.declared.error.JournalError.TheVariants.{BadJournal, DiskFault, Full, Memory}

-- ---- a journal that goes on

-- The file keeps these inputs, and their closed gate, which is 0, stands where the journal says.
pub record EndsAt (id : List ℕ) (inputs : List MemInput) (end : ℕ) (file : List ℕ) : Type 0 where
  pub rest : List ℕ
  pub keeps : Keeps id inputs (0 ∷ rest) file
  pub place : end ≡ length (head id ++ kept_bytes inputs)

-- The disk tells its file, which is so, and a crash leaves just that.
pub record IsKept {D : Type 0} (content : D → Option (List ℕ)) (may_leave : D → List ℕ → Type 0) (id : List ℕ)
    (inputs : List MemInput) (journal : Journal) (disk : D) : Type 0 where
  pub file : List ℕ
  pub told : content disk ≡ Some file
  pub ends : EndsAt id inputs journal.end file
  pub durable : Only file (may_leave disk)

-- ---- a journal that is read

-- up to its place these inputs were read, and a gate is to come
pub record IsRead (id : List ℕ) (inputs : List MemInput) (recovery : Recovery) (file : List ℕ) : Type 0 where
  pub keeps : Keeps id inputs (drop recovery.at file) file
  pub place : recovery.at ≡ length (head id ++ kept_bytes inputs)
  pub whole : recovery.length ≡ length file

-- no inputs make it a journal of this id
abbrev pub IsNone : List ℕ → List ℕ → Type 0
IsNone id file = (inputs : List MemInput) → IsJournal id inputs file → ⊥

-- at the place where it was read stands this gate, which isn't open
pub record ShowsGate (id : List ℕ) (inputs : List MemInput) (recovery : Recovery) (gate : ℕ) (file : List ℕ)
    : Type 0 where
  pub read : IsRead id inputs recovery file
  pub rest : List ℕ
  pub here : drop recovery.at file ≡ gate ∷ rest
  pub closed : gate ≢ 1

-- what the head shows
abbrev pub Begins : List ℕ → List ℕ → Result Recovery JournalError → Type 0
Begins id file (Ok recovery) = IsRead id [] recovery file
Begins id file (Err BadJournal) = IsNone id file
Begins id file (Err DiskFault) = Unit {0}
Begins id file (Err Full) = ⊥
Begins id file (Err Memory) = Unit {0}

-- what a gate shows; the bytes of a datagram stand in the front of the buffer
abbrev pub Finds : List ℕ → List MemInput → Recovery → List ℕ → List ℕ → Result Found JournalError → Type 0
Finds id inputs after file buf (Ok found.Tick) = IsRead id (inputs ++ Tick ∷ []) after file
Finds id inputs after file buf (Ok (found.Datagram n)) =
    (n ≤ length buf) × IsRead id (inputs ++ Datagram (take n buf) ∷ []) after file
Finds id inputs after file buf (Ok (found.Gate gate)) =
    ShowsGate id inputs after gate file
Finds id inputs after file buf (Err BadJournal) = IsNone id file
Finds id inputs after file buf (Err DiskFault) = Unit {0}
Finds id inputs after file buf (Err Full) = ⊥
Finds id inputs after file buf (Err Memory) = Unit {0}

-- behind an open gate the reading goes on from this place, and a datagram fits into the buffer; a gate that isn't open
-- stands within the file
abbrev pub FoundFits : ℕ → Recovery → Result Found JournalError → Type 0
FoundFits at after (Ok found.Tick) = at + 6 ≤ after.at
FoundFits at after (Ok (found.Datagram n)) = (n ≤ MOST_DATAGRAM + 1) × (at + 6 ≤ after.at)
FoundFits at after (Ok (found.Gate gate)) = after.at + 1 ≤ after.length
FoundFits at after (Err error) = Unit {0}

-- ---- its parts

-- the byte at this place; there is none only at the file's end
abbrev pub GateAt : ℕ → List ℕ → Result ℕ JournalError → Type 0
GateAt at file (Ok gate) = drop at file ≡ gate ∷ drop (at + 1) file
GateAt at file (Err BadJournal) = length file ≤ at
GateAt at file (Err DiskFault) = Unit {0}
GateAt at file (Err Full) = ⊥
GateAt at file (Err Memory) = ⊥

-- kind and length behind a gate; a file that ends before has none
abbrev pub HeaderAt : ℕ → List ℕ → Result (ℕ × ℕ) JournalError → Type 0
HeaderAt at file (Ok (kind, count)) = drop (at + 1) file ≡ kind ∷ to_be_bytes w32 count ++ drop (at + 6) file
HeaderAt at file (Err BadJournal) = length file < at + 6
HeaderAt at file (Err DiskFault) = Unit {0}
HeaderAt at file (Err Full) = ⊥
HeaderAt at file (Err Memory) = ⊥

-- the record of a tick has no bytes
abbrev pub TickAt : ℕ → ℕ → Recovery → Result Found JournalError → Type 0
TickAt at count after (Ok found.Tick) = (count ≡ 0) × (after.at ≡ at + 6)
TickAt at count after (Ok (found.Datagram n)) = ⊥
TickAt at count after (Ok (found.Gate gate)) = ⊥
TickAt at count after (Err BadJournal) = count ≢ 0
TickAt at count after (Err DiskFault) = ⊥
TickAt at count after (Err Full) = ⊥
TickAt at count after (Err Memory) = ⊥

-- so many bytes behind kind and length; there are too many, or the file has fewer
abbrev pub DatagramAt : ℕ → ℕ → List ℕ → Recovery → List ℕ → Result Found JournalError → Type 0
DatagramAt at count file after buf (Ok (found.Datagram n)) =
    (n ≡ count) × (n ≤ MOST_DATAGRAM + 1) × (n ≤ length buf) × (after.at ≡ at + 6 + n)
    × (drop (at + 6) file ≡ take n buf ++ drop (at + 6 + n) file)
DatagramAt at count file after buf (Ok found.Tick) = ⊥
DatagramAt at count file after buf (Ok (found.Gate gate)) = ⊥
DatagramAt at count file after buf (Err BadJournal) = (MOST_DATAGRAM + 1 < count) ⊎ (length file < at + 6 + count)
DatagramAt at count file after buf (Err DiskFault) = Unit {0}
DatagramAt at count file after buf (Err Full) = ⊥
DatagramAt at count file after buf (Err Memory) = ⊥
