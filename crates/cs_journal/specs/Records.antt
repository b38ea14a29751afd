-- What a journal keeps of an input.
use Rattle.std.specs.Prelude.{ℕ, ◌+◌, ◌≤◌, List, ◌∷◌, ◌++◌, length}
use Rattle.std.specs.Int.{w32, to_be_bytes}
use Rattle.cs_base.specs.declared.limits.TheConstants.{MOST_DATAGRAM}
use Rattle.cs_io.specs.declared.link.MemInput.{MemInput}
use Rattle.cs_io.specs.declared.link.MemInput.TheVariants.{Datagram, Tick}
use Rattle.cs_journal.specs.declared.given.Given.{Given}
use Rattle.cs_journal.specs.declared.given.Given.TheVariants as given

-- as a link gives it
abbrev pub input_in : Given → MemInput
input_in given.Tick = Tick
input_in (given.Datagram bytes) = Datagram bytes.now

-- a link gives at most a byte more than a datagram has
abbrev pub InputFits : MemInput → Type 0
InputFits Tick = Unit {0}
InputFits (Datagram bytes) = length bytes ≤ MOST_DATAGRAM + 1

-- its kind, its length in four bytes, and its bytes
abbrev pub record_bytes : MemInput → List ℕ
record_bytes Tick = 0 ∷ to_be_bytes w32 0
record_bytes (Datagram bytes) = 1 ∷ to_be_bytes w32 (length bytes) ++ bytes
