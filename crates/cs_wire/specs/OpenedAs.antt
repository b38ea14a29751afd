-- What bytes open as, told of whole datagrams.
use Rattle.std.specs.Prelude.{◌≡◌, ℕ, List, Some, None, Ok, Err}
use Rattle.cs_wire.specs.declared.keys.Keys.{Keys}
use Rattle.cs_wire.specs.declared.opening.OpenError.{OpenError}
use Rattle.cs_wire.specs.declared.opening.OpenError.TheVariants as errors
use Rattle.cs_wire.specs.Heads.{head_seen}
use Rattle.cs_wire.specs.Opens.{IsSealed, open_fault, HasNoBody}
use Rattle.cs_wire.specs.Opened.{Opened}

-- the first test that fails is this one; the last test is that the body is one of its kind
abbrev pub FailsFirst : Keys → List ℕ → OpenError → Type 0
FailsFirst keys bytes errors.Body = (open_fault keys bytes ≡ None) × HasNoBody keys.version bytes (head_seen bytes)
FailsFirst keys bytes error = open_fault keys bytes ≡ Some error

-- a sender and its message where the bytes are that datagram, or else the first test that fails
abbrev pub IsOpenedAs : Keys → List ℕ → Opened → Type 0
IsOpenedAs keys bytes (Ok said) = IsSealed keys bytes said.0 said.1
IsOpenedAs keys bytes (Err error) = FailsFirst keys bytes error
