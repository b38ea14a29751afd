-- Refusing one file.
use Rattle.std.specs.Prelude.{◌≡◌, ℕ, List}
use Rattle.cs_deploy.specs.declared.cause.Cause.{Cause}
use Rattle.cs_deploy.specs.declared.cause.Untaken.{Untaken}
use Rattle.cs_deploy.specs.declared.cause.Untaken.TheVariants as untaken

-- the file of this name is refused for this cause, unless memory ran out
abbrev pub Refuses : List ℕ → Cause → Untaken → Type 0
Refuses name c (untaken.Refused text why) = (text ≡ name) × (why ≡ c)
Refuses name c untaken.Memory = Unit {0}
