-- Versions and their numbers.
use Rattle.std.specs.Prelude.{ℕ, ◌≤◌, ◌==◌, if◌then◌else◌}
use Rattle.cs_base.specs.declared.limits.TheConstants.{LAST_VERSION}
use Rattle.cs_base.specs.declared.version.Version.{Version}
use Rattle.cs_base.specs.declared.version.Version.TheVariants.{One, Two}

-- there is a version of this number
abbrev pub IsVersion : ℕ → Type 0
IsVersion number = (1 ≤ number) × (number ≤ LAST_VERSION)

abbrev pub number_of : Version → ℕ
number_of One = 1
number_of Two = 2

-- the version of a number that has one
abbrev pub version_of : ℕ → Version
version_of number = if number == 1 then One else Two
