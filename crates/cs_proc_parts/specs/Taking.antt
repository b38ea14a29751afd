-- What a call answers that fills slots from the front.
use Rattle.std.specs.Prelude.{◌≡◌, ℕ, List, Option, Some, None}
use Rattle.cs_eval_values.specs.Namings.{Named}
use Rattle.cs_proc_parts.specs.Beginning.{TakenSlots}

-- so many objects are taken
abbrev pub TakesObjects : Option ℕ → List Named → Option TakenSlots → Type 0
TakesObjects None names found = found ≡ None
TakesObjects (Some count) names found = found ≡ Some (names, count)
