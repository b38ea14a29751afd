-- What may be there, or not.
use Rattle.std.specs.Prelude.{Option, Some, None}

-- the first of two that is there
abbrev pub or_else : {A : Type 0} → Option A → Option A → Option A
or_else (Some x) later = Some x
or_else None later = later
