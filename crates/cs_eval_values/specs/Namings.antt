-- Names, and what they stand for.
use Rattle.std.specs.Prelude.{ℕ, suc, Bool, List, [], ◌∷◌, ◌++◌, Option, Some, None, if◌then◌else◌}
use Rattle.std.specs.Str.{bytes_eq}
use Rattle.cs_types_kinds.specs.declared.kind.Kind.{Kind}
use Rattle.cs_eval_values.specs.Datums.{Datum}

-- a name, the kind of what it stands for, and what that is
pub record Named : Type 0 where
  pub name : List ℕ
  pub kind : Kind
  pub datum : Datum

abbrev pub named : List ℕ → Kind → Datum → Named
named name kind datum = record { name = name; kind = kind; datum = datum }

abbrev pub is_of_name : List ℕ → Named → Bool
is_of_name name n = bytes_eq n.name name

-- the place of the first of this name, or the number of names where there is none
abbrev pub place_named : List ℕ → List Named → ℕ
place_named name [] = 0
place_named name (n ∷ ns) = if is_of_name name n then 0 else suc (place_named name ns)

-- the first of this name
abbrev pub find_named : List ℕ → List Named → Option Named
find_named name [] = None
find_named name (n ∷ ns) = if is_of_name name n then Some n else find_named name ns

abbrev pub datum_in : Option Named → Option Datum
datum_in None = None
datum_in (Some n) = Some n.datum

abbrev pub kind_in : Option Named → Option Kind
kind_in None = None
kind_in (Some n) = Some n.kind

-- what a name stands for
abbrev pub datum_named : List ℕ → List Named → Option Datum
datum_named name names = datum_in (find_named name names)

-- the kind of what a name stands for
abbrev pub kind_named : List ℕ → List Named → Option Kind
kind_named name names = kind_in (find_named name names)

-- with something else under the first of this name
abbrev pub with_datum : List ℕ → Datum → List Named → List Named
with_datum name d [] = []
with_datum name d (n ∷ ns) = if is_of_name name n then named n.name n.kind d ∷ ns else n ∷ with_datum name d ns

-- with one name more
abbrev pub with_named : List Named → List ℕ → Kind → Datum → List Named
with_named names name kind d = names ++ named name kind d ∷ []
