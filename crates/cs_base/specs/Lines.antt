-- The lines of a text, and the fields of a line.
use Rattle.std.specs.Prelude.{ℕ, ◌==◌, not, List, [], ◌∷◌, length, map, filter, if◌then◌else◌}
use denote.Ref.{Bor}
use Rattle.std.specs.List.{slice_split}
use Rattle.std.specs.Str.Lines.{strip_carriage_return}

-- the fields of a line: what stands between spaces
abbrev pub fields_of : List ℕ → List (List ℕ)
fields_of line = filter (λ field. not (length field == 0)) (slice_split (λ byte. byte == 32) line)

-- what references to lists point to
abbrev pub views : List (Bor (List ℕ)) → List (List ℕ)
views fields = map (λ field. field.now) fields

-- all but the last
abbrev pub all_but_last : List (List ℕ) → List (List ℕ)
all_but_last [] = []
all_but_last (part ∷ []) = []
all_but_last (part ∷ next ∷ more) = part ∷ all_but_last (next ∷ more)

-- the lines that end with LF, each without the CR in front of it
abbrev pub ended_lines : List ℕ → List (List ℕ)
ended_lines text = map strip_carriage_return (all_but_last (slice_split (λ byte. byte == 10) text))

-- what stands after the last LF is a line where it is not empty
abbrev pub last_line : List ℕ → List (List ℕ)
last_line rest = if length rest == 0 then [] else rest ∷ []
