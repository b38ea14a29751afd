-- The text of a line, of a word and fields.
use Rattle.std.specs.Prelude.{ℕ, List, [], ◌∷◌, ◌++◌}
use Rattle.std.specs.Fmt.{decimal}
use Rattle.cs_base.specs.Codes.{bytes_text}
use Rattle.cs_base.specs.Fields.{each}
use Rattle.cs_base.specs.NodeId.{node_text}
use Rattle.cs_base.specs.declared.node_id.NodeId.{NodeId}

-- a line: its word, each field behind a space, and LF
abbrev pub line_text : List (List ℕ) → List ℕ
line_text [] = 10 ∷ []
line_text (word ∷ fields) = word ++ (each (λ field. 32 ∷ field) fields ++ 10 ∷ [])

-- the words of a line: the one that names it, and its fields

abbrev pub number_words : List ℕ → ℕ → List (List ℕ)
number_words word number = word ∷ decimal number ∷ []

abbrev pub name_words : List ℕ → NodeId → List (List ℕ)
name_words word name = word ∷ node_text name ∷ []

abbrev pub bytes_words : List ℕ → List ℕ → List (List ℕ)
bytes_words word bytes = word ∷ bytes_text bytes ∷ []
