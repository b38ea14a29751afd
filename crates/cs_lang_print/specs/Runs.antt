-- How a chain or a path is printed from the left.
use Rattle.std.specs.Prelude.{ℕ, zero, suc, ◌-◌, ◌/◌, ◌%◌, ◌==◌, ◌&&◌, Bool, true, List, [], ◌∷◌, ◌++◌, length, codes, if◌then◌else◌}
use Rattle.cs_lang_print.specs.Words.{word}

abbrev pub times : ℕ → List ℕ → List ℕ
times zero text = []
times (suc n) text = text ++ times n text

-- the parentheses that open before so many parts
unfoldable pub openings : ℕ → List ℕ
openings count = times ((count - 1) / 64) (word (codes "("))

-- the parenthesis that closes before a part with so many behind it, with itself, where it stands behind another
abbrev pub closing : Bool → ℕ → List ℕ
closing behind left = if behind && left % 64 == 0 then word (codes ")") else []

-- parts, the first of them behind another or not
abbrev pub parts_text : {X : Type 0} → (X → List ℕ) → Bool → List X → List ℕ
parts_text text behind [] = []
parts_text text behind (x ∷ xs) = (closing behind (suc (length xs)) ++ text x) ++ parts_text text true xs

abbrev pub comma_text : Bool → List ℕ
comma_text behind = if behind then word (codes ",") else []

-- items, the first of them behind another or not
abbrev pub items_text : {X : Type 0} → (X → List ℕ) → Bool → List X → List ℕ
items_text text behind [] = []
items_text text behind (x ∷ xs) = (comma_text behind ++ text x) ++ items_text text true xs
