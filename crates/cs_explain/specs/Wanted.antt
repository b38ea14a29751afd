-- The tokens that can stand at a place of a text, and how they are told.
use Rattle.std.specs.Prelude.{◌≡◌, ◌⊎◌, ℕ, List, [], ◌∷◌, ◌++◌, take, codes, if◌then◌else◌}
use Rattle.cs_lang_token.specs.declared.kind.Kind.{Kind}
use Rattle.cs_explain.specs.declared.words.TheConstants.{ORDER}
use Rattle.cs_explain.specs.Words.{spelling, label}
use Rattle.cs_explain.specs.Fronts.{goes_on}

-- a token more, on a line of its own
abbrev pub with_token : List ℕ → Kind → List ℕ
with_token front kind = front ++ 10 ∷ spelling kind

-- those of the kinds that can stand behind a front
unfoldable pub wanted_among : List ℕ → List Kind → List Kind
wanted_among front [] = []
wanted_among front (kind ∷ kinds) =
    if goes_on (with_token front kind) then kind ∷ wanted_among front kinds else wanted_among front kinds

abbrev pub IsOneOf : Kind → List Kind → Type 0
IsOneOf kind [] = ⊥
IsOneOf kind (first ∷ others) = (first ≡ kind) ⊎ IsOneOf kind others

-- the kinds of tokens that can stand at the place, where the text before it stays
abbrev pub wanted_at : List ℕ → ℕ → List Kind
wanted_at text place = wanted_among (take place text) ORDER

-- the first three of them
abbrev pub kinds_text : List Kind → List ℕ
kinds_text [] = codes "nothing"
kinds_text (a ∷ []) = label a
kinds_text (a ∷ b ∷ []) = label a ++ (codes " " ++ label b)
kinds_text (a ∷ b ∷ c ∷ []) = label a ++ (codes " " ++ (label b ++ (codes " " ++ label c)))
kinds_text (a ∷ b ∷ c ∷ d ∷ more) = label a ++ (codes " " ++ (label b ++ (codes " " ++ (label c ++ codes " .."))))
