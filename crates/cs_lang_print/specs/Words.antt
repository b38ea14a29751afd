-- How tokens stand in a printed text: a space or a break behind each.
use Rattle.std.specs.Prelude.{◌≡◌, ℕ, ◌+◌, ◌/◌, ◌%◌, nat_lt, List, [], ◌∷◌, ◌++◌, codes, Result, Vec, OnOk, if◌then◌else◌}
use Rattle.cs_lang.specs.declared.tree.Operator.{Operator}
use Rattle.cs_lang.specs.declared.tree.Operator.TheVariants as operator
use Rattle.cs_lang.specs.declared.tree.Comparison.{Comparison}
use Rattle.cs_lang.specs.declared.tree.Comparison.TheVariants as comparison

-- a token on a line
unfoldable pub word : List ℕ → List ℕ
word token = token ++ 32 ∷ []

-- the last token of a line
unfoldable pub ending : List ℕ → List ℕ
ending token = token ++ 10 ∷ []

abbrev pub hex_digit : ℕ → ℕ
hex_digit n = if nat_lt n 10 then 48 + n else 87 + n

-- two small hex digits for each byte
abbrev pub hex_text : List ℕ → List ℕ
hex_text [] = []
hex_text (b ∷ bs) = hex_digit (b / 16) ∷ hex_digit (b % 16) ∷ hex_text bs

-- a byte text
unfoldable pub quoted : List ℕ → List ℕ
quoted bytes = codes "x\"" ++ (hex_text bytes ++ codes "\" ")

abbrev pub operator_text : Operator → List ℕ
operator_text operator.Or = codes "or"
operator_text operator.And = codes "and"
operator_text operator.Plus = codes "+"
operator_text operator.Minus = codes "-"
operator_text operator.Times = codes "*"
operator_text operator.Divide = codes "/"
operator_text operator.Remainder = codes "%"

abbrev pub comparison_text : Comparison → List ℕ
comparison_text comparison.Equal = codes "=="
comparison_text comparison.NotEqual = codes "!="
comparison_text comparison.Less = codes "<"
comparison_text comparison.LessOrEqual = codes "<="
comparison_text comparison.Greater = codes ">"
comparison_text comparison.GreaterOrEqual = codes ">="

-- Unless it failed, the text stands behind what was there.
abbrev pub Appends : {A E Z : Type 0} → Result A E → Vec ℕ Z → Vec ℕ Z → List ℕ → Type 0
Appends result old new text = OnOk result (new.items ≡ old.items ++ text)

-- new goes on where old ends
pub record GoesOnBehind (new old : List ℕ) : Type 0 where
  pub more : List ℕ
  pub is : new ≡ old ++ more

-- one text behind the other
abbrev pub each_text : {X : Type 0} → (X → List ℕ) → List X → List ℕ
each_text text [] = []
each_text text (x ∷ xs) = text x ++ each_text text xs

abbrev pub behind_comma : {X : Type 0} → (X → List ℕ) → X → List ℕ
behind_comma text x = word (codes ",") ++ text x

-- with commas between them
abbrev pub with_commas : {X : Type 0} → (X → List ℕ) → List X → List ℕ
with_commas text [] = []
with_commas text (x ∷ xs) = text x ++ each_text (behind_comma text) xs
