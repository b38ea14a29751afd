-- What a refusal answers and prints.
use Rattle.std.specs.Prelude.{ℕ, List, [], ◌∷◌, ◌++◌, codes}
use Rattle.std.specs.Fmt.{decimal}
use Rattle.cs_text.specs.declared.cause.Cause.{Cause}
use Rattle.cs_text.specs.declared.cause.Cause.TheVariants.{Word, Count, Number, Limit, Node, Role, Liars, Hex, Object, Contract, Key, End, After}

-- the word of a cause
abbrev pub word_of : Cause → List ℕ
word_of Word = codes "word"
word_of Count = codes "count"
word_of Number = codes "number"
word_of Limit = codes "limit"
word_of Node = codes "node"
word_of Role = codes "role"
word_of Liars = codes "liars"
word_of Hex = codes "hex"
word_of Object = codes "object"
word_of Contract = codes "contract"
word_of Key = codes "key"
word_of End = codes "end"
word_of After = codes "after"

-- the line of any cause but a limit
abbrev pub refused_text : ℕ → Cause → List ℕ
refused_text line cause = codes "refused " ++ decimal line ++ codes " " ++ word_of cause ++ 10 ∷ []

-- the line of a limit
abbrev pub limit_text : ℕ → List ℕ
limit_text line = codes "limit " ++ decimal line ++ 10 ∷ []

-- the line that is printed of a refusal
abbrev pub refusal_text : ℕ → Cause → List ℕ
refusal_text line Limit = limit_text line
refusal_text line cause = refused_text line cause

-- the status of a refusal
abbrev pub refusal_status : Cause → ℕ
refusal_status Limit = 13
refusal_status cause = 3
