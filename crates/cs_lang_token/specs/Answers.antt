-- What a reading function answers.
use Rattle.std.specs.Prelude.{◌≡◌, ℕ, List, [], ◌∷◌, Result, Ok, Err}
use Rattle.cs_lang_token.specs.declared.token.Token.{Token}
use Rattle.cs_lang_token.specs.declared.cursor.Stop.{Stop}
use Rattle.cs_lang_token.specs.declared.cursor.Stop.TheVariants as stop

-- memory may run out; where the syntax stops it, the cursor stands at the token with which nothing can go on
abbrev pub ReaderFails : {X : Type 0} → Stop → List Token → Result (X × List Token) (List Token) → Type 0
ReaderFails stop.Memory rest found = Unit {0}
ReaderFails stop.Syntax rest found = found ≡ Err rest

abbrev pub ReaderGives : {X : Type 0} → Result X Stop → List Token → Result (X × List Token) (List Token) → Type 0
ReaderGives (Ok x) rest found = found ≡ Ok (x, rest)
ReaderGives (Err e) rest found = ReaderFails e rest found

-- the place of the first of the tokens, or the end
abbrev pub place_of : ℕ → List Token → ℕ
place_of end [] = end
place_of end (t ∷ ts) = t.place
