-- Rules for one token, and rows of things with commas between them.
use Rattle.std.specs.Prelude.{ℕ, zero, suc, Bool, true, false, List, [], ◌∷◌, ◌++◌, Ok}
use Rattle.cs_lang_token.specs.declared.token.Token.{Token}
use Rattle.cs_lang_token.specs.declared.token.Text.{Text}
use Rattle.cs_lang_token.specs.declared.token.Number.{Number}
use Rattle.cs_lang_token.specs.declared.kind.Kind.{Kind}
use Rattle.cs_lang_token.specs.declared.kind.Kind.TheVariants as kind
use Rattle.cs_lang_token.specs.Grammar.{Rule, Reader, token, token_at, pair, pair_read, mapped, mapped_at, many, links_at, ◌>>=◌}
use Rattle.cs_lang_token.specs.Kinds.{is}

-- ---- one token

abbrev pub place_of_token : Token → ℕ
place_of_token t = t.place

abbrev pub text_of : Token → Text
text_of t = record { bytes = t.bytes; place = t.place }

abbrev pub number_of_token : Token → Number
number_of_token t = record { value = t.number; place = t.place }

-- a sign or a word, of which the place is kept
abbrev pub sign : Kind → Bool → Rule ℕ
sign k room = mapped place_of_token (token (is (k ∷ [])) room)

abbrev pub sign_at : Kind → Bool → Reader ℕ
sign_at k room = mapped_at place_of_token (token_at (is (k ∷ [])) room)

abbrev pub name : Rule Text
name = mapped text_of (token (is (kind.Name ∷ [])) true)

abbrev pub name_token_at : Reader Text
name_token_at = mapped_at text_of (token_at (is (kind.Name ∷ [])) true)

abbrev pub bytes : Rule Text
bytes = mapped text_of (token (is (kind.Bytes ∷ [])) true)

abbrev pub bytes_token_at : Reader Text
bytes_token_at = mapped_at text_of (token_at (is (kind.Bytes ∷ [])) true)

abbrev pub number : Rule Number
number = mapped number_of_token (token (is (kind.Number ∷ [])) true)

abbrev pub number_token_at : Reader Number
number_token_at = mapped_at number_of_token (token_at (is (kind.Number ∷ [])) true)

-- whether one more level may be opened, where so many are left
abbrev pub room_of : ℕ → Bool
room_of zero = false
room_of (suc left) = true

abbrev pub less_one : ℕ → ℕ
less_one zero = zero
less_one (suc n) = n

-- ---- rows

-- one after the other, from the left
abbrev pub joined_left : {A X : Type 0} → (A → X → A) → A → List X → A
joined_left f e [] = e
joined_left f e (x ∷ xs) = joined_left f (f e x) xs

abbrev pub joined_pair : {A X : Type 0} → (A → X → A) → A × List X → A
joined_pair f p = joined_left f p.0 p.1

abbrev pub item_behind : {X : Type 0} → List X → ℕ × X → List X
item_behind items p = items ++ p.1 ∷ []

abbrev pub first_and_rest : {X : Type 0} → X × List (ℕ × X) → List X
first_and_rest p = joined_left item_behind (p.0 ∷ []) p.1

-- R { "," R }
abbrev pub commas : {X : Type 0} → Rule X → Rule (List X)
commas R = mapped first_and_rest (pair R (many (pair (sign kind.Comma true) R)))
