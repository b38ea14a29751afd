-- Grammars over tokens: what a rule spells, and how it is read from the left.
use Rattle.std.specs.Prelude.{◌≡◌, ℕ, zero, suc, Bool, true, false, List, [], ◌∷◌, ◌++◌, length, Result, Ok, Err, if◌then◌else◌, ◌⊎◌}
use Rattle.cs_lang_token.specs.declared.token.Token.{Token}

-- A token of a spelling, and whether it is within the limits: an opening token where as many levels are open as may be,
-- and an operator where its chain is full, are not.
abbrev pub TokenMark : Type 0
TokenMark = Token × Bool

-- the tokens without their marks
abbrev pub without_marks : List TokenMark → List Token
without_marks [] = []
without_marks (m ∷ ms) = m.0 ∷ without_marks ms

-- all of them are within the limits
abbrev pub Within : List TokenMark → Type 0
Within [] = Unit {0}
Within (m ∷ ms) = (m.1 ≡ true) × Within ms

-- what a rule spells: a thing, by tokens
abbrev pub Rule : Type 0 → Type 1
Rule X = X → List TokenMark → Type 0

-- what a reader answers: the thing and the tokens after it, or the tokens from the one with which nothing can go on
abbrev pub Reader : Type 0 → Type 0
Reader X = List Token → Result (X × List Token) (List Token)

infixl 10 ◌>>=◌
abbrev pub ◌>>=◌ : {A B E : Type 0} → Result A E → (A → Result B E) → Result B E
(Ok x) >>= f = f x
(Err e) >>= f = Err e

-- whether the first of the tokens passes a test
abbrev pub begins : (Token → Bool) → List Token → Bool
begins test [] = false
begins test (t ∷ ts) = test t

-- one token, which the limits allow or not
abbrev pub token : (Token → Bool) → Bool → Rule Token
token test room t ms = (ms ≡ (t, room) ∷ []) × (test t ≡ true)

abbrev pub token_at : (Token → Bool) → Bool → Reader Token
token_at test room [] = Err []
token_at test room (t ∷ ts) = if test t then (if room then Ok (t, ts) else Err (t ∷ ts)) else Err (t ∷ ts)

-- one after the other
abbrev pub pair : {X Y : Type 0} → Rule X → Rule Y → Rule (X × Y)
pair R S p ms = (a : List TokenMark) × (b : List TokenMark) × (ms ≡ a ++ b) × R p.0 a × S p.1 b

abbrev pub pair_read : {X Y : Type 0} → Reader X → Reader Y → Reader (X × Y)
pair_read r s ts = r ts >>= λ x. s x.1 >>= λ y. Ok ((x.0, y.0), y.1)

-- a thing made of another
abbrev pub mapped : {X Y : Type 0} → (X → Y) → Rule X → Rule Y
mapped {X} f R y ms = (x : X) × (f x ≡ y) × R x ms

abbrev pub mapped_at : {X Y : Type 0} → (X → Y) → Reader X → Reader Y
mapped_at f r ts = r ts >>= λ x. Ok (f x.0, x.1)

-- one of two, which the first token tells
abbrev pub either : {X : Type 0} → Rule X → Rule X → Rule X
either R S x ms = R x ms ⊎ S x ms

abbrev pub either_at : {X : Type 0} → (Token → Bool) → Reader X → Reader X → Reader X
either_at first r s ts = if begins first ts then r ts else s ts

-- nothing
abbrev pub nothing : {X : Type 0} → X → Rule X
nothing x y ms = (x ≡ y) × (ms ≡ [])

abbrev pub nothing_at : {X : Type 0} → X → Reader X
nothing_at x ts = Ok (x, ts)

-- where nothing is within the limits
abbrev pub refused_at : {X : Type 0} → Reader X
refused_at ts = Err ts

-- a row of links, the first so many within the limits
abbrev pub links : {X : Type 0} → (Bool → Rule X) → ℕ → Rule (List X)
links R left [] ms = ms ≡ []
links R zero (x ∷ xs) ms = (a : List TokenMark) × (b : List TokenMark) × (ms ≡ a ++ b) × R false x a × links R zero xs b
links R (suc left) (x ∷ xs) ms =
    (a : List TokenMark) × (b : List TokenMark) × (ms ≡ a ++ b) × R true x a × links R left xs b

abbrev pub links_at : {X : Type 0} → (Token → Bool) → Reader X → ℕ → Reader (List X)
links_at first r zero ts = if begins first ts then Err ts else Ok ([], ts)
links_at first r (suc left) ts =
    if begins first ts
    then (r ts >>= λ x. links_at first r left x.1 >>= λ xs. Ok (x.0 ∷ xs.0, xs.1))
    else Ok ([], ts)

-- a row without a limit
abbrev pub many : {X : Type 0} → Rule X → Rule (List X)
many R [] ms = ms ≡ []
many R (x ∷ xs) ms = (a : List TokenMark) × (b : List TokenMark) × (ms ≡ a ++ b) × R x a × many R xs b

abbrev pub many_read : {X : Type 0} → (Token → Bool) → Reader X → Reader (List X)
many_read first r ts = links_at first r (length ts) ts

-- what a reader answers on a spelling and what follows it: the thing, or the first token past the limits
abbrev pub answer_after : {A : Type 0} → List TokenMark → List Token → A → Result A (List Token)
answer_after [] rest x = Ok x
answer_after (m ∷ ms) rest x = if m.1 then answer_after ms rest x else Err (m.0 ∷ (without_marks ms ++ rest))

-- ---- a rule and its reader

-- what was read: tokens that spell the thing, each within the limits
pub record FoundTokens {X : Type 0} (R : Rule X) (ts : List Token) (x : X) (rest : List Token) : Type 0 where
  pub marks : List TokenMark
  pub parts : ts ≡ without_marks marks ++ rest
  pub within : Within marks
  pub spells : R x marks

-- where reading stopped: what stands before spells the beginning of something, within the limits
pub record BeginsText {X : Type 0} (R : Rule X) (ts bad : List Token) : Type 0 where
  pub marks : List TokenMark
  pub parts : ts ≡ without_marks marks ++ bad
  pub within : Within marks
  pub thing : X
  pub more : List TokenMark
  pub spells : R thing (marks ++ more)

-- A reader is that of a rule, where no token that goes_on follows.
pub record IsReader {X : Type 0} (Enough : Type 0) (R : Rule X) (goes_on : Token → Bool) (r : Reader X) : Type 0 where
  pub reads : (x : X) (ms : List TokenMark) (rest : List Token) → R x ms → begins goes_on rest ≡ false
      → r (without_marks ms ++ rest) ≡ answer_after ms rest (x, rest)
  pub found : Enough → (ts : List Token) (x : X) (rest : List Token) → r ts ≡ Ok (x, rest) → FoundTokens R ts x rest
  pub stuck : Enough → (ts bad : List Token) → r ts ≡ Err bad → BeginsText R ts bad
  pub same_ok : Enough → (p q : List Token) (t : Token) (us vs : List Token) (x : X)
      → r (p ++ t ∷ us) ≡ Ok (x, q ++ t ∷ us)
      → r (p ++ t ∷ vs) ≡ Ok (x, q ++ t ∷ vs)
  pub same_err : Enough → (p q : List Token) (t : Token) (us vs : List Token)
      → r (p ++ t ∷ us) ≡ Err (q ++ t ∷ us)
      → r (p ++ t ∷ vs) ≡ Err (q ++ t ∷ vs)
  pub some : Enough → (x : X) × (ms : List TokenMark) × R x ms
