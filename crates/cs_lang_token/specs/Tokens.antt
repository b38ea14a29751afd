-- The tokens of a text.
use Rattle.std.specs.Prelude.{◌≡◌, ℕ, zero, suc, ◌+◌, ◌*◌, ◌-◌, Bool, true, false, not, nat_le, ◌<◌, ◌≤◌, ◌==◌, ◌&&◌, ◌||◌, List, [], ◌∷◌, ◌++◌, ◌%◌, length, take, drop, position, unwrap_or, codes, Option, None, Some, Result, Ok, Err, if◌then◌else◌}
use Rattle.std.specs.Str.{bytes_eq}
use Rattle.cs_lang_token.specs.declared.token.Token.{Token}
use Rattle.cs_lang_token.specs.declared.kind.Kind.{Kind}
use Rattle.cs_lang_token.specs.declared.kind.Kind.TheVariants as kind
use Rattle.cs_lang_token.specs.declared.lexeme.Lexeme.{Lexeme}
use Rattle.cs_lang_token.specs.Grammar.{◌>>=◌}
use Rattle.cs_base.specs.Options.{or_else}
use Rattle.cs_base.specs.Characters.{is_digit}

-- ---- characters

abbrev pub is_blank : ℕ → Bool
is_blank c = c == 32 || c == 9 || c == 13 || c == 10

abbrev pub is_letter : ℕ → Bool
is_letter c = nat_le 65 c && nat_le c 90 || nat_le 97 c && nat_le c 122 || c == 95

abbrev pub is_name_character : ℕ → Bool
is_name_character c = is_letter c || is_digit c

-- a hexadecimal digit, of which the letters are small
abbrev pub is_hex : ℕ → Bool
is_hex c = is_digit c || nat_le 97 c && nat_le c 102

-- how many at the front pass
abbrev pub run_length : (ℕ → Bool) → List ℕ → ℕ
run_length test bytes = unwrap_or (position (λ c. not (test c)) bytes) (length bytes)

-- ---- what the longest token at the front of a text is; each of these begins with the first of its bytes

-- reserved words are kinds of their own
abbrev pub kind_of_value_word : List ℕ → Kind
kind_of_value_word word =
    if bytes_eq word (codes "int") then kind.IntKind
    else if bytes_eq word (codes "bool") then kind.BoolKind
    else if bytes_eq word (codes "bytes") then kind.BytesKind
    else if bytes_eq word (codes "len") then kind.Len
    else if bytes_eq word (codes "sha256") then kind.Sha256
    else if bytes_eq word (codes "concat") then kind.Concat
    else if bytes_eq word (codes "called") then kind.Called
    else if bytes_eq word (codes "depint") then kind.DepInt
    else kind.Name

abbrev pub kind_of_logic_word : List ℕ → Kind
kind_of_logic_word word =
    if bytes_eq word (codes "and") then kind.And
    else if bytes_eq word (codes "or") then kind.Or
    else if bytes_eq word (codes "not") then kind.Not
    else if bytes_eq word (codes "true") then kind.True
    else if bytes_eq word (codes "false") then kind.False
    else if bytes_eq word (codes "empty") then kind.Empty
    else kind_of_value_word word

abbrev pub kind_of_statement_word : List ℕ → Kind
kind_of_statement_word word =
    if bytes_eq word (codes "let") then kind.Let
    else if bytes_eq word (codes "set") then kind.Set
    else if bytes_eq word (codes "if") then kind.If
    else if bytes_eq word (codes "else") then kind.Else
    else if bytes_eq word (codes "for") then kind.For
    else if bytes_eq word (codes "in") then kind.In
    else if bytes_eq word (codes "to") then kind.To
    else if bytes_eq word (codes "make") then kind.Make
    else if bytes_eq word (codes "call") then kind.Call
    else if bytes_eq word (codes "answer") then kind.Answer
    else kind_of_logic_word word

abbrev pub kind_of_word : List ℕ → Kind
kind_of_word word =
    if bytes_eq word (codes "type") then kind.Type
    else if bytes_eq word (codes "method") then kind.Method
    else if bytes_eq word (codes "consumes") then kind.Consumes
    else if bytes_eq word (codes "reads") then kind.Reads
    else if bytes_eq word (codes "takes") then kind.Takes
    else if bytes_eq word (codes "creates") then kind.Creates
    else if bytes_eq word (codes "returns") then kind.Returns
    else if bytes_eq word (codes "procedure") then kind.Procedure
    else if bytes_eq word (codes "check") then kind.Check
    else kind_of_statement_word word

-- It has a byte at least, and no more than there are.
abbrev pub HasBytes : Lexeme → ℕ → Type 0
HasBytes x most = (0 < x.length) × (x.length ≤ most)

-- as many name characters as there are, up to 32
abbrev pub name_lexeme : List ℕ → Lexeme
name_lexeme bytes = let word = take (run_length is_name_character (take 32 bytes)) bytes in
    record { kind = kind_of_word word; number = 0; bytes = word; length = run_length is_name_character (take 32 bytes) }

-- the digits that go on with a number as long as it is at most this: the number, and how many digits went on
abbrev pub number_from : ℕ → List ℕ → ℕ × ℕ
number_from value [] = (value, 0)
number_from value (c ∷ cs) =
    if is_digit c && nat_le (value * 10 + (c - 48)) 9223372036854775807
    then (let r = number_from (value * 10 + (c - 48)) cs in (r.0, r.1 + 1))
    else (value, 0)

-- a zero alone, or digits of which the first is no zero
abbrev pub number_lexeme : ℕ → List ℕ → Lexeme
number_lexeme first rest =
    if first == 48 then record { kind = kind.Number; number = 0; bytes = []; length = 1 }
    else (let r = number_from (first - 48) rest in
    record { kind = kind.Number; number = r.0; bytes = []; length = r.1 + 1 })

abbrev pub hex_value : ℕ → ℕ
hex_value c = if is_digit c then c - 48 else if is_hex c then c - 87 else 0

abbrev pub hex_bytes : List ℕ → List ℕ
hex_bytes [] = []
hex_bytes (high ∷ []) = []
hex_bytes (high ∷ low ∷ digits) = (hex_value high * 16 + hex_value low) ∷ hex_bytes digits

-- whether the first passes
abbrev pub starts : (ℕ → Bool) → List ℕ → Bool
starts test [] = false
starts test (c ∷ cs) = test c

abbrev pub is_first : ℕ → List ℕ → Bool
is_first c = starts (λ b. b == c)

-- behind the quote: an even number of hexadecimal digits, at most 512 of them, and a quote
abbrev pub quoted_at : List ℕ → Option Lexeme
quoted_at rest = let n = run_length is_hex (take 512 rest) in
    if n % 2 == 0 && is_first 34 (drop n rest)
    then Some (record { kind = kind.Bytes; number = 0; bytes = hex_bytes (take n rest); length = n + 3 })
    else None

-- x and a quote, and what belongs behind them
abbrev pub byte_text_at : List ℕ → Option Lexeme
byte_text_at [] = None
byte_text_at (c ∷ []) = None
byte_text_at (c ∷ d ∷ rest) = if c == 120 && d == 34 then quoted_at rest else None

abbrev pub operator_sign : ℕ → Option Kind
operator_sign c =
    if c == 46 then Some kind.Dot
    else if c == 42 then Some kind.Star
    else if c == 61 then Some kind.Becomes
    else if c == 60 then Some kind.Less
    else if c == 62 then Some kind.Greater
    else if c == 43 then Some kind.Plus
    else if c == 45 then Some kind.Minus
    else if c == 47 then Some kind.Slash
    else if c == 37 then Some kind.Percent
    else None

-- a sign of one character
abbrev pub one_sign : ℕ → Option Kind
one_sign c =
    if c == 40 then Some kind.Open
    else if c == 41 then Some kind.Close
    else if c == 123 then Some kind.OpenBlock
    else if c == 125 then Some kind.CloseBlock
    else if c == 91 then Some kind.OpenList
    else if c == 93 then Some kind.CloseList
    else if c == 44 then Some kind.Comma
    else if c == 59 then Some kind.Semicolon
    else if c == 58 then Some kind.Colon
    else operator_sign c

-- a sign that ends with =
abbrev pub two_sign : ℕ → Option Kind
two_sign c =
    if c == 61 then Some kind.Equal
    else if c == 33 then Some kind.NotEqual
    else if c == 60 then Some kind.LessOrEqual
    else if c == 62 then Some kind.GreaterOrEqual
    else None

abbrev pub signed_lexeme : ℕ → Option Kind → Option Lexeme
signed_lexeme length None = None
signed_lexeme length (Some k) = Some (record { kind = k; number = 0; bytes = []; length = length })

-- a sign of two characters, else one of one
abbrev pub sign_at : ℕ → List ℕ → Option Lexeme
sign_at c rest = or_else (if is_first 61 rest then signed_lexeme 2 (two_sign c) else None) (signed_lexeme 1 (one_sign c))

-- a byte text, else a word
abbrev pub byte_text_or_word_at : List ℕ → Option Lexeme
byte_text_or_word_at bytes = or_else (byte_text_at bytes) (Some (name_lexeme bytes))

-- the longest token at the front of a text
abbrev pub lexeme_at : List ℕ → Option Lexeme
lexeme_at [] = None
lexeme_at (c ∷ cs) =
    if is_letter c then byte_text_or_word_at (c ∷ cs)
    else if is_digit c then Some (number_lexeme c cs)
    else sign_at c cs

-- ---- all tokens of a text

-- how many bytes at the front separate tokens: a blank, or a comment up to the end of its line
abbrev pub blank_length : List ℕ → ℕ
blank_length [] = 0
blank_length (c ∷ cs) =
    if is_blank c then 1
    else if c == 47 && is_first 47 cs then run_length (λ b. not (b == 10)) (c ∷ cs)
    else 0

abbrev pub token_of : ℕ → Lexeme → Token
token_of place x = record { kind = x.kind; number = x.number; bytes = x.bytes; place = place }

abbrev pub token_piece : ℕ → Option Lexeme → Option (List Token × ℕ)
token_piece place None = None
token_piece place (Some x) = Some (token_of place x ∷ [], x.length)

-- what stands at the front: the tokens, of which there is one at most, and how many bytes they have;
-- None where no token begins
abbrev pub piece_at : ℕ → List ℕ → Option (List Token × ℕ)
piece_at place bytes =
    if 0 == blank_length bytes then token_piece place (lexeme_at bytes) else Some ([], blank_length bytes)

-- what stands at the front has so many bytes, and its tokens come behind the others
abbrev pub AddsPiece : ℕ → List ℕ → ℕ → List Token → List Token → Type 0
AddsPiece place bytes count old new =
    (more : List Token) × (piece_at place bytes ≡ Some (more, count)) × (new ≡ old ++ more)

abbrev pub after_piece : ℕ → List ℕ → Option (List Token × ℕ) → (ℕ → List ℕ → Result (List Token) ℕ)
    → Result (List Token) ℕ
after_piece place bytes None others = Err place
after_piece place bytes (Some p) others = others (place + p.1) (drop p.1 bytes) >>= λ ts. Ok (p.0 ++ ts)

-- the tokens from a place on, or the first place at which none begins
abbrev pub tokens_from : ℕ → ℕ → List ℕ → Result (List Token) ℕ
tokens_from zero place bytes = Ok []
tokens_from (suc n) place [] = Ok []
tokens_from (suc n) place (c ∷ cs) = after_piece place (c ∷ cs) (piece_at place (c ∷ cs)) (tokens_from n)

abbrev pub tokens_of : List ℕ → Result (List Token) ℕ
tokens_of bytes = tokens_from (length bytes) 0 bytes
