-- What holds of the tokens of every text.
use Rattle.std.proofs.Common.{◌≡◌, ℕ, zero, suc, ◌+◌, ◌-◌, ◌*◌, ◌≤◌, Bool, true, false, List, [], ◌∷◌, ◌++◌, length, take, drop, refl, sym, ap, subst, arith, inl, inr}
use Rattle.std.specs.Prelude.{Option, None, Some, Result, Ok, Err, ◌⊎◌, ◌==◌, ◌&&◌, ◌||◌, nat_le, ◌%◌, if◌then◌else◌, codes}
use Rattle.std.specs.Str.{bytes_eq}
use Rattle.std.proofs.lemmas.Bool.{eqb-true}
use Rattle.std.proofs.lemmas.Bool.Decides.{nat_tests}
use Rattle.std.proofs.lemmas.List.{length-take}
use Rattle.cs_base.specs.Characters.{is_digit}
use Rattle.cs_lang_token.specs.declared.token.Token.{Token}
use Rattle.cs_lang_token.specs.declared.kind.Kind.{Kind}
use Rattle.cs_lang_token.specs.declared.kind.Kind.TheVariants as kind
use Rattle.cs_lang_token.specs.declared.lexeme.Lexeme.{Lexeme}
use Rattle.cs_lang_token.specs.Kinds.{code, among, is}
use Rattle.cs_lang_token.specs.Grammar.{TokenMark, without_marks, ◌>>=◌}
use Rattle.cs_lang_token.specs.Tokens.{is_letter, is_name_character, is_hex, run_length, kind_of_value_word, kind_of_logic_word, kind_of_statement_word, kind_of_word, name_lexeme, number_from, number_lexeme, hex_value, hex_bytes, is_first, quoted_at, byte_text_at, operator_sign, one_sign, two_sign, signed_lexeme, sign_at, lexeme_at, blank_length, token_of, token_piece, piece_at, after_piece, tokens_from, tokens_of}
use Rattle.cs_base.specs.Options.{or_else}
use Rattle.cs_lang_token.proofs.Spans.{IsWord, AllBytes, and_second, run_most, all_run, starts_run}
use Rattle.cs_lang_token.proofs.Gives.{IsToken, Fine}

bool_cases : (b : Bool) → (b ≡ true) ⊎ (b ≡ false)
bool_cases true = inl refl
bool_cases false = inr refl

is_code : (n m : ℕ) → (if n == m then true else false) ≡ true → n ≡ m
is_code n m e = elim (bool_cases (n == m)) [
  | inl same ↦ eqb-true n m same
  | inr other ↦ (let f : (if n == m then true else false) ≡ false = ap (λ (b : Bool). if b then true else false) other in absurd cc)
]

kind_name : (k : Kind) → code k ≡ 0 → k ≡ kind.Name
kind_name kind.Name e = refl
kind_name k e = absurd (omega (arith, e))

abbrev numeric : Kind → Bool
numeric k = among (kind.Number ∷ kind.Bytes ∷ []) (code k)

abbrev valued : Kind → Bool
valued k = among (kind.Name ∷ kind.Number ∷ kind.Bytes ∷ []) (code k)

kept : {A : Type 0} (P : A → Bool) (b : Bool) (x y : A) → P x ≡ false → P y ≡ false → P (if b then x else y) ≡ false
kept P true x y p q = p
kept P false x y p q = q

-- a sign or a word that isn't one of these three
plain_token : (t : Token) → valued t.kind ≡ false → IsToken t
plain_token t other = record {
  named = λ e. (let c = is_code (code t.kind) 0 e in let v : valued t.kind ≡ true = ap (among (kind.Name ∷ kind.Number ∷ kind.Bytes ∷ [])) c in absurd cc);
  numbered = λ e. (let c = is_code (code t.kind) 1 e in let v : valued t.kind ≡ true = ap (among (kind.Name ∷ kind.Number ∷ kind.Bytes ∷ [])) c in absurd cc);
  quoted = λ e. (let c = is_code (code t.kind) 2 e in let v : valued t.kind ≡ true = ap (among (kind.Name ∷ kind.Number ∷ kind.Bytes ∷ [])) c in absurd cc);
}

-- a name, or a reserved word
word_token : (t : Token) → numeric t.kind ≡ false → (t.kind ≡ kind.Name → IsWord t.bytes kind.Name) → IsToken t
word_token t other word = record {
  named = λ e. word (kind_name t.kind (is_code (code t.kind) 0 e));
  numbered = λ e. (let c = is_code (code t.kind) 1 e in let v : numeric t.kind ≡ true = ap (among (kind.Number ∷ kind.Bytes ∷ [])) c in absurd cc);
  quoted = λ e. (let c = is_code (code t.kind) 2 e in let v : numeric t.kind ≡ true = ap (among (kind.Number ∷ kind.Bytes ∷ [])) c in absurd cc);
}

value_plain : (w : List ℕ) → numeric (kind_of_value_word w) ≡ false
value_plain w = kept numeric (bytes_eq w (codes "int")) kind.IntKind _ refl (kept numeric (bytes_eq w (codes "bool")) kind.BoolKind _ refl (kept numeric (bytes_eq w (codes "bytes")) kind.BytesKind _ refl (kept numeric (bytes_eq w (codes "len")) kind.Len _ refl (kept numeric (bytes_eq w (codes "sha256")) kind.Sha256 _ refl (kept numeric (bytes_eq w (codes "concat")) kind.Concat _ refl (kept numeric (bytes_eq w (codes "called")) kind.Called _ refl (kept numeric (bytes_eq w (codes "depint")) kind.DepInt _ refl refl)))))))

logic_plain : (w : List ℕ) → numeric (kind_of_logic_word w) ≡ false
logic_plain w = kept numeric (bytes_eq w (codes "and")) kind.And _ refl (kept numeric (bytes_eq w (codes "or")) kind.Or _ refl (kept numeric (bytes_eq w (codes "not")) kind.Not _ refl (kept numeric (bytes_eq w (codes "true")) kind.True _ refl (kept numeric (bytes_eq w (codes "false")) kind.False _ refl (kept numeric (bytes_eq w (codes "empty")) kind.Empty _ refl (value_plain w))))))

statement_plain : (w : List ℕ) → numeric (kind_of_statement_word w) ≡ false
statement_plain w = kept numeric (bytes_eq w (codes "let")) kind.Let _ refl (kept numeric (bytes_eq w (codes "set")) kind.Set _ refl (kept numeric (bytes_eq w (codes "if")) kind.If _ refl (kept numeric (bytes_eq w (codes "else")) kind.Else _ refl (kept numeric (bytes_eq w (codes "for")) kind.For _ refl (kept numeric (bytes_eq w (codes "in")) kind.In _ refl (kept numeric (bytes_eq w (codes "to")) kind.To _ refl (kept numeric (bytes_eq w (codes "make")) kind.Make _ refl (kept numeric (bytes_eq w (codes "call")) kind.Call _ refl (kept numeric (bytes_eq w (codes "answer")) kind.Answer _ refl (logic_plain w))))))))))

word_plain : (w : List ℕ) → numeric (kind_of_word w) ≡ false
word_plain w = kept numeric (bytes_eq w (codes "type")) kind.Type _ refl (kept numeric (bytes_eq w (codes "method")) kind.Method _ refl (kept numeric (bytes_eq w (codes "consumes")) kind.Consumes _ refl (kept numeric (bytes_eq w (codes "reads")) kind.Reads _ refl (kept numeric (bytes_eq w (codes "takes")) kind.Takes _ refl (kept numeric (bytes_eq w (codes "creates")) kind.Creates _ refl (kept numeric (bytes_eq w (codes "returns")) kind.Returns _ refl (kept numeric (bytes_eq w (codes "procedure")) kind.Procedure _ refl (kept numeric (bytes_eq w (codes "check")) kind.Check _ refl (statement_plain w)))))))))

abbrev Sound : ℕ → Option Lexeme → Type 0
Sound place None = Unit {0}
Sound place (Some x) = IsToken (token_of place x)

sound_or : (place : ℕ) (a b : Option Lexeme) → Sound place a → Sound place b → Sound place (or_else a b)
sound_or place None b p q = q
sound_or place (Some x) b p q = p

sound_if : (place : ℕ) (b : Bool) (x y : Option Lexeme) → (b ≡ true → Sound place x) → (b ≡ false → Sound place y) → Sound place (if b then x else y)
sound_if place true x y p q = p refl
sound_if place false x y p q = q refl

-- ---- signs

abbrev valued_option : Option Kind → Bool
valued_option None = false
valued_option (Some k) = valued k

sign_sound : (place n : ℕ) (o : Option Kind) → valued_option o ≡ false → Sound place (signed_lexeme n o)
sign_sound place n None other = tt
sign_sound place n (Some k) other = plain_token (record { kind = k; number = 0; bytes = []; place = place }) other

operator_plain : (c : ℕ) → valued_option (operator_sign c) ≡ false
operator_plain c = kept valued_option (c == 46) (Some kind.Dot) _ refl (kept valued_option (c == 42) (Some kind.Star) _ refl (kept valued_option (c == 61) (Some kind.Becomes) _ refl (kept valued_option (c == 60) (Some kind.Less) _ refl (kept valued_option (c == 62) (Some kind.Greater) _ refl (kept valued_option (c == 43) (Some kind.Plus) _ refl (kept valued_option (c == 45) (Some kind.Minus) _ refl (kept valued_option (c == 47) (Some kind.Slash) _ refl (kept valued_option (c == 37) (Some kind.Percent) _ refl refl))))))))

one_plain : (c : ℕ) → valued_option (one_sign c) ≡ false
one_plain c = kept valued_option (c == 40) (Some kind.Open) _ refl (kept valued_option (c == 41) (Some kind.Close) _ refl (kept valued_option (c == 123) (Some kind.OpenBlock) _ refl (kept valued_option (c == 125) (Some kind.CloseBlock) _ refl (kept valued_option (c == 91) (Some kind.OpenList) _ refl (kept valued_option (c == 93) (Some kind.CloseList) _ refl (kept valued_option (c == 44) (Some kind.Comma) _ refl (kept valued_option (c == 59) (Some kind.Semicolon) _ refl (kept valued_option (c == 58) (Some kind.Colon) _ refl (operator_plain c)))))))))

two_plain : (c : ℕ) → valued_option (two_sign c) ≡ false
two_plain c = kept valued_option (c == 61) (Some kind.Equal) _ refl (kept valued_option (c == 33) (Some kind.NotEqual) _ refl (kept valued_option (c == 60) (Some kind.LessOrEqual) _ refl (kept valued_option (c == 62) (Some kind.GreaterOrEqual) _ refl refl)))

signs_sound : (place c : ℕ) (rest : List ℕ) → Sound place (sign_at c rest)
signs_sound place c rest = sound_or place (if is_first 61 rest then signed_lexeme 2 (two_sign c) else None) (signed_lexeme 1 (one_sign c))
    (sound_if place (is_first 61 rest) (signed_lexeme 2 (two_sign c)) None (λ e. sign_sound place 2 (two_sign c) (two_plain c)) (λ e. tt)) (sign_sound place 1 (one_sign c) (one_plain c))

-- ---- numbers

le_of : (n m : ℕ) → nat_le n m ≡ true → n ≤ m
le_of n m e = grind (arith, nat_tests)

one_more : (c : ℕ) (cs : List ℕ) (v : ℕ) → v ≤ 9223372036854775807 → (b : Bool) → (is_digit c && nat_le (v * 10 + (c - 48)) 9223372036854775807) ≡ b → (v * 10 + (c - 48) ≤ 9223372036854775807 → (number_from (v * 10 + (c - 48)) cs).0 ≤ 9223372036854775807)
    → (let pair : ℕ × ℕ = (if b then (let r = number_from (v * 10 + (c - 48)) cs in (r.0, r.1 + 1)) else (v, 0)) in pair.0) ≤ 9223372036854775807
one_more c cs v le true e more = more (le_of (v * 10 + (c - 48)) 9223372036854775807 (and_second (is_digit c) (nat_le (v * 10 + (c - 48)) 9223372036854775807) e))
one_more c cs v le false e more = le

number_most : (cs : List ℕ) (v : ℕ) → v ≤ 9223372036854775807 → (number_from v cs).0 ≤ 9223372036854775807
number_most [] v le = le
number_most (c ∷ cs) v le = one_more c cs v le (is_digit c && nat_le (v * 10 + (c - 48)) 9223372036854775807) refl (λ small. number_most cs (v * 10 + (c - 48)) small)

number_token : (place n len : ℕ) → n ≤ 9223372036854775807 → Sound place (Some (record { kind = kind.Number; number = n; bytes = []; length = len }))
number_token place n len le = record {
  named = λ e. absurd cc;
  numbered = λ e. le;
  quoted = λ e. absurd cc;
}

digit_most : (c : ℕ) → is_digit c ≡ true → c ≤ 57
digit_most c e = grind (arith, nat_tests)

number_sound : (place c : ℕ) (rest : List ℕ) → is_digit c ≡ true → Sound place (Some (number_lexeme c rest))
number_sound place c rest digit = go (c == 48)
  where
    go : (b : Bool) → Sound place (Some (if b then record { kind = kind.Number; number = 0; bytes = []; length = 1 } else (let r = number_from (c - 48) rest in record { kind = kind.Number; number = r.0; bytes = []; length = r.1 + 1 })))
    go true = number_token place 0 1 (omega arith)
    go false = number_token place (number_from (c - 48) rest).0 ((number_from (c - 48) rest).1 + 1) (number_most rest (c - 48) (let most = digit_most c digit in omega arith))

-- ---- byte texts

hex_most : (c : ℕ) → hex_value c ≤ 15
hex_most c = grind (arith, nat_tests)

all_bytes : (ds : List ℕ) → AllBytes (hex_bytes ds)
all_bytes [] = tt
all_bytes (h ∷ []) = tt
all_bytes (h ∷ l ∷ ds) = ((let a = hex_most h in let b = hex_most l in omega arith), all_bytes ds)

half_long : (ds : List ℕ) → 2 * length (hex_bytes ds) ≤ length ds
half_long [] = omega arith
half_long (h ∷ []) = omega arith
half_long (h ∷ l ∷ ds) = (let r = half_long ds in omega arith)

quoted_token : (place n : ℕ) (ds : List ℕ) → length ds ≤ 512 → Sound place (Some (record { kind = kind.Bytes; number = 0; bytes = hex_bytes ds; length = n }))
quoted_token place n ds le = record {
  named = λ e. absurd cc;
  numbered = λ e. absurd cc;
  quoted = λ e. (all_bytes ds, (let h = half_long ds in omega arith));
}

quoted_sound : (place : ℕ) (rest : List ℕ) → Sound place (quoted_at rest)
quoted_sound place rest =
    let n = run_length is_hex (take 512 rest) in
    let most = run_most is_hex (take 512 rest) in
    let long = length-take 512 rest in
    let front = length-take (run_length is_hex (take 512 rest)) rest in
    sound_if place (run_length is_hex (take 512 rest) % 2 == 0 && is_first 34 (drop (run_length is_hex (take 512 rest)) rest)) (Some (record { kind = kind.Bytes; number = 0; bytes = hex_bytes (take (run_length is_hex (take 512 rest)) rest); length = run_length is_hex (take 512 rest) + 3 })) None
    (λ e. quoted_token place (run_length is_hex (take 512 rest) + 3) (take (run_length is_hex (take 512 rest)) rest) (omega arith)) (λ e. tt)

byte_sound : (place : ℕ) (bytes : List ℕ) → Sound place (byte_text_at bytes)
byte_sound place [] = tt
byte_sound place (c ∷ []) = tt
byte_sound place (c ∷ d ∷ rest) = sound_if place (c == 120 && d == 34) (quoted_at rest) None (λ e. quoted_sound place rest) (λ e. tt)

-- ---- words

letter_named : (c : ℕ) → is_letter c ≡ true → is_name_character c ≡ true
letter_named c e = ap (λ (b : Bool). b || is_digit c) e

word_sound : (place c : ℕ) (cs : List ℕ) → is_letter c ≡ true → Sound place (Some (name_lexeme (c ∷ cs)))
word_sound place c cs letter =
    let w = take (run_length is_name_character (take 32 (c ∷ cs))) (c ∷ cs) in
    let most = run_most is_name_character (take 32 (c ∷ cs)) in
    let long = length-take 32 (c ∷ cs) in
    let front = length-take (run_length is_name_character (take 32 (c ∷ cs))) (c ∷ cs) in
    word_token (token_of place (name_lexeme (c ∷ cs))) (word_plain (take (run_length is_name_character (take 32 (c ∷ cs))) (c ∷ cs))) (λ e. record {
      letter = starts_run is_name_character is_letter 31 c cs (letter_named c letter) letter;
      all = all_run is_name_character 32 (c ∷ cs);
      short = omega arith;
      kind = e;
    })

lexeme_sound : (place : ℕ) (bytes : List ℕ) → Sound place (lexeme_at bytes)
lexeme_sound place [] = tt
lexeme_sound place (c ∷ cs) =
    sound_if place (is_letter c) (or_else (byte_text_at (c ∷ cs)) (Some (name_lexeme (c ∷ cs)))) (if is_digit c then Some (number_lexeme c cs) else sign_at c cs)
    (λ e. sound_or place (byte_text_at (c ∷ cs)) (Some (name_lexeme (c ∷ cs))) (byte_sound place (c ∷ cs)) (word_sound place c cs e))
    (λ e. sound_if place (is_digit c) (Some (number_lexeme c cs)) (sign_at c cs) (λ d. number_sound place c cs d) (λ d. signs_sound place c cs))

-- ---- all tokens

abbrev pub AllTokens : List Token → Type 0
AllTokens [] = Unit {0}
AllTokens (t ∷ ts) = IsToken t × AllTokens ts

all_append : (ts us : List Token) → AllTokens ts → AllTokens us → AllTokens (ts ++ us)
all_append [] us p q = q
all_append (t ∷ ts) us p q = (p.0, all_append ts us p.1 q)

abbrev PieceSound : Option (List Token × ℕ) → Type 0
PieceSound None = Unit {0}
PieceSound (Some p) = AllTokens p.0

token_sound : (place : ℕ) (o : Option Lexeme) → Sound place o → PieceSound (token_piece place o)
token_sound place None s = tt
token_sound place (Some x) s = (s, tt)

piece_sound : (place : ℕ) (bytes : List ℕ) → PieceSound (piece_at place bytes)
piece_sound place bytes = go (0 == blank_length bytes)
  where
    go : (b : Bool) → PieceSound (if b then token_piece place (lexeme_at bytes) else Some ([], blank_length bytes))
    go true = token_sound place (lexeme_at bytes) (lexeme_sound place bytes)
    go false = tt

abbrev TokensSound : Result (List Token) ℕ → Type 0
TokensSound (Ok ts) = AllTokens ts
TokensSound (Err e) = Unit {0}

behind_sound : (before : List Token) (a : Result (List Token) ℕ) → AllTokens before → TokensSound a → TokensSound (a >>= λ ts. Ok (before ++ ts))
behind_sound before (Ok ts) p q = all_append before ts p q
behind_sound before (Err e) p q = tt

after_sound : (place : ℕ) (bytes : List ℕ) (o : Option (List Token × ℕ)) (others : ℕ → List ℕ → Result (List Token) ℕ) → PieceSound o → ((at : ℕ) (rest : List ℕ) → TokensSound (others at rest)) → TokensSound (after_piece place bytes o others)
after_sound place bytes None others p q = tt
after_sound place bytes (Some x) others p q = behind_sound x.0 (others (place + x.1) (drop x.1 bytes)) p (q (place + x.1) (drop x.1 bytes))

tokens_sound : (n place : ℕ) (bytes : List ℕ) → TokensSound (tokens_from n place bytes)
tokens_sound zero place bytes = tt
tokens_sound (suc n) place [] = tt
tokens_sound (suc n) place (c ∷ cs) = after_sound place (c ∷ cs) (piece_at place (c ∷ cs)) (tokens_from n) (piece_sound place (c ∷ cs)) (λ at rest. tokens_sound n at rest)

fine_of : (ms : List TokenMark) → AllTokens (without_marks ms) → Fine ms
fine_of [] h = tt
fine_of (m ∷ ms) h = (h.0, fine_of ms h.1)

pub source_fine : (text : List ℕ) (ts : List Token) (ms : List TokenMark) → tokens_of text ≡ Ok ts → without_marks ms ≡ ts → Fine ms
source_fine text ts ms read is = fine_of ms (subst AllTokens (sym is) (subst TokensSound read (tokens_sound (length text) 0 text)))
