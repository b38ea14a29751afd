-- Texts of which the tokens are known, whatever follows.
use Rattle.std.proofs.Common.{◌≡◌, ℕ, zero, suc, ◌+◌, ◌-◌, ◌<◌, ◌≤◌, List, [], ◌∷◌, ◌++◌, length, drop, refl, sym, ap, ◌∙◌, append_assoc, arith}
use Rattle.std.specs.Prelude.{Option, Some, Result, Ok, Err, ◌==◌, if◌then◌else◌}
use Rattle.std.proofs.lemmas.List.{append-nil, length-append}
use Rattle.std.proofs.Math.Seq.{drop-append_seam}
use Rattle.cs_lang_token.specs.declared.token.Token.{Token}
use Rattle.cs_lang_token.specs.declared.lexeme.Lexeme.{Lexeme}
use Rattle.cs_lang_token.specs.Grammar.{◌>>=◌}
use Rattle.cs_lang_token.specs.Tokens.{piece_at, token_piece, token_of, lexeme_at, blank_length, after_piece, tokens_from, tokens_of}

abbrev pub Tokens : Type 0
Tokens = Result (List Token) ℕ

pub behind : List Token → Tokens → Tokens
behind before (Ok ts) = Ok (before ++ ts)
behind before (Err e) = Err e

-- the text's tokens at this place are these, whatever follows
pub record Puts (place : ℕ) (text : List ℕ) (ts : List Token) : Type 0 where
  pub pieces : ℕ
  pub few : pieces ≤ length text
  pub reads : (n : ℕ) (rest : List ℕ) → tokens_from (pieces + n) place (text ++ rest) ≡ behind ts (tokens_from n (place + length text) rest)

behind_is : (before : List Token) (a : Tokens) → (a >>= λ ts. Ok (before ++ ts)) ≡ behind before a
unfolding behind
behind_is before (Ok ts) = refl
behind_is before (Err e) = refl

behind_behind : (before more : List Token) (a : Tokens) → behind before (behind more a) ≡ behind (before ++ more) a
unfolding behind
behind_behind before more (Err e) = refl
behind_behind before more (Ok ts) = ap (λ (l : List Token). all l) (sym (append_assoc before more ts))
  where
    all : List Token → Tokens
    all l = Ok l

behind_none : (a : Tokens) → behind [] a ≡ a
unfolding behind
behind_none (Ok ts) = refl
behind_none (Err e) = refl

step : (n place : ℕ) (bytes : List ℕ) (more : List Token) (len : ℕ) → 0 < length bytes → piece_at place bytes ≡ Some (more, len) → tokens_from (suc n) place bytes ≡ behind more (tokens_from n (place + len) (drop len bytes))
step n place [] more len some p = absurd (omega (arith, some))
step n place (c ∷ cs) more len some p = ap (λ (o : Option (List Token × ℕ)). after_piece place (c ∷ cs) o (tokens_from n)) p ∙ behind_is more (tokens_from n (place + len) (drop len (c ∷ cs)))

pub puts_none : (place : ℕ) → Puts place [] []
puts_none place = record {
  pieces = 0;
  few = omega arith;
  reads = λ n rest. ap (λ (k : ℕ). tokens_from k place rest) (zero_more n) ∙ ap (λ (k : ℕ). tokens_from n k rest) (none_more place) ∙ sym (behind_none (tokens_from n (place + 0) rest));
} where
  zero_more : (n : ℕ) → 0 + n ≡ n
  zero_more n = omega arith

  none_more : (n : ℕ) → n ≡ n + 0
  none_more n = omega arith

pub puts_append : (place : ℕ) (s t : List ℕ) (ts us : List Token) → Puts place s ts → Puts (place + length s) t us → Puts place (s ++ t) (ts ++ us)
puts_append place s t ts us a b =
    let l : length (s ++ t) ≡ length s + length t = length-append s t in
    record {
      pieces = a.pieces + b.pieces;
      few = (let p = a.few in let q = b.few in omega arith);
      reads = λ n rest.
          let more : (a.pieces + b.pieces) + n ≡ a.pieces + (b.pieces + n) = omega arith in
          let after : (place + length s) + length t ≡ place + length (s ++ t) = omega arith in
          ap (λ (k : ℕ). tokens_from k place ((s ++ t) ++ rest)) more
          ∙ ap (tokens_from (a.pieces + (b.pieces + n)) place) (append_assoc s t rest)
          ∙ a.reads (b.pieces + n) (t ++ rest)
          ∙ ap (behind ts) (b.reads n rest)
          ∙ behind_behind ts us (tokens_from n ((place + length s) + length t) rest)
          ∙ ap (λ (k : ℕ). behind (ts ++ us) (tokens_from n k rest)) after;
    }

-- one token, and what stands behind it
pub puts_one : (place : ℕ) (token : List ℕ) (blank : ℕ) (t : Token) → 0 < length token → ((rest : List ℕ) → piece_at place (token ++ blank ∷ rest) ≡ Some (t ∷ [], length token))
    → ((at : ℕ) (rest : List ℕ) → piece_at at (blank ∷ rest) ≡ Some ([], 1)) → Puts place (token ++ blank ∷ []) (t ∷ [])
puts_one place token blank t some piece space =
    let l : length (token ++ blank ∷ []) ≡ length token + 1 = length-append token (blank ∷ []) in
    record {
      pieces = 2;
      few = omega arith;
      reads = λ n rest.
          let two : 2 + n ≡ suc (suc n) = omega arith in
          let full : 0 < length (token ++ blank ∷ rest) = (let k = length-append token (blank ∷ rest) in omega arith) in
          let single : 0 < length (blank ∷ rest) = omega arith in
          let after : (place + length token) + 1 ≡ place + length (token ++ blank ∷ []) = omega arith in
          ap (λ (k : ℕ). tokens_from k place ((token ++ blank ∷ []) ++ rest)) two
          ∙ ap (tokens_from (suc (suc n)) place) (append_assoc token (blank ∷ []) rest)
          ∙ step (suc n) place (token ++ blank ∷ rest) (t ∷ []) (length token) full (piece rest)
          ∙ ap (λ (b : List ℕ). behind (t ∷ []) (tokens_from (suc n) (place + length token) b)) (drop-append_seam token (blank ∷ rest))
          ∙ ap (behind (t ∷ [])) (step n (place + length token) (blank ∷ rest) [] 1 single (space (place + length token) rest) ∙ behind_none (tokens_from n ((place + length token) + 1) rest))
          ∙ ap (λ (k : ℕ). behind (t ∷ []) (tokens_from n k rest)) after;
    }

-- a token of which the characters are known
pub piece_token : (place : ℕ) (bytes : List ℕ) (x : Lexeme) → blank_length bytes ≡ 0 → lexeme_at bytes ≡ Some x → piece_at place bytes ≡ Some (token_of place x ∷ [], x.length)
piece_token place bytes x plain lexeme =
    ap (λ (k : ℕ). if 0 == k then token_piece place (lexeme_at bytes) else Some ([], k)) plain ∙ ap (token_piece place) lexeme

read : List Token → Tokens
read l = Ok l

ends : (n place : ℕ) → tokens_from n place [] ≡ Ok []
ends zero place = refl
ends (suc n) place = refl

-- the tokens of a whole text
pub all_tokens : (text : List ℕ) (ts : List Token) → Puts 0 text ts → tokens_of text ≡ Ok ts
unfolding behind read
all_tokens text ts p =
    let few : p.pieces ≤ length text = p.few in
    let fuel : length text ≡ p.pieces + (length text - p.pieces) = omega arith in
    ap (λ (k : ℕ). tokens_from k 0 text) fuel
    ∙ ap (tokens_from (p.pieces + (length text - p.pieces)) 0) (sym (append-nil text))
    ∙ p.reads (length text - p.pieces) []
    ∙ ap (behind ts) (ends (length text - p.pieces) (0 + length text))
    ∙ ap read (append-nil ts)
