-- The tokens of a text, one after the other.
use Rattle.std.proofs.Common.{◌≡◌, ℕ, zero, suc, ◌+◌, ◌-◌, ◌<◌, ◌≤◌, List, [], ◌∷◌, ◌++◌, length, drop, refl, sym, ap, ◌∙◌, subst, append_assoc, arith, Bool, true, false}
use Rattle.std.proofs.lemmas.Bool.Decides.{nat_tests}
use Rattle.std.specs.Prelude.{Option, None, Some, Result, Ok, Err, ◌==◌, if◌then◌else◌}
use Rattle.std.proofs.lemmas.List.{append-nil, length-drop}
use Rattle.cs_lang_token.specs.declared.token.Token.{Token}
use Rattle.cs_lang_token.specs.Grammar.{◌>>=◌}
use Rattle.cs_lang_token.specs.Lexing.{IfBad}
use Rattle.cs_lang_token.specs.declared.tokens.LexError.{LexError}
use Rattle.cs_lang_token.specs.declared.tokens.LexError.TheVariants as error
use Rattle.cs_lang_token.specs.Tokens.{piece_at, token_piece, lexeme_at, blank_length, after_piece, tokens_from}

abbrev Tokens : Type 0
Tokens = Result (List Token) ℕ

abbrev behind : List Token → Tokens → Tokens
behind before a = a >>= λ ts. Ok (before ++ ts)

behind_behind : (before more : List Token) (a : Tokens) → behind before (behind more a) ≡ behind (before ++ more) a
behind_behind before more (Err e) = refl
behind_behind before more (Ok ts) = ap (λ (l : List Token). all l) (sym (append_assoc before more ts))
  where
    all : List Token → Tokens
    all l = Ok l

pub lexed_step : (total : Tokens) (n place : ℕ) (bytes : List ℕ) (before more : List Token) (len : ℕ) → 0 < length bytes → length bytes ≤ n → total ≡ (tokens_from n place bytes >>= λ ts. Ok (before ++ ts)) → piece_at place bytes ≡ Some (more, len) → 0 < len → (m : ℕ) × (length (drop len bytes) ≤ m) × (total ≡ (tokens_from m (place + len) (drop len bytes) >>= λ ts. Ok ((before ++ more) ++ ts)))
lexed_step total n place [] before more len some le h p lt = absurd (omega (arith, some))
lexed_step total zero place (c ∷ cs) before more len some le h p lt = absurd (omega (arith, le))
lexed_step total (suc n) place (c ∷ cs) before more len some le h p lt = (
  n,
  (let d = length-drop len (c ∷ cs) in omega (arith, d, le, lt)),
  h ∙ ap (λ (o : Option (List Token × ℕ)). behind before (after_piece place (c ∷ cs) o (tokens_from n))) p ∙ behind_behind before more (tokens_from n (place + len) (drop len (c ∷ cs))),
)

pub lexed_bad : (total : Tokens) (n place : ℕ) (bytes : List ℕ) (before : List Token) → 0 < length bytes → length bytes ≤ n → total ≡ (tokens_from n place bytes >>= λ ts. Ok (before ++ ts)) → piece_at place bytes ≡ None → total ≡ Err place
lexed_bad total n place [] before some le h p = absurd (omega (arith, some))
lexed_bad total zero place (c ∷ cs) before some le h p = absurd (omega (arith, le))
lexed_bad total (suc n) place (c ∷ cs) before some le h p = h ∙ ap (λ (o : Option (List Token × ℕ)). behind before (after_piece place (c ∷ cs) o (tokens_from n))) p

done : List Token → Tokens
done l = Ok l

pub lexed_done : (total : Tokens) (n place : ℕ) (bytes : List ℕ) (before : List Token) → length bytes ≤ 0 → total ≡ (tokens_from n place bytes >>= λ ts. Ok (before ++ ts)) → total ≡ Ok before
unfolding done
lexed_done total zero place [] before le h = h ∙ ap done (append-nil before)
lexed_done total (suc n) place [] before le h = h ∙ ap done (append-nil before)
lexed_done total n place (c ∷ cs) before le h = absurd (omega (arith, le))

pub lexed_first : (total : Tokens) → total ≡ (total >>= λ ts. Ok ([] ++ ts))
lexed_first (Ok ts) = refl
lexed_first (Err e) = refl

other_than_zero : (n : ℕ) → 0 < n → (0 == n) ≡ false
other_than_zero n lt = grind (arith, nat_tests, lt)

pub piece_blank : (place : ℕ) (bytes : List ℕ) (n : ℕ) → n ≡ blank_length bytes → 0 < n → piece_at place bytes ≡ Some ([], n)
piece_blank place bytes n is lt =
    let h : (0 == blank_length bytes) ≡ false = ap (λ (k : ℕ). 0 == k) (sym is) ∙ other_than_zero n lt in
    ap (λ (b : Bool). if b then token_piece place (lexeme_at bytes) else Some ([], blank_length bytes)) h ∙ ap blank (sym is)
  where
    blank : ℕ → Option (List Token × ℕ)
    blank k = Some ([], k)

pub refused_here : (total : Tokens) (n place : ℕ) (bytes : List ℕ) (before : List Token) (e : LexError) → 0 < length bytes → length bytes ≤ n → total ≡ (tokens_from n place bytes >>= λ ts. Ok (before ++ ts)) → IfBad e (λ at. (at ≡ place) × (piece_at place bytes ≡ None)) → IfBad e (λ at. total ≡ Err at)
refused_here total n place bytes before error.Memory some le h p = tt
refused_here total n place bytes before (error.Bad at) some le h p = lexed_bad total n place bytes before some le h p.1 ∙ ap bad (sym p.0)
  where
    bad : ℕ → Tokens
    bad k = Err k

-- one turn of the loop
pub lexed_turn : (total : Tokens) (n place len all : ℕ) (bytes back : List ℕ) (before after more : List Token) → 0 < length bytes → length bytes ≤ n → total ≡ (tokens_from n place bytes >>= λ ts. Ok (before ++ ts)) → piece_at place bytes ≡ Some (more, len) → after ≡ before ++ more → (0 < len) × (len ≤ length bytes) → back ≡ drop len bytes → place + length bytes ≡ all → (place + len + length back ≡ all) × ((m : ℕ) × (length back ≤ m) × (total ≡ (tokens_from m (place + len) back >>= λ ts. Ok (after ++ ts))))
lexed_turn total n place len all bytes back before after more some le h p same bound is sum =
    let k = lexed_step total n place bytes before more len some le h p bound.0 in
    let d : length back ≡ length bytes - len = ap length is ∙ length-drop len bytes in (
      omega (arith, d, sum, bound.1),
      (
        k.0,
        (let l : length back ≡ length (drop len bytes) = ap length is in omega (arith, l, k.1)),
        k.2 ∙ ap (λ (b : List ℕ). tokens_from k.0 (place + len) b >>= λ ts. Ok ((before ++ more) ++ ts)) (sym is) ∙ ap (λ (l : List Token). tokens_from k.0 (place + len) back >>= λ ts. Ok (l ++ ts)) (sym same),
      ),
    )
