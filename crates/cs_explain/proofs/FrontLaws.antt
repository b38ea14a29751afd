-- Reading from the left comes to the end of exactly the fronts of contract texts.
use Rattle.std.proofs.Common.{◌≡◌, ℕ, zero, suc, ◌+◌, ◌<◌, ◌≤◌, Bool, true, false, List, [], ◌∷◌, ◌++◌, length, drop, Result, Ok, Err, refl, sym, ap, subst, ◌∙◌, inl, inr, append_assoc, arith}
use Rattle.std.specs.Prelude.{◌==◌, nat_le, Option, Some, None, if◌then◌else◌}
use Rattle.std.proofs.lemmas.Bool.{cases_Bool, le-leb, leb-true}
use Rattle.std.proofs.lemmas.Bool.Decides.{nat_tests}
use Rattle.std.proofs.lemmas.List.{append-nil, length-drop}
use Rattle.cs_lang_token.specs.declared.limits.TheConstants.{MOST_TEXT}
use Rattle.cs_lang_token.specs.declared.token.Token.{Token}
use Rattle.cs_lang_token.specs.declared.kind.Kind.TheVariants as kind
use Rattle.cs_lang_token.specs.Grammar.{TokenMark, without_marks, Within, IsReader, ◌>>=◌}
use Rattle.cs_lang_token.specs.Kinds.{is}
use Rattle.cs_lang_token.specs.Answers.{place_of}
use Rattle.cs_lang_token.specs.Texts.{IsText, CanBegin, IsNoText, all_at}
use Rattle.cs_lang_token.specs.Tokens.{tokens_of, tokens_from, piece_at, after_piece, token_piece, blank_length, lexeme_at}
use Rattle.cs_lang_token.specs.declared.lexeme.Lexeme.{Lexeme}
use Rattle.cs_lang_token.proofs.TextLaws.{read_text, read_refused}
use Rattle.cs_lang.specs.declared.tree.ContractTree.{ContractTree}
use Rattle.cs_lang.specs.Rules.{contract}
use Rattle.cs_lang.specs.Readers.{contract_level}
use Rattle.cs_lang.specs.Texts.{IsContract, IsSyntax}
use Rattle.cs_lang.proofs.TextRules.{contract_law}
use Rattle.cs_explain.specs.Fronts.{IsFront, came_to_end, tokens_go_on, goes_on}

law : (n : ℕ) → IsReader (70 ≤ n) (contract n) (is (kind.Method ∷ [])) contract_level
law n = (contract_law n).reader

-- ---- fronts of fronts

within_front : (a b : List TokenMark) → Within (a ++ b) → Within a
within_front [] b w = tt
within_front (m ∷ a) b w = (w.0, within_front a b w.1)

-- the marks of the first of the tokens
record Cut (a : List Token) (marks : List TokenMark) : Type 0 where
  front : List TokenMark
  back : List TokenMark
  whole : marks ≡ front ++ back
  tokens : without_marks front ≡ a

cut : (a b : List Token) (marks : List TokenMark) → without_marks marks ≡ a ++ b → Cut a marks
cut [] b marks same = record { front = []; back = marks; whole = refl; tokens = refl }
cut (t ∷ a) b [] same = absurd cc
cut (t ∷ a) b (m ∷ marks) same =
    let first : m.0 ≡ t = cc in
    let rest : without_marks marks ≡ a ++ b = cc in
    let k = cut a b marks rest in
    record {
      front = m ∷ k.front;
      back = k.back;
      whole = ap (λ (l : List TokenMark). m ∷ l) k.whole;
      tokens = cc (first, k.tokens);
    }

shorter : (a b : List Token) → CanBegin contract (a ++ b) → CanBegin contract a
shorter a b c =
    let k = cut a b c.marks c.tokens in
    record {
      depth = c.depth;
      thing = c.thing;
      marks = k.front;
      more = k.back ++ c.more;
      spells = subst (λ (l : List TokenMark). contract c.depth c.thing l) (ap (λ (l : List TokenMark). l ++ c.more) k.whole ∙ append_assoc k.front k.back c.more) c.spells;
      tokens = k.tokens;
      within = within_front k.front k.back (subst Within k.whole c.within);
    }

-- ---- what reading says of the tokens

text_begins : (c : ContractTree) (tokens : List Token) → IsText contract c tokens → CanBegin contract tokens
text_begins c tokens is = record {
  depth = is.depth;
  thing = c;
  marks = is.marks;
  more = [];
  spells = subst (λ (l : List TokenMark). contract is.depth c l) (sym (append-nil is.marks)) is.spells;
  tokens = is.tokens;
  within = is.within;
}

ended_begins : (tokens : List Token) → IsNoText contract tokens [] → CanBegin contract tokens
ended_begins tokens stop = subst (CanBegin contract) (sym (stop.parts ∙ append-nil stop.before)) stop.can

stopped_not : (tokens : List Token) (t : Token) (us : List Token) → IsNoText contract tokens (t ∷ us) → CanBegin contract tokens → ⊥
stopped_not tokens t us stop can =
    stop.cannot t us refl (shorter (stop.before ++ t ∷ []) us (subst (CanBegin contract) (stop.parts ∙ sym (append_assoc stop.before (t ∷ []) us)) can))

refused : (tokens bad : List Token) → all_at contract_level tokens ≡ Err bad → IsNoText contract tokens bad
refused tokens bad same = read_refused contract 70 (is (kind.Method ∷ [])) contract_level law tokens bad same

begins_by : (tokens : List Token) (answer : Result ContractTree (List Token)) → all_at contract_level tokens ≡ answer → came_to_end answer ≡ true → CanBegin contract tokens
begins_by tokens (Ok c) same came = text_begins c tokens (read_text contract 70 (is (kind.Method ∷ [])) contract_level law c tokens same)
begins_by tokens (Err []) same came = ended_begins tokens (refused tokens [] same)
begins_by tokens (Err (t ∷ ts)) same came = absurd cc

came_by : (tokens : List Token) (answer : Result ContractTree (List Token)) → all_at contract_level tokens ≡ answer → CanBegin contract tokens → came_to_end answer ≡ true
came_by tokens (Ok c) same can = refl
came_by tokens (Err []) same can = refl
came_by tokens (Err (t ∷ ts)) same can = absurd (stopped_not tokens t ts (refused tokens (t ∷ ts) same) can)

-- ---- the law

front_of : (text : List ℕ) (lexed : Result (List Token) ℕ) → tokens_of text ≡ lexed → length text ≤ MOST_TEXT → tokens_go_on lexed ≡ true → IsFront text
front_of text (Ok tokens) same short goes = record { short = short; tokens = tokens; read = same; begins = begins_by tokens (all_at contract_level tokens) refl goes }
front_of text (Err place) same short goes = absurd cc

pub goes_front : (text : List ℕ) → goes_on text ≡ true → IsFront text
unfolding goes_on
goes_front text goes =
    elim (cases_Bool (nat_le (length text) MOST_TEXT)) [
      | inl short ↦ let inside : tokens_go_on (tokens_of text) ≡ true = rw short at goes in front_of text (tokens_of text) refl (leb-true (length text) MOST_TEXT short) inside
      | inr long ↦ let never : false ≡ true = rw long at goes in absurd cc
    ]

pub front_goes : (text : List ℕ) → IsFront text → goes_on text ≡ true
unfolding goes_on
front_goes text front = rw (le-leb (length text) MOST_TEXT front.short, front.read) (came_by front.tokens (all_at contract_level front.tokens) refl front.begins)

-- ---- where each token of a text stands

abbrev AllBelow : ℕ → List Token → Type 0
AllBelow end [] = Unit {0}
AllBelow end (t ∷ ts) = (t.place < end) × AllBelow end ts

below_append : (end : ℕ) (a b : List Token) → AllBelow end a → AllBelow end b → AllBelow end (a ++ b)
below_append end [] b p q = q
below_append end (t ∷ a) b p q = (p.0, below_append end a b p.1 q)

below_back : (end : ℕ) (a : List Token) (t : Token) (us : List Token) → AllBelow end (a ++ t ∷ us) → t.place < end
below_back end [] t us p = p.0
below_back end (x ∷ a) t us p = below_back end a t us p.1

abbrev PieceBelow : ℕ → Option (List Token × ℕ) → Type 0
PieceBelow end None = Unit {0}
PieceBelow end (Some p) = AllBelow end p.0

token_below : (end place : ℕ) (o : Option Lexeme) → place < end → PieceBelow end (token_piece place o)
token_below end place None lt = tt
token_below end place (Some x) lt = (lt, tt)

chosen_below : (end place : ℕ) (bytes : List ℕ) (b : Bool) → place < end → PieceBelow end (if b then token_piece place (lexeme_at bytes) else Some ([], blank_length bytes))
chosen_below end place bytes true lt = token_below end place (lexeme_at bytes) lt
chosen_below end place bytes false lt = tt

piece_below : (end place : ℕ) (bytes : List ℕ) → place < end → PieceBelow end (piece_at place bytes)
piece_below end place bytes lt = chosen_below end place bytes (0 == blank_length bytes) lt

-- where something is left, the end is as far behind the place as there are bytes
abbrev Ends : ℕ → ℕ → List ℕ → Type 0
Ends end place bytes = 0 < length bytes → place + length bytes ≡ end

ends_on : (end place n : ℕ) (bytes : List ℕ) → Ends end place bytes → Ends end (place + n) (drop n bytes)
ends_on end place n bytes ends left =
    let l = length-drop n bytes in
    let e : place + length bytes ≡ end = ends (omega (arith, l, left)) in
    omega (arith, l, left, e)

abbrev IsBelow : ℕ → ℕ → ℕ → List ℕ → Type 0
IsBelow end n place bytes = (tokens : List Token) → tokens_from n place bytes ≡ Ok tokens → AllBelow end tokens

rest_below : (end : ℕ) (more tokens : List Token) (others : Result (List Token) ℕ) → AllBelow end more → ((xs : List Token) → others ≡ Ok xs → AllBelow end xs) → (others >>= λ xs. Ok (more ++ xs)) ≡ Ok tokens → AllBelow end tokens
rest_below end more tokens (Ok xs) below again same =
    let parts : more ++ xs ≡ tokens = cc in
    subst (AllBelow end) parts (below_append end more xs below (again xs refl))
rest_below end more tokens (Err e) below again same = absurd cc

after_below : (end n place : ℕ) (bytes : List ℕ) (piece : Option (List Token × ℕ)) (tokens : List Token) → PieceBelow end piece → ((len : ℕ) → IsBelow end n (place + len) (drop len bytes)) → after_piece place bytes piece (tokens_from n) ≡ Ok tokens → AllBelow end tokens
after_below end n place bytes None tokens below again same = absurd cc
after_below end n place bytes (Some p) tokens below again same = rest_below end p.0 tokens (tokens_from n (place + p.1) (drop p.1 bytes)) below (again p.1) same

lexed_below : (end n place : ℕ) (bytes : List ℕ) → Ends end place bytes → IsBelow end n place bytes
lexed_below end zero place bytes ends [] same = tt
lexed_below end zero place bytes ends (t ∷ ts) same = absurd cc
lexed_below end (suc n) place [] ends [] same = tt
lexed_below end (suc n) place [] ends (t ∷ ts) same = absurd cc
lexed_below end (suc n) place (c ∷ cs) ends tokens same =
    let e = ends (omega arith) in
    after_below end n place (c ∷ cs) (piece_at place (c ∷ cs)) tokens (piece_below end place (c ∷ cs) (omega (arith, e)))
    (λ len. lexed_below end n (place + len) (drop len (c ∷ cs)) (ends_on end place len (c ∷ cs) ends)) same

all_below : (text : List ℕ) (tokens : List Token) → tokens_of text ≡ Ok tokens → AllBelow (length text) tokens
all_below text tokens same = lexed_below (length text) (length text) 0 text (λ some. omega arith) tokens same

-- ---- what the program says

same_place : (a b : ℕ) → a ≡ b → (a == b) ≡ true
same_place a b e = grind (arith, nat_tests)

other_place : (a b : ℕ) → a < b → (a == b) ≡ false
other_place a b e = grind (arith, nat_tests)

not_true : (b : Bool) → (b ≡ true → ⊥) → b ≡ false
not_true true stop = absurd (stop refl)
not_true false stop = refl

at_place : (text : List ℕ) (place : ℕ) (tokens bad : List Token) → length text ≤ MOST_TEXT → tokens_of text ≡ Ok tokens → IsNoText contract tokens bad → place ≡ place_of (length text) bad → (place == length text) ≡ goes_on text
at_place text place tokens [] short read stop at =
    same_place place (length text) at ∙ sym (front_goes text (record { short = short; tokens = tokens; read = read; begins = ended_begins tokens stop }))
at_place text place tokens (t ∷ us) short read stop at =
    let below = below_back (length text) stop.before t us (subst (AllBelow (length text)) stop.parts (all_below text tokens read)) in
    let never : goes_on text ≡ true → ⊥ = λ goes. (let f = goes_front text goes in let one : f.tokens ≡ tokens = cc (f.read, read) in stopped_not tokens t us stop (subst (CanBegin contract) one f.begins)) in
    let less : place < length text = omega (arith, at, below) in
    other_place place (length text) less ∙ sym (not_true (goes_on text) never)

pub syntax_goes : (text : List ℕ) (place : ℕ) → IsSyntax text place → (place == length text) ≡ goes_on text
syntax_goes text place s = at_place text place s.tokens s.bad s.short s.read s.refused s.at

pub long_stops : (text : List ℕ) → MOST_TEXT < length text → goes_on text ≡ false
long_stops text long = not_true (goes_on text) (λ goes. (let f = goes_front text goes in let s = f.short in absurd (omega (arith, s, long))))

pub lex_stops : (text : List ℕ) (place : ℕ) → tokens_of text ≡ Err place → goes_on text ≡ false
lex_stops text place bad = not_true (goes_on text) (λ goes. (let f = goes_front text goes in absurd (cc (f.read, bad))))

pub read_goes : (text : List ℕ) (c : ContractTree) → IsContract text c → goes_on text ≡ true
read_goes text c is = front_goes text (record { short = is.short; tokens = is.tokens; read = is.read; begins = text_begins c is.tokens is.spells })
