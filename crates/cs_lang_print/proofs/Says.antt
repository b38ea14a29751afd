-- Texts that spell things by the rules of a grammar, at each place, up to places.
use Rattle.std.proofs.Common.{◌≡◌, ℕ, suc, ◌+◌, ◌<◌, ◌≤◌, Bool, true, false, List, [], ◌∷◌, ◌++◌, length, map, append_assoc, refl, sym, ap, ◌∙◌, arith, inl, inr}
use Rattle.std.specs.Prelude.{Option, Some, ◌==◌, if◌then◌else◌}
use Rattle.std.specs.Fmt.{decimal}
use Rattle.std.proofs.lemmas.Bool.{eq-eqb}
use Rattle.std.proofs.lemmas.List.{append-nil, length-append}
use Rattle.cs_lang_token.specs.declared.token.Token.{Token}
use Rattle.cs_lang_token.specs.declared.token.Text.{Text}
use Rattle.cs_lang_token.specs.declared.token.Number.{Number}
use Rattle.cs_lang_token.specs.declared.kind.Kind.{Kind}
use Rattle.cs_lang_token.specs.declared.kind.Kind.TheVariants as kind
use Rattle.cs_lang_token.specs.Kinds.{code, is}
use Rattle.cs_lang_token.specs.Grammar.{TokenMark, without_marks, Within, Rule, token, pair, mapped, either, nothing, many, links}
use Rattle.cs_lang_token.specs.Rules.{place_of_token, text_of, number_of_token, sign, name, bytes, number}
use Rattle.cs_lang_token.specs.Tokens.{piece_at, lexeme_at, name_lexeme}
use Rattle.cs_base.specs.Options.{or_else}
use Rattle.cs_lang_token.specs.declared.lexeme.Lexeme.{Lexeme}
use Rattle.cs_lang_print.specs.Places.{bare_text}
use Rattle.cs_lang_print.specs.Words.{word, ending, quoted, hex_text}
use Rattle.cs_lang_print.proofs.Puts.{Puts, puts_none, puts_append, puts_one, piece_token}
use Rattle.cs_lang_print.proofs.Lexed.{space_ends, lexed_word, plain_word, some_word, is_decimal, lexed_number, plain_number, lexed_quoted}
use Rattle.cs_lang_token.proofs.Spans.{IsWord, AllBytes}

-- all within the limits
pub allowed : List Token → List TokenMark
allowed [] = []
allowed (t ∷ ts) = (t, true) ∷ allowed ts

allowed_append : (a b : List Token) → allowed (a ++ b) ≡ allowed a ++ allowed b
unfolding allowed
allowed_append [] b = refl
allowed_append (t ∷ ts) b = ap (λ (l : List TokenMark). (t, true) ∷ l) (allowed_append ts b)

pub plain_allowed : (ts : List Token) → without_marks (allowed ts) ≡ ts
unfolding allowed
plain_allowed [] = refl
plain_allowed (t ∷ ts) = ap (λ (l : List Token). t ∷ l) (plain_allowed ts)

pub within_allowed : (ts : List Token) → Within (allowed ts)
unfolding allowed
within_allowed [] = tt
within_allowed (t ∷ ts) = (refl, within_allowed ts)

-- B leaves the places out
pub record Spoken {X : Type 0} (B : X → X) (R : Rule X) (x : X) (text : List ℕ) (place : ℕ) : Type 0 where
  pub thing : X
  pub tokens : List Token
  pub spells : R thing (allowed tokens)
  pub same : B thing ≡ B x
  pub puts : Puts place text tokens

pub record Says {X : Type 0} (B : X → X) (R : Rule X) (x : X) (text : List ℕ) : Type 0 where
  pub at : (place : ℕ) → Spoken B R x text place

abbrev pub both : {X Y : Type 0} → (X → X) → (Y → Y) → X × Y → X × Y
both B C p = (B p.0, C p.1)

abbrev pub no_place : ℕ → ℕ
no_place place = 0

abbrev pub unplaced : Number → Number
unplaced n = record { value = n.value; place = 0 }

pub says_pair : {X Y : Type 0} {B : X → X} {C : Y → Y} {R : Rule X} {S : Rule Y} {x : X} {y : Y} {s t : List ℕ} → Says B R x s → Says C S y t → Says (both B C) (pair R S) (x, y) (s ++ t)
says_pair {X} {Y} {B} {C} {R} {S} {x} {y} {s} {t} a b = record {
  at = λ place.
      let f = a.at place in
      let g = b.at (place + length s) in
      record {
        thing = (f.thing, g.thing);
        tokens = f.tokens ++ g.tokens;
        spells = (allowed f.tokens, allowed g.tokens, allowed_append f.tokens g.tokens, f.spells, g.spells);
        same = ap (λ (z : X). pairs z (C g.thing)) f.same ∙ ap (pairs (B x)) g.same;
        puts = puts_append place s t f.tokens g.tokens f.puts g.puts;
      };
} where
  pairs : X → Y → X × Y
  pairs z w = (z, w)

pub says_mapped : {X Y : Type 0} {B : X → X} {R : Rule X} {x : X} {s : List ℕ} (D : Y → Y) (f : X → Y) → ((z : X) → D (f z) ≡ f (B z)) → Says B R x s → Says D (mapped f R) (f x) s
says_mapped {X} {Y} {B} {R} {x} {s} D f moves a = record {
  at = λ place.
      let g = a.at place in
      record {
        thing = f g.thing;
        tokens = g.tokens;
        spells = (g.thing, refl, g.spells);
        same = moves g.thing ∙ ap f g.same ∙ sym (moves x);
        puts = g.puts;
      };
}

pub says_left : {X : Type 0} {B : X → X} {R S : Rule X} {x : X} {s : List ℕ} → Says B R x s → Says B (either R S) x s
says_left a = record {
  at = λ place. let g = a.at place in record { thing = g.thing; tokens = g.tokens; spells = inl g.spells; same = g.same; puts = g.puts };
}

pub says_right : {X : Type 0} {B : X → X} {R S : Rule X} {x : X} {s : List ℕ} → Says B S x s → Says B (either R S) x s
says_right a = record {
  at = λ place. let g = a.at place in record { thing = g.thing; tokens = g.tokens; spells = inr g.spells; same = g.same; puts = g.puts };
}

pub says_nothing : {X : Type 0} (B : X → X) (x : X) → Says B (nothing x) x []
unfolding allowed
says_nothing B x = record {
  at = λ place. record { thing = x; tokens = []; spells = (refl, refl); same = refl; puts = puts_none place };
}

-- the same but for places
pub says_same : {X : Type 0} {B : X → X} {R : Rule X} {x : X} {s : List ℕ} (y : X) → B x ≡ B y → Says B R x s → Says B R y s
says_same y is a = record {
  at = λ place. let g = a.at place in record { thing = g.thing; tokens = g.tokens; spells = g.spells; same = g.same ∙ is; puts = g.puts };
}

pub says_text : {X : Type 0} {B : X → X} {R : Rule X} {x : X} {s : List ℕ} (t : List ℕ) → s ≡ t → Says B R x s → Says B R x t
says_text {X} {B} {R} {x} {s} t is a = rw (← is) a

-- behind something a rule that spells nothing
pub says_then_nothing : {X Y : Type 0} {B : X → X} {R : Rule X} {x : X} {s : List ℕ} (C : Y → Y) (S : Rule Y) (y : Y) → Says C S y [] → Says B R x s → Says (both B C) (pair R S) (x, y) s
says_then_nothing {s = s} C S y none a = says_text s (append-nil s) (says_pair a none)

-- ---- rows

pub says_many_none : {X : Type 0} {R : Rule X} (B : List X → List X) → Says B (many R) [] []
unfolding allowed
says_many_none B = record {
  at = λ place. record { thing = []; tokens = []; spells = refl; same = refl; puts = puts_none place };
}

pub says_many_more : {X : Type 0} {B : X → X} {R : Rule X} {x : X} {xs : List X} {s t : List ℕ} → Says B R x s → Says (map B) (many R) xs t → Says (map B) (many R) (x ∷ xs) (s ++ t)
says_many_more {X} {B} {R} {x} {xs} {s} {t} a b = record {
  at = λ place.
      let f = a.at place in
      let g = b.at (place + length s) in
      record {
        thing = f.thing ∷ g.thing;
        tokens = f.tokens ++ g.tokens;
        spells = (allowed f.tokens, allowed g.tokens, allowed_append f.tokens g.tokens, f.spells, g.spells);
        same = ap (λ (z : X). z ∷ map B g.thing) f.same ∙ ap (λ (l : List X). B x ∷ l) g.same;
        puts = puts_append place s t f.tokens g.tokens f.puts g.puts;
      };
}

pub says_links_none : {X : Type 0} (B : List X → List X) (R : Bool → Rule X) (left : ℕ) → Says B (links R left) [] []
unfolding allowed
says_links_none B R left = record {
  at = λ place. record { thing = []; tokens = []; spells = refl; same = refl; puts = puts_none place };
}

-- ---- one token

abbrev token_made : Kind → ℕ → List ℕ → ℕ → Token
token_made k n w place = record { kind = k; number = n; bytes = w; place = place }

same_kind : (k : Kind) → (if code k == code k then true else false) ≡ true
same_kind k = ap (λ (b : Bool). if b then true else false) (eq-eqb (code k) (code k) refl)

one_token : {X : Type 0} (B : X → X) (f : Token → X) (k : Kind) (n : ℕ) (w : List ℕ) (x : X) (text : List ℕ) → ((place : ℕ) → B (f (token_made k n w place)) ≡ B x) → ((place : ℕ) → Puts place text (token_made k n w place ∷ [])) → Says B (mapped f (token (is (k ∷ [])) true)) x text
unfolding allowed
one_token B f k n w x text same puts = record {
  at = λ place. record {
    thing = f (token_made k n w place);
    tokens = token_made k n w place ∷ [];
    spells = (token_made k n w place, refl, (refl, same_kind k));
    same = same place;
    puts = puts place;
  };
}

-- a reserved word
pub says_word : (k : Kind) (w : List ℕ) → IsWord w k → Says no_place (sign k true) 0 (word w)
unfolding word
says_word k w is = one_token no_place place_of_token k 0 w 0 (word w) (λ place. refl)
    (λ place. puts_one place w 32 (token_made k 0 w place) (some_word w k is)
    (λ rest. piece_token place (w ++ 32 ∷ rest) (record { kind = k; number = 0; bytes = w; length = length w }) (plain_word w k 32 rest is) (lexed_word w k 32 rest is space_ends))
    (λ at rest. refl))

-- a sign
pub says_sign : (k : Kind) (w : List ℕ) → 0 < length w → ((place : ℕ) (rest : List ℕ) → piece_at place (w ++ 32 ∷ rest) ≡ Some (record { kind = k; number = 0; bytes = []; place = place } ∷ [], length w)) → Says no_place (sign k true) 0 (word w)
unfolding word
says_sign k w some piece = one_token no_place place_of_token k 0 [] 0 (word w) (λ place. refl)
    (λ place. puts_one place w 32 (token_made k 0 [] place) some (piece place) (λ at rest. refl))

-- a sign at the end of a line
pub says_ending : (k : Kind) (w : List ℕ) → 0 < length w → ((place : ℕ) (rest : List ℕ) → piece_at place (w ++ 10 ∷ rest) ≡ Some (record { kind = k; number = 0; bytes = []; place = place } ∷ [], length w)) → Says no_place (sign k true) 0 (ending w)
unfolding ending
says_ending k w some piece = one_token no_place place_of_token k 0 [] 0 (ending w) (λ place. refl)
    (λ place. puts_one place w 10 (token_made k 0 [] place) some (piece place) (λ at rest. refl))

pub says_name : (t : Text) → IsWord t.bytes kind.Name → Says bare_text name t (word t.bytes)
unfolding word
says_name t is = one_token bare_text text_of kind.Name 0 t.bytes t (word t.bytes) (λ place. refl)
    (λ place. puts_one place t.bytes 32 (token_made kind.Name 0 t.bytes place) (some_word t.bytes kind.Name is)
    (λ rest. piece_token place (t.bytes ++ 32 ∷ rest) (record { kind = kind.Name; number = 0; bytes = t.bytes; length = length t.bytes }) (plain_word t.bytes kind.Name 32 rest is) (lexed_word t.bytes kind.Name 32 rest is space_ends))
    (λ at rest. refl))

pub says_number : (n : Number) → n.value ≤ 9223372036854775807 → Says unplaced number n (word (decimal n.value))
unfolding word
says_number n small =
    let is = is_decimal n.value small in
    let ds = decimal n.value in
    one_token unplaced number_of_token kind.Number n.value [] n (word ds) (λ place. refl)
    (λ place. puts_one place ds 32 (token_made kind.Number n.value [] place) is.some
    (λ rest. piece_token place (ds ++ 32 ∷ rest) (record { kind = kind.Number; number = n.value; bytes = []; length = length ds }) (plain_number ds n.value 32 rest is) (lexed_number ds n.value 32 rest is small space_ends))
    (λ at rest. refl))

-- a byte text
pub says_bytes : (t : Text) → AllBytes t.bytes → length t.bytes ≤ 256 → Says bare_text bytes t (quoted t.bytes)
unfolding quoted
says_bytes t all few =
    let w = 120 ∷ 34 ∷ (hex_text t.bytes ++ 34 ∷ []) in
    let long : length w ≡ length (hex_text t.bytes) + 3 = (let k = length-append (hex_text t.bytes) (34 ∷ []) in omega arith) in
    says_text (quoted t.bytes) (ap (λ (l : List ℕ). 120 ∷ 34 ∷ l) (append_assoc (hex_text t.bytes) (34 ∷ []) (32 ∷ [])))
    (one_token bare_text text_of kind.Bytes 0 t.bytes t (w ++ 32 ∷ []) (λ place. refl)
    (λ place. puts_one place w 32 (token_made kind.Bytes 0 t.bytes place) (omega arith)
    (λ rest. piece_token place (w ++ 32 ∷ rest) (record { kind = kind.Bytes; number = 0; bytes = t.bytes; length = length (hex_text t.bytes) + 3 }) refl
    (ap (λ (l : List ℕ). lexeme_at (120 ∷ 34 ∷ l)) (append_assoc (hex_text t.bytes) (34 ∷ []) (32 ∷ rest)) ∙ ap (λ (o : Option Lexeme). or_else o (Some (name_lexeme (120 ∷ 34 ∷ (hex_text t.bytes ++ 34 ∷ 32 ∷ rest))))) (lexed_quoted t.bytes (32 ∷ rest) all few))
    ∙ ap (λ (k : ℕ). piece (token_made kind.Bytes 0 t.bytes place ∷ []) k) (sym long))
    (λ at rest. refl)))
  where
    piece : List Token → ℕ → Option (List Token × ℕ)
    piece ts k = Some (ts, k)

pub says_links_more : {X : Type 0} {B : X → X} (R : Bool → Rule X) {left : ℕ} {x : X} {xs : List X} {s t : List ℕ} → Says B (R true) x s → Says (map B) (links R left) xs t → Says (map B) (links R (suc left)) (x ∷ xs) (s ++ t)
says_links_more {X} {B} R {left} {x} {xs} {s} {t} a b = record {
  at = λ place.
      let f = a.at place in
      let g = b.at (place + length s) in
      record {
        thing = f.thing ∷ g.thing;
        tokens = f.tokens ++ g.tokens;
        spells = (allowed f.tokens, allowed g.tokens, allowed_append f.tokens g.tokens, f.spells, g.spells);
        same = ap (λ (z : X). z ∷ map B g.thing) f.same ∙ ap (λ (l : List X). B x ∷ l) g.same;
        puts = puts_append place s t f.tokens g.tokens f.puts g.puts;
      };
}
