-- The laws of rules and readers, with the kinds of tokens that a rule begins with, and those that it goes on with. What has to hold of
-- these lists is computed.
use Rattle.std.proofs.Common.{◌≡◌, ℕ, zero, suc, ◌+◌, ◌<◌, ◌≤◌, Bool, true, false, cond, List, [], ◌∷◌, ◌++◌, length, refl, sym, ap, subst, ◌∙◌, append_assoc, arith, inl, inr, rules}
use Rattle.std.specs.Prelude.{Result, Ok, Err, ◌⊎◌, if◌then◌else◌, ◌==◌}
use Rattle.std.proofs.lemmas.List.{append-nil, length-append}
use Rattle.cs_lang_token.specs.declared.token.Token.{Token}
use Rattle.cs_lang_token.specs.declared.token.Text.{Text}
use Rattle.cs_lang_token.specs.declared.token.Number.{Number}
use Rattle.cs_lang_token.specs.declared.kind.Kind.{Kind}
use Rattle.cs_lang_token.specs.declared.kind.Kind.TheVariants as kind
use Rattle.cs_lang_token.specs.Grammar.{TokenMark, without_marks, Within, Rule, Reader, begins, token, token_at, pair, pair_read, mapped, mapped_at, either, either_at, nothing, nothing_at, refused_at, links, links_at, many, many_read, answer_after, FoundTokens, BeginsText, IsReader, ◌>>=◌}
use Rattle.cs_lang_token.specs.Kinds.{code, among, is}
use Rattle.cs_lang_token.specs.Rules.{place_of_token, text_of, number_of_token, sign, sign_at, name, name_token_at, bytes, bytes_token_at, number, number_token_at, room_of, first_and_rest, joined_left, joined_pair, item_behind, commas}
use Rattle.cs_lang_token.proofs.Grammars.{Answer, went, stop, went_is, not_both, chosen, none, token_reader, pair_reader, mapped_reader, either_reader, nothing_reader, refused_reader, links_reader, links_next, many_reader, many_next, widened, weakened, Heads, Apart, Covers, Implies, PastLimits, begins_covers, begins_apart, begins_more, begins_implies, plain_append}
use Rattle.cs_lang_token.proofs.KindTests.{disjoint, within, kinds_apart, kinds_imply, kinds_cover}

-- ---- lists of kinds

pub both_true : (a b : Bool) → (if a then b else false) ≡ true → (a ≡ true) × (b ≡ true)
both_true true b e = (refl, e)
both_true false b e = absurd cc

among_append : (ks ls : List Kind) (n : ℕ) → among (ks ++ ls) n ≡ (if among ks n then true else among ls n)
among_append [] ls n = refl
among_append (k ∷ ks) ls n = step (n == code k) (among_append ks ls n)
  where
    step : (b : Bool) → among (ks ++ ls) n ≡ (if among ks n then true else among ls n) → (if b then true else among (ks ++ ls) n) ≡ (if (if b then true else among ks n) then true else among ls n)
    step true h = refl
    step false h = h

pub in_first : (ks ls : List Kind) → Implies (is ks) (is (ks ++ ls))
in_first ks ls t e = among_append ks ls (code t.kind) ∙ ap (λ (b : Bool). if b then true else among ls (code t.kind)) e

or_true : (b c : Bool) → c ≡ true → (if b then true else c) ≡ true
or_true true c e = refl
or_true false c e = e

pub in_second : (ks ls : List Kind) → Implies (is ls) (is (ks ++ ls))
in_second ks ls t e = among_append ks ls (code t.kind) ∙ or_true (among ks (code t.kind)) (among ls (code t.kind)) e

-- ---- what a rule begins with

-- a spelling begins with one of these kinds, or is empty, where it may be
abbrev pub Leads : {X : Type 0} → Rule X → Bool → List Kind → Type 0
Leads {X} R may hs = (x : X) (ms : List TokenMark) → R x ms → (begins (is hs) (without_marks ms) ≡ true) ⊎ ((may ≡ true) × (ms ≡ []))

-- A rule, whether it spells nothing, what it begins with, what it goes on with, and its reader.
pub record Law {X : Type 0} (Enough : Type 0) (R : Rule X) (may : Bool) (hs gos : List Kind) (r : Reader X) : Type 0 where
  pub reader : IsReader Enough R (is gos) r
  pub leads : Leads R may hs

-- what follows a rule doesn't begin with what the rule goes on with
abbrev pub fits : Bool → List Kind → List Kind → List Kind → Bool
fits n ks gos stays = if disjoint ks gos then (if n then within gos stays else true) else false

begins_nothing : (ts : List Token) → begins (is []) ts ≡ false
begins_nothing [] = refl
begins_nothing (t ∷ ts) = refl

apart_of : {Y : Type 0} {S : Rule Y} (n : Bool) (ks gos stays : List Kind) → Leads S n ks → fits n ks gos stays ≡ true → (y : Y) (ms : List TokenMark) (rest : List Token) → S y ms → begins (is stays) rest ≡ false → begins (is gos) (without_marks ms ++ rest) ≡ false
apart_of n ks gos stays leads fit y ms rest p stops =
    let two = both_true (disjoint ks gos) (if n then within gos stays else true) fit in
    elim (leads y ms p) [
      | inl h ↦ begins_apart (is ks) (is gos) (without_marks ms ++ rest) (kinds_apart ks gos two.0) (begins_more (is ks) (without_marks ms) rest h)
      | inr (empties, nil) ↦
          let covers : within gos stays ≡ true = sym (ap (λ (b : Bool). if b then within gos stays else true) empties) ∙ two.1 in
          ap (λ (l : List TokenMark). begins (is gos) (without_marks l ++ rest)) nil ∙ begins_covers (is stays) (is gos) rest (kinds_cover stays gos covers) stops
    ]

abbrev pub heads_of_pair : Bool → List Kind → List Kind → List Kind
heads_of_pair m hs ks = if m then hs ++ ks else hs

leads_pair : {X Y : Type 0} {R : Rule X} {S : Rule Y} (m n : Bool) (hs ks : List Kind) → Leads R m hs → Leads S n ks → Leads (pair R S) (if m then n else false) (heads_of_pair m hs ks)
leads_pair false n hs ks p q x ms (a, b, is', u, v) =
    elim (p x.0 a u) [
      | inl h ↦ inl (ap (λ (l : List TokenMark). begins (is hs) (without_marks l)) is' ∙ ap (begins (is hs)) (plain_append a b) ∙ begins_more (is hs) (without_marks a) (without_marks b) h)
      | inr (e, nil) ↦ absurd cc
    ]
leads_pair true n hs ks p q x ms (a, b, is', u, v) =
    elim (p x.0 a u) [
      | inl h ↦ inl (ap (λ (l : List TokenMark). begins (is (hs ++ ks)) (without_marks l)) is' ∙ ap (begins (is (hs ++ ks))) (plain_append a b) ∙ begins_more (is (hs ++ ks)) (without_marks a) (without_marks b) (begins_implies (is hs) (is (hs ++ ks)) (without_marks a) (in_first hs ks) h))
      | inr (e, nil) ↦
          let same : ms ≡ b = is' ∙ ap (λ (l : List TokenMark). l ++ b) nil in
          elim (q x.1 b v) [
            | inl h ↦ inl (ap (λ (l : List TokenMark). begins (is (hs ++ ks)) (without_marks l)) same ∙ begins_implies (is ks) (is (hs ++ ks)) (without_marks b) (in_second hs ks) h)
            | inr (e', nil') ↦ inr (e', same ∙ nil')
          ]
    ]

-- ---- rules made of rules

pub pair_law : {X Y : Type 0} {E : Type 0} {R : Rule X} {S : Rule Y} {m n : Bool} {hs ks gos stays : List Kind} {r : Reader X} {s : Reader Y} → Law E R m hs gos r → Law E S n ks stays s → fits n ks gos stays ≡ true → Law E (pair R S) (if m then n else false) (heads_of_pair m hs ks) stays (pair_read r s)
pair_law {X} {Y} {E} {R} {S} {m} {n} {hs} {ks} {gos} {stays} {r} {s} a b fit = record {
  reader = pair_reader a.reader b.reader (apart_of {S = S} n ks gos stays b.leads fit);
  leads = leads_pair {R = R} {S = S} m n hs ks a.leads b.leads;
}

pub mapped_law : {X Y : Type 0} {E : Type 0} {R : Rule X} {m : Bool} {hs gos : List Kind} {r : Reader X} (f : X → Y) → Law E R m hs gos r → Law E (mapped f R) m hs gos (mapped_at f r)
mapped_law f a = record {
  reader = mapped_reader f a.reader;
  leads = λ y ms p. a.leads p.0 ms p.2;
}

pub token_law : {E : Type 0} (ks : List Kind) (sample : Token) → is ks sample ≡ true → Law E (token (is ks) true) false ks [] (token_at (is ks) true)
token_law {E} ks sample fit = record {
  reader = widened {go = none} (is []) (λ t e. refl) (token_reader E (is ks) sample fit);
  leads = λ t ms p. inl (ap (λ (l : List TokenMark). begins (is ks) (without_marks l)) p.0 ∙ p.1);
}

-- a token of a kind
abbrev pub sample : Kind → Token
sample k = record { kind = k; number = 0; bytes = []; place = 0 }

pub sign_law : {E : Type 0} (k : Kind) → is (k ∷ []) (sample k) ≡ true → Law E (sign k true) false (k ∷ []) [] (sign_at k true)
sign_law k fit = mapped_law place_of_token (token_law (k ∷ []) (sample k) fit)

pub name_law : {E : Type 0} → Law E name false (kind.Name ∷ []) [] name_token_at
name_law = mapped_law text_of (token_law (kind.Name ∷ []) (sample kind.Name) refl)

pub bytes_law : {E : Type 0} → Law E bytes false (kind.Bytes ∷ []) [] bytes_token_at
bytes_law = mapped_law text_of (token_law (kind.Bytes ∷ []) (sample kind.Bytes) refl)

pub number_law : {E : Type 0} → Law E number false (kind.Number ∷ []) [] number_token_at
number_law = mapped_law number_of_token (token_law (kind.Number ∷ []) (sample kind.Number) refl)

-- the same, where more may stop it
pub wider_law : {X : Type 0} {E : Type 0} {R : Rule X} {m : Bool} {hs gos : List Kind} {r : Reader X} (stays : List Kind) → within gos stays ≡ true → Law E R m hs gos r → Law E R m hs stays r
wider_law {gos = gos} stays fit a = record {
  reader = widened (is stays) (kinds_cover stays gos fit) a.reader;
  leads = a.leads;
}

pub weaker_law : {X : Type 0} {E F : Type 0} {R : Rule X} {m : Bool} {hs gos : List Kind} {r : Reader X} → (F → E) → Law E R m hs gos r → Law F R m hs gos r
weaker_law e a = record { reader = weakened e a.reader; leads = a.leads }

pub nothing_law : {X : Type 0} {E : Type 0} (x : X) (gos : List Kind) → Law E (nothing x) true [] gos (nothing_at x)
nothing_law {X} {E} x gos = record {
  reader = nothing_reader E x (is gos);
  leads = λ y ms p. inr (refl, p.1);
}

-- of two the first token tells
pub either_law : {X : Type 0} {E : Type 0} {R S : Rule X} {n : Bool} {hs ks gos : List Kind} {r s : Reader X} → Law E R false hs gos r → Law E S n ks gos s → fits n ks hs gos ≡ true → Law E (either R S) n (hs ++ ks) gos (either_at (is hs) r s)
either_law {X} {E} {R} {S} {n} {hs} {ks} {gos} {r} {s} a b fit = record {
  reader = either_reader (is hs) a.reader b.reader heads (apart_of {S = S} n ks hs gos b.leads fit);
  leads = leads;
} where
  heads : Heads R (is hs)
  heads x ms p = elim (a.leads x ms p) [
    | inl h ↦ h
    | inr (e, nil) ↦ absurd cc
  ]

  leads : Leads (either R S) n (hs ++ ks)
  leads x ms (inl p) = inl (begins_implies (is hs) (is (hs ++ ks)) (without_marks ms) (in_first hs ks) (heads x ms p))
  leads x ms (inr p) = elim (b.leads x ms p) [
    | inl h ↦ inl (begins_implies (is ks) (is (hs ++ ks)) (without_marks ms) (in_second hs ks) h)
    | inr (e, nil) ↦ inr (e, nil)
  ]

-- ---- rows

many_leads : {X : Type 0} {R : Rule X} (hs : List Kind) → Leads R false hs → Leads (many R) true hs
many_leads hs leads [] ms p = inr (refl, p)
many_leads hs leads (x ∷ xs) ms (a, b, is', u, v) =
    elim (leads x a u) [
      | inl h ↦ inl (ap (λ (l : List TokenMark). begins (is hs) (without_marks l)) is' ∙ ap (begins (is hs)) (plain_append a b) ∙ begins_more (is hs) (without_marks a) (without_marks b) h)
      | inr (e, nil) ↦ absurd cc
    ]

heads_only : {X : Type 0} {R : Rule X} (hs : List Kind) → Leads R false hs → Heads R (is hs)
heads_only hs leads x ms p = elim (leads x ms p) [
  | inl h ↦ h
  | inr (e, nil) ↦ absurd cc
]

abbrev pub rows : List Kind → List Kind → List Kind → Bool
rows hs gos stays = if disjoint hs gos then (if within hs stays then within gos stays else false) else false

pub many_law : {X : Type 0} {E : Type 0} {R : Rule X} {hs gos : List Kind} {r : Reader X} (stays : List Kind) → rows hs gos stays ≡ true → Law E R false hs gos r → Law E (many R) true hs stays (many_read (is hs) r)
many_law {X} {E} {R} {hs} {gos} {r} stays fit a =
    let one = both_true (disjoint hs gos) (if within hs stays then within gos stays else false) fit in
    let two = both_true (within hs stays) (within gos stays) one.1 in
    record {
      reader = many_reader (is hs) (is stays) a.reader (heads_only {R = R} hs a.leads) (kinds_apart hs gos one.0) (kinds_cover stays hs two.0) (kinds_cover stays gos two.1);
      leads = many_leads {R = R} hs a.leads;
    }

links_leads : {X : Type 0} (link : Bool → Rule X) (hs : List Kind) → ((room : Bool) → Leads (link room) false hs) → (left : ℕ) → Leads (links link left) true hs
links_leads link hs leads left [] ms p = inr (refl, p)
links_leads link hs leads zero (x ∷ xs) ms (a, b, is', u, v) =
    inl (ap (λ (l : List TokenMark). begins (is hs) (without_marks l)) is' ∙ ap (begins (is hs)) (plain_append a b) ∙ begins_more (is hs) (without_marks a) (without_marks b) (heads_only {R = link false} hs (leads false) x a u))
links_leads link hs leads (suc left) (x ∷ xs) ms (a, b, is', u, v) =
    inl (ap (λ (l : List TokenMark). begins (is hs) (without_marks l)) is' ∙ ap (begins (is hs)) (plain_append a b) ∙ begins_more (is hs) (without_marks a) (without_marks b) (heads_only {R = link true} hs (leads true) x a u))

-- every spelling begins with a token past the limits
abbrev pub Past : {X : Type 0} → Rule X → List Kind → Type 0
Past R hs = PastLimits R (is hs)

pub links_law : {X : Type 0} {E : Type 0} {hs gos : List Kind} {r : Reader X} (link : Bool → Rule X) (stays : List Kind) (left : ℕ) → rows hs gos stays ≡ true → Law E (link true) false hs gos r → ((room : Bool) → Leads (link room) false hs) → Past (link false) hs → Law E (links link left) true hs stays (links_at (is hs) r left)
links_law {X} {E} {hs} {gos} {r} link stays left fit a leads past =
    let one = both_true (disjoint hs gos) (if within hs stays then within gos stays else false) fit in
    let two = both_true (within hs stays) (within gos stays) one.1 in
    record {
      reader = links_reader link (is hs) (is stays) a.reader (λ room. heads_only {R = link room} hs (leads room)) past (kinds_apart hs gos one.0) (kinds_cover stays hs two.0) (kinds_cover stays gos two.1) left;
      leads = links_leads link hs leads left;
    }

-- R { "," R }
pub commas_law : {X : Type 0} {E : Type 0} {R : Rule X} {hs gos : List Kind} {r : Reader X} (stays : List Kind) → rows (kind.Comma ∷ []) gos stays ≡ true → within gos stays ≡ true → Law E R false hs gos r → Law E (commas R) false hs stays (mapped_at first_and_rest (pair_read r (many_read (is (kind.Comma ∷ [])) (pair_read (sign_at kind.Comma true) r))))
commas_law {X} {E} {R} {hs} {gos} {r} stays fit over a =
    let free : fits false hs [] gos ≡ true = disjoint_nothing hs in
    mapped_law first_and_rest (pair_law a (many_law stays fit (pair_law (sign_law kind.Comma refl) a free)) (follows gos stays fit over))
  where
    disjoint_nothing : (ls : List Kind) → (if disjoint ls [] then true else false) ≡ true
    disjoint_nothing [] = refl
    disjoint_nothing (l ∷ ls) = disjoint_nothing ls

    follows : (g s : List Kind) → rows (kind.Comma ∷ []) g s ≡ true → within g s ≡ true → fits true (kind.Comma ∷ []) g s ≡ true
    follows g s f o =
        let one = both_true (disjoint (kind.Comma ∷ []) g) (if within (kind.Comma ∷ []) s then within g s else false) f in
        rw (one.0, o) refl

-- ---- where a token opens a level

pub alike_law : {X : Type 0} {E : Type 0} {R : Rule X} {m : Bool} {hs gos : List Kind} {r s : Reader X} → ((ts : List Token) → s ts ≡ r ts) → Law E R m hs gos r → Law E R m hs gos s
alike_law {X} {E} {R} {m} {hs} {gos} {r} {s} same a = record {
  reader = record {
    reads = λ x ms rest p stops. same (without_marks ms ++ rest) ∙ a.reader.reads x ms rest p stops;
    found = λ e ts x rest h. a.reader.found e ts x rest (sym (same ts) ∙ h);
    stuck = λ e ts bad h. a.reader.stuck e ts bad (sym (same ts) ∙ h);
    same_ok = λ e p q t us vs x h. same (p ++ t ∷ vs) ∙ a.reader.same_ok e p q t us vs x (sym (same (p ++ t ∷ us)) ∙ h);
    same_err = λ e p q t us vs h. same (p ++ t ∷ vs) ∙ a.reader.same_err e p q t us vs (sym (same (p ++ t ∷ us)) ∙ h);
    some = a.reader.some;
  };
  leads = a.leads;
}

abbrev pub Some' : {X : Type 0} → Rule X → Type 0
Some' {X} R = (x : X) × (ms : List TokenMark) × R x ms

never : (ks : List Kind) (ts : List Token) → token_at (is ks) false ts ≡ Err ts
never ks [] = refl
never ks (t ∷ ts) = step (is ks t)
  where
    step : (b : Bool) → (if b then (if false then went t ts else stop (t ∷ ts)) else stop (t ∷ ts)) ≡ stop (t ∷ ts)
    step true = refl
    step false = refl

-- past the limits nothing is read
pub shut : {Y : Type 0} (k : Kind) (s : Reader Y) (ts : List Token) → pair_read (sign_at k false) s ts ≡ Err ts
shut {Y} k s ts = ap (λ (a : Answer Token). (a >>= λ x. went (place_of_token x.0) x.1) >>= λ x. s x.1 >>= λ y. went (x.0, y.0) y.1) (never (k ∷ []) ts)

pub gate_past : {X : Type 0} (k : Kind) (S : Rule X) → Past (pair (sign k false) S) (k ∷ [])
gate_past k S x ms (a, b, at, (t, u, p), q) = (t, b, at ∙ ap (λ (l : List TokenMark). l ++ b) p.0, p.1)

pub gate_leads : {X : Type 0} (k : Kind) (room : Bool) (S : Rule X) → Leads (pair (sign k room) S) false (k ∷ [])
gate_leads k room S x ms (a, b, at, (t, u, p), q) =
    inl (ap (λ (l : List TokenMark). begins (is (k ∷ [])) (without_marks l)) (at ∙ ap (λ (l : List TokenMark). l ++ b) p.0) ∙ p.1)

pub disjoint_none : (ls : List Kind) → disjoint ls [] ≡ true
disjoint_none [] = refl
disjoint_none (l ∷ ls) = disjoint_none ls

pub fits_none : (n : Bool) (ks stays : List Kind) → fits n ks [] stays ≡ true
fits_none true ks stays = rw (disjoint_none ks) refl
fits_none false ks stays = rw (disjoint_none ks) refl

-- behind a rule that doesn't go on
pub then_law : {X Y : Type 0} {E : Type 0} {R : Rule X} {S : Rule Y} {n : Bool} {hs ks stays : List Kind} {r : Reader X} {s : Reader Y} → Law E R false hs [] r → Law E S n ks stays s → Law E (pair R S) false hs stays (pair_read r s)
then_law {n = n} {ks = ks} {stays = stays} a b = pair_law a b (fits_none n ks stays)

pub gate_law : {X : Type 0} {E : Type 0} {S : Rule X} {n : Bool} {ks stays : List Kind} {s : Reader X} (room : Bool) (k : Kind) → is (k ∷ []) (sample k) ≡ true → (room ≡ true → Law E S n ks stays s) → (E → Some' S) → Law E (pair (sign k room) S) false (k ∷ []) stays (pair_read (sign_at k room) s)
gate_law {X} {E} {S} {n} {ks} {stays} {s} true k fit inner some = then_law (sign_law k fit) (inner refl)
gate_law {X} {E} {S} {n} {ks} {stays} {s} false k fit inner some =
    alike_law (shut k s) (record {
      reader = refused_reader E (pair (sign k false) S) (is (k ∷ [])) (is stays) (gate_past k S)
          (λ e. let a = some e in ((0, a.0), (sample k, false) ∷ a.1, ((sample k, false) ∷ [], a.1, refl, (sample k, refl, (refl, fit)), a.2)));
      leads = gate_leads k false S;
    })

-- ---- something that a rule spells

pub some_of : {X : Type 0} {E : Type 0} {R : Rule X} {m : Bool} {hs gos : List Kind} {r : Reader X} → Law E R m hs gos r → E → Some' R
some_of a e = a.reader.some e

pub some_pair : {X Y : Type 0} {R : Rule X} {S : Rule Y} → Some' R → Some' S → Some' (pair R S)
some_pair a b = ((a.0, b.0), a.1 ++ b.1, (a.1, b.1, refl, a.2, b.2))

pub some_mapped : {X Y : Type 0} {R : Rule X} (f : X → Y) → Some' R → Some' (mapped f R)
some_mapped f a = (f a.0, a.1, (a.0, refl, a.2))

pub some_sign : (k : Kind) → is (k ∷ []) (sample k) ≡ true → Some' (sign k true)
some_sign k fit = (0, (sample k, true) ∷ [], (sample k, refl, (refl, fit)))

pub some_many : {X : Type 0} {R : Rule X} → Some' (many R)
some_many = ([], [], refl)

pub some_left : {X : Type 0} {R S : Rule X} → Some' R → Some' (either R S)
some_left a = (a.0, a.1, inl a.2)

pub some_right : {X : Type 0} {R S : Rule X} → Some' S → Some' (either R S)
some_right a = (a.0, a.1, inr a.2)
