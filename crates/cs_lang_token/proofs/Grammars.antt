-- A reader made of readers is that of the rule made of their rules.
use Rattle.std.proofs.Common.{◌≡◌, ℕ, zero, suc, ◌+◌, ◌<◌, ◌≤◌, Bool, true, false, cond, List, [], ◌∷◌, ◌++◌, length, refl, sym, ap, subst, ◌∙◌, append_assoc, arith, inl, inr, rules}
use Rattle.std.specs.Prelude.{Result, Ok, Err, ◌⊎◌, if◌then◌else◌}
use Rattle.std.proofs.lemmas.List.{append-nil, length-append}
use Rattle.cs_lang_token.specs.declared.token.Token.{Token}
use Rattle.cs_lang_token.specs.Grammar.{TokenMark, without_marks, Within, Rule, Reader, ◌>>=◌, begins, token, token_at, pair, pair_read, mapped, mapped_at, either, either_at, nothing, nothing_at, refused_at, links, links_at, many, many_read, answer_after, FoundTokens, BeginsText, IsReader}

-- ---- results

pub bind_ok : {A B E : Type 0} (r : Result A E) (f : A → Result B E) (y : B) → (r >>= f) ≡ Ok y → (x : A) × (r ≡ Ok x) × (f x ≡ Ok y)
bind_ok (Ok x) f y e = (x, refl, e)
bind_ok (Err b) f y e = absurd cc

abbrev ErrOf : {A B E : Type 0} → Result A E → (A → Result B E) → E → Type 0
ErrOf {A} r f e = (r ≡ Err e) ⊎ ((x : A) × (r ≡ Ok x) × (f x ≡ Err e))

abbrev bad : {A E : Type 0} → E → Result A E
bad e = Err e

pub err_is : {A E : Type 0} (a b : E) → bad {A = A} a ≡ bad {A = A} b → a ≡ b
err_is a b e = cc

abbrev good : {A E : Type 0} → A → Result A E
good x = Ok x

pub ok_is : {A E : Type 0} (a b : A) → good {E = E} a ≡ good {E = E} b → a ≡ b
ok_is a b e = cc

pub bind_err : {A B E : Type 0} (r : Result A E) (f : A → Result B E) (e : E) → (r >>= f) ≡ Err e → ErrOf r f e
bind_err (Ok x) f e h = inr (x, refl, h)
bind_err {A} {B} {E} (Err b) f e h = inl (ap (λ (z : E). bad {A = A} z) (err_is {A = B} b e h))

-- ---- lists

pub plain_append : (a b : List TokenMark) → without_marks (a ++ b) ≡ without_marks a ++ without_marks b
plain_append [] b = refl
plain_append (m ∷ a) b = ap (λ (ts : List Token). m.0 ∷ ts) (plain_append a b)

pub Within_append : (a b : List TokenMark) → Within a → Within b → Within (a ++ b)
Within_append [] b p q = q
Within_append (m ∷ a) b p q = (p.0, Within_append a b p.1 q)

pub same_head : (test : Token → Bool) (p : List Token) (t : Token) (us vs : List Token) → begins test (p ++ t ∷ us) ≡ begins test (p ++ t ∷ vs)
same_head test [] t us vs = refl
same_head test (x ∷ p) t us vs = refl

pub cancel_right : (a b c : List Token) → a ++ c ≡ b ++ c → a ≡ b
cancel_right [] [] c e = refl
cancel_right [] (y ∷ b) c e = absurd (let n : length c ≡ length ((y ∷ b) ++ c) = ap length e in omega (arith, length-append (y ∷ b) c))
cancel_right (x ∷ a) [] c e = absurd (let n : length ((x ∷ a) ++ c) ≡ length c = ap length e in omega (arith, length-append (x ∷ a) c))
cancel_right (x ∷ a) (y ∷ b) c e =
    let t : a ++ c ≡ b ++ c = cc in let h : x ≡ y = cc in let i = cancel_right a b c t in cc

pub split_plain : (a b : List TokenMark) (rest : List Token) → without_marks (a ++ b) ++ rest ≡ without_marks a ++ (without_marks b ++ rest)
split_plain a b rest = ap (λ (ts : List Token). ts ++ rest) (plain_append a b) ∙ append_assoc (without_marks a) (without_marks b) rest

-- ---- what follows a spelling

pub after_append : {A B : Type 0} (a b : List TokenMark) (rest : List Token) (f : A → Result B (List Token)) (x : A) (y : B) → f x ≡ answer_after b rest y → (answer_after a (without_marks b ++ rest) x >>= f) ≡ answer_after (a ++ b) rest y
after_append [] b rest f x y e = e
after_append ((t, true) ∷ a) b rest f x y e = after_append a b rest f x y e
after_append {A} {B} ((t, false) ∷ a) b rest f x y e = ap (λ (ts : List Token). bad {A = B} (t ∷ ts)) (sym (split_plain a b rest))

pub after_map : {A B : Type 0} (a : List TokenMark) (rest : List Token) (f : A → Result B (List Token)) (x : A) (y : B) → f x ≡ Ok y → (answer_after a rest x >>= f) ≡ answer_after a rest y
after_map [] rest f x y e = e
after_map ((t, true) ∷ a) rest f x y e = after_map a rest f x y e
after_map ((t, false) ∷ a) rest f x y e = refl

-- ---- one token

abbrev pub none : Token → Bool
none t = false

token_read : (test : Token → Bool) (room : Bool) (t : Token) (ms : List TokenMark) (rest : List Token) → token test room t ms → token_at test room (without_marks ms ++ rest) ≡ answer_after ms rest (t, rest)
token_read test true t ms rest (is, passes) = rw (is, passes) refl
token_read test false t ms rest (is, passes) = rw (is, passes) refl

abbrev pub Answer : Type 0 → Type 0
Answer X = Result (X × List Token) (List Token)

abbrev pub went : {X : Type 0} → X → List Token → Answer X
went x rest = Ok (x, rest)

abbrev pub stop : {X : Type 0} → List Token → Answer X
stop ts = Err ts

pub chosen : {A : Type 0} (b : Bool) (x y z : A) → cond b x y ≡ z → ((b ≡ true) × (x ≡ z)) ⊎ ((b ≡ false) × (y ≡ z))
chosen true x y z e = inl (refl, e)
chosen false x y z e = inr (refl, e)

pub went_is : {X : Type 0} (x y : X) (us vs : List Token) → went x us ≡ went y vs → (x ≡ y) × (us ≡ vs)
went_is {X} x y us vs e =
    let a : X × List Token = (x, us) in
    let b : X × List Token = (y, vs) in
    let p = ok_is {E = List Token} a b e in
    (ap (λ (z : X × List Token). z.0) p, ap (λ (z : X × List Token). z.1) p)

pub stop_is : {X : Type 0} (us vs : List Token) → stop {X = X} us ≡ stop {X = X} vs → us ≡ vs
stop_is us vs e = cc

pub not_both : {X : Type 0} (x : X) (us vs : List Token) → went x us ≡ stop vs → ⊥
not_both x us vs e = absurd cc

token_found : (test : Token → Bool) (ts : List Token) (t : Token) (rest : List Token) → token_at test true ts ≡ Ok (t, rest) → FoundTokens (token test true) ts t rest
token_found test [] t rest e = absurd (not_both t rest [] (sym e))
token_found test (u ∷ ts) t rest e =
    elim (chosen (test u) (went u ts) (stop (u ∷ ts)) (went t rest) e) [
      | inl (is, h) ↦ let w = went_is u t ts rest h in record { marks = (t, true) ∷ []; parts = cc (w.0, w.1); within = (refl, tt); spells = (refl, sym (ap test w.0) ∙ is) }
      | inr (is, h) ↦ absurd (not_both t rest (u ∷ ts) (sym h))
    ]

token_stuck : (test : Token → Bool) (sample : Token) → test sample ≡ true → (ts rest : List Token) → token_at test true ts ≡ Err rest → BeginsText (token test true) ts rest
token_stuck test sample fits [] rest e = record { marks = []; parts = stop_is [] rest e; within = tt; thing = sample; more = (sample, true) ∷ []; spells = (refl, fits) }
token_stuck test sample fits (u ∷ ts) rest e =
    elim (chosen (test u) (went u ts) (stop (u ∷ ts)) (stop rest) e) [
      | inl (is, h) ↦ absurd (not_both u ts rest h)
      | inr (is, h) ↦ record { marks = []; parts = stop_is (u ∷ ts) rest h; within = tt; thing = sample; more = (sample, true) ∷ []; spells = (refl, fits) }
    ]

no_longer : (x : Token) (p q : List Token) (c : List Token) → p ++ c ≡ x ∷ (q ++ c) → p ≡ x ∷ q
no_longer x p q c e = cancel_right p (x ∷ q) c e

token_same_ok : (test : Token → Bool) (p q : List Token) (t : Token) (us vs : List Token) (x : Token) → token_at test true (p ++ t ∷ us) ≡ Ok (x, q ++ t ∷ us) → token_at test true (p ++ t ∷ vs) ≡ Ok (x, q ++ t ∷ vs)
token_same_ok test [] q t us vs x e =
    elim (chosen (test t) (went t us) (stop (t ∷ us)) (went x (q ++ t ∷ us)) e) [
      | inl (is, h) ↦ absurd (let w : us ≡ q ++ t ∷ us = (went_is t x us (q ++ t ∷ us) h).1 in let n : length us ≡ length (q ++ t ∷ us) = ap length w in omega (arith, length-append q (t ∷ us)))
      | inr (is, h) ↦ absurd (not_both x (q ++ t ∷ us) (t ∷ us) (sym h))
    ]
token_same_ok test (u ∷ p) q t us vs x e =
    elim (chosen (test u) (went u (p ++ t ∷ us)) (stop (u ∷ (p ++ t ∷ us))) (went x (q ++ t ∷ us)) e) [
      | inl (is, h) ↦ let w = went_is u x (p ++ t ∷ us) (q ++ t ∷ us) h in let same = cancel_right p q (t ∷ us) w.1 in rw (is, w.0, same) refl
      | inr (is, h) ↦ absurd (not_both x (q ++ t ∷ us) (u ∷ (p ++ t ∷ us)) (sym h))
    ]

token_same_err : (test : Token → Bool) (p q : List Token) (t : Token) (us vs : List Token) → token_at test true (p ++ t ∷ us) ≡ Err (q ++ t ∷ us) → token_at test true (p ++ t ∷ vs) ≡ Err (q ++ t ∷ vs)
token_same_err test [] q t us vs e =
    elim (chosen (test t) (went t us) (stop (t ∷ us)) (stop (q ++ t ∷ us)) e) [
      | inl (is, h) ↦ absurd (not_both t us (q ++ t ∷ us) h)
      | inr (is, h) ↦ let same = cancel_right [] q (t ∷ us) (stop_is {X = Token} (t ∷ us) (q ++ t ∷ us) h) in rw (is, ← same) refl
    ]
token_same_err test (u ∷ p) q t us vs e =
    elim (chosen (test u) (went u (p ++ t ∷ us)) (stop (u ∷ (p ++ t ∷ us))) (stop (q ++ t ∷ us)) e) [
      | inl (is, h) ↦ absurd (not_both u (p ++ t ∷ us) (q ++ t ∷ us) h)
      | inr (is, h) ↦ let same = cancel_right (u ∷ p) q (t ∷ us) (stop_is {X = Token} (u ∷ (p ++ t ∷ us)) (q ++ t ∷ us) h) in rw (is, ← same) refl
    ]

pub token_reader : (E : Type 0) (test : Token → Bool) (sample : Token) → test sample ≡ true → IsReader E (token test true) none (token_at test true)
token_reader E test sample fits = record {
  reads = λ x ms rest spells stops. token_read test true x ms rest spells;
  found = λ _. token_found test;
  stuck = λ _. token_stuck test sample fits;
  same_ok = λ _. token_same_ok test;
  same_err = λ _. token_same_err test;
  some = λ _. (sample, (sample, true) ∷ [], (refl, fits));
}

-- ---- one after the other

module _ {X Y : Type 0} {E : Type 0} {R : Rule X} {S : Rule Y} {go stay : Token → Bool} {r : Reader X} {s : Reader Y} (first : IsReader E R go r) (second : IsReader E S stay s)
    (apart : (y : Y) (ms : List TokenMark) (rest : List Token) → S y ms → begins stay rest ≡ false → begins go (without_marks ms ++ rest) ≡ false) where
  pair_reads : (x : X × Y) (ms : List TokenMark) (rest : List Token) → pair R S x ms → begins stay rest ≡ false → pair_read r s (without_marks ms ++ rest) ≡ answer_after ms rest (x, rest)
  pair_reads x ms rest (a, b, is, p, q) stops =
      let f : X × List Token → Answer (X × Y) = λ z. s z.1 >>= λ y. Ok ((z.0, y.0), y.1) in
      let e1 = first.reads x.0 a (without_marks b ++ rest) p (apart x.1 b rest q stops) in
      let e2 = second.reads x.1 b rest q stops in
      let e3 : f (x.0, without_marks b ++ rest) ≡ answer_after b rest (x, rest) = ap (λ (z : Answer Y). z >>= λ y. went (x.0, y.0) y.1) e2 ∙ after_map b rest (λ y. went (x.0, y.0) y.1) (x.1, rest) (x, rest) refl in
      ap (λ (l : List TokenMark). pair_read r s (without_marks l ++ rest)) is ∙ ap (pair_read r s) (split_plain a b rest) ∙ ap (λ (z : Answer X). z >>= f) e1 ∙ after_append a b rest f (x.0, without_marks b ++ rest) (x, rest) e3 ∙ ap (λ (l : List TokenMark). answer_after l rest (x, rest)) (sym is)

  pair_found : E → (ts : List Token) (x : X × Y) (rest : List Token) → pair_read r s ts ≡ Ok (x, rest) → FoundTokens (pair R S) ts x rest
  pair_found e ts x rest h =
      let u = bind_ok (r ts) (λ z. s z.1 >>= λ y. went (z.0, y.0) y.1) (x, rest) h in
      let v = bind_ok (s u.0.1) (λ y. went (u.0.0, y.0) y.1) (x, rest) u.2 in
      let w = went_is (u.0.0, v.0.0) x v.0.1 rest v.2 in
      let f = first.found e ts u.0.0 u.0.1 u.1 in
      let g = second.found e u.0.1 v.0.0 v.0.1 v.1 in
      record {
        marks = f.marks ++ g.marks;
        parts = f.parts ∙ ap (λ (l : List Token). without_marks f.marks ++ l) (g.parts ∙ ap (λ (l : List Token). without_marks g.marks ++ l) w.1) ∙ sym (split_plain f.marks g.marks rest);
        within = Within_append f.marks g.marks f.within g.within;
        spells = (f.marks, g.marks, refl, subst (λ (z : X × Y). R z.0 f.marks) w.0 f.spells, subst (λ (z : X × Y). S z.1 g.marks) w.0 g.spells);
      }

  pair_stuck : E → (ts bad : List Token) → pair_read r s ts ≡ Err bad → BeginsText (pair R S) ts bad
  pair_stuck e ts bad h =
      elim (bind_err (r ts) (λ z. s z.1 >>= λ y. went (z.0, y.0) y.1) bad h) [
        | inl err ↦ let b = first.stuck e ts bad err in let k = second.some e in record {
          marks = b.marks;
          parts = b.parts;
          within = b.within;
          thing = (b.thing, k.0);
          more = b.more ++ k.1;
          spells = (b.marks ++ b.more, k.1, sym (append_assoc b.marks b.more k.1), b.spells, k.2);
        }
        | inr (z, ok, err) ↦ elim (bind_err (s z.1) (λ y. went (z.0, y.0) y.1) bad err) [
          | inl err' ↦ let f = first.found e ts z.0 z.1 ok in let b = second.stuck e z.1 bad err' in record {
            marks = f.marks ++ b.marks;
            parts = f.parts ∙ ap (λ (l : List Token). without_marks f.marks ++ l) b.parts ∙ sym (split_plain f.marks b.marks bad);
            within = Within_append f.marks b.marks f.within b.within;
            thing = (z.0, b.thing);
            more = b.more;
            spells = (f.marks, b.marks ++ b.more, append_assoc f.marks b.marks b.more, f.spells, b.spells);
          }
          | inr (y, ok', err') ↦ absurd (not_both (z.0, y.0) y.1 bad err')
        ]
      ]

  pair_same_ok : E → (p q : List Token) (t : Token) (us vs : List Token) (x : X × Y) → pair_read r s (p ++ t ∷ us) ≡ Ok (x, q ++ t ∷ us) → pair_read r s (p ++ t ∷ vs) ≡ Ok (x, q ++ t ∷ vs)
  pair_same_ok e p q t us vs x h =
      let u = bind_ok (r (p ++ t ∷ us)) (λ z. s z.1 >>= λ y. went (z.0, y.0) y.1) (x, q ++ t ∷ us) h in
      let v = bind_ok (s u.0.1) (λ y. went (u.0.0, y.0) y.1) (x, q ++ t ∷ us) u.2 in
      let w = went_is (u.0.0, v.0.0) x v.0.1 (q ++ t ∷ us) v.2 in
      let g = second.found e u.0.1 v.0.0 v.0.1 v.1 in
      let m = without_marks g.marks ++ q in
      let mid : u.0.1 ≡ m ++ t ∷ us = g.parts ∙ ap (λ (l : List Token). without_marks g.marks ++ l) w.1 ∙ sym (append_assoc (without_marks g.marks) q (t ∷ us)) in
      let one = first.same_ok e p m t us vs u.0.0 (u.1 ∙ ap (λ (l : List Token). went u.0.0 l) mid) in
      let two = second.same_ok e m q t us vs v.0.0 (ap s (sym mid) ∙ v.1 ∙ ap (λ (l : List Token). went v.0.0 l) w.1) in
      ap (λ (z : Answer X). z >>= λ z. s z.1 >>= λ y. went (z.0, y.0) y.1) one ∙ ap (λ (z : Answer Y). z >>= λ y. went (u.0.0, y.0) y.1) two ∙ ap (λ (z : X × Y). went z (q ++ t ∷ vs)) w.0

  pair_same_err : E → (p q : List Token) (t : Token) (us vs : List Token) → pair_read r s (p ++ t ∷ us) ≡ Err (q ++ t ∷ us) → pair_read r s (p ++ t ∷ vs) ≡ Err (q ++ t ∷ vs)
  pair_same_err e p q t us vs h =
      elim (bind_err (r (p ++ t ∷ us)) (λ z. s z.1 >>= λ y. went (z.0, y.0) y.1) (q ++ t ∷ us) h) [
        | inl err ↦ ap (λ (z : Answer X). z >>= λ z. s z.1 >>= λ y. went (z.0, y.0) y.1) (first.same_err e p q t us vs err)
        | inr (u, ok, err) ↦ elim (bind_err (s u.1) (λ y. went (u.0, y.0) y.1) (q ++ t ∷ us) err) [
          | inl err' ↦ let b = second.stuck e u.1 (q ++ t ∷ us) err' in
              let m = without_marks b.marks ++ q in
              let mid : u.1 ≡ m ++ t ∷ us = b.parts ∙ sym (append_assoc (without_marks b.marks) q (t ∷ us)) in
              let one = first.same_ok e p m t us vs u.0 (ok ∙ ap (λ (l : List Token). went u.0 l) mid) in
              let two = second.same_err e m q t us vs (ap s (sym mid) ∙ err') in
              ap (λ (z : Answer X). z >>= λ z. s z.1 >>= λ y. went (z.0, y.0) y.1) one ∙ ap (λ (z : Answer Y). z >>= λ y. went (u.0, y.0) y.1) two
          | inr (y, ok', err') ↦ absurd (not_both (u.0, y.0) y.1 (q ++ t ∷ us) err')
        ]
      ]

  pub pair_reader : IsReader E (pair R S) stay (pair_read r s)
  pair_reader = record {
    reads = pair_reads;
    found = pair_found;
    stuck = pair_stuck;
    same_ok = pair_same_ok;
    same_err = pair_same_err;
    some = λ e. let a = first.some e in let b = second.some e in ((a.0, b.0), a.1 ++ b.1, (a.1, b.1, refl, a.2, b.2));
  }

-- ---- what a spelling begins with

abbrev pub Heads : {X : Type 0} → Rule X → (Token → Bool) → Type 0
Heads {X} R test = (x : X) (ms : List TokenMark) → R x ms → begins test (without_marks ms) ≡ true

abbrev pub Implies : (Token → Bool) → (Token → Bool) → Type 0
Implies f g = (t : Token) → f t ≡ true → g t ≡ true

abbrev pub Apart : (Token → Bool) → (Token → Bool) → Type 0
Apart f g = (t : Token) → f t ≡ true → g t ≡ false

-- where one test fails, the other does
abbrev pub Covers : (Token → Bool) → (Token → Bool) → Type 0
Covers f g = (t : Token) → f t ≡ false → g t ≡ false

pub begins_more : (test : Token → Bool) (ts rest : List Token) → begins test ts ≡ true → begins test (ts ++ rest) ≡ true
begins_more test [] rest e = absurd cc
begins_more test (t ∷ ts) rest e = e

pub begins_apart : (f g : Token → Bool) (ts : List Token) → Apart f g → begins f ts ≡ true → begins g ts ≡ false
begins_apart f g [] a e = refl
begins_apart f g (t ∷ ts) a e = a t e

pub begins_covers : (f g : Token → Bool) (ts : List Token) → Covers f g → begins f ts ≡ false → begins g ts ≡ false
begins_covers f g [] a e = refl
begins_covers f g (t ∷ ts) a e = a t e

pub begins_implies : (f g : Token → Bool) (ts : List Token) → Implies f g → begins f ts ≡ true → begins g ts ≡ true
begins_implies f g [] a e = absurd cc
begins_implies f g (t ∷ ts) a e = a t e

pub token_heads : (test : Token → Bool) (room : Bool) → Heads (token test room) test
token_heads test room t ms (is, passes) = rw is passes

pub pair_heads : {X Y : Type 0} {R : Rule X} (S : Rule Y) (test : Token → Bool) → Heads R test → Heads (pair R S) test
pair_heads S test h x ms (a, b, is, p, q) = ap (λ (l : List TokenMark). begins test (without_marks l)) is ∙ ap (begins test) (plain_append a b) ∙ begins_more test (without_marks a) (without_marks b) (h x.0 a p)

pub mapped_heads : {X Y : Type 0} {R : Rule X} (f : X → Y) (test : Token → Bool) → Heads R test → Heads (mapped f R) test
mapped_heads f test h y ms (x, is, p) = h x ms p

pub either_heads : {X : Type 0} {R S : Rule X} (test : Token → Bool) → Heads R test → Heads S test → Heads (either R S) test
either_heads test h k x ms (inl p) = h x ms p
either_heads test h k x ms (inr p) = k x ms p

pub less_heads : {X : Type 0} {R : Rule X} (f g : Token → Bool) → Implies f g → Heads R f → Heads R g
less_heads f g i h x ms p = begins_implies f g (without_marks ms) i (h x ms p)

-- a rule behind another, which begins with no token that the other goes on with
pub heads_apart : {Y : Type 0} {S : Rule Y} (f go stay : Token → Bool) → Heads S f → Apart f go → (y : Y) (ms : List TokenMark) (rest : List Token) → S y ms → begins stay rest ≡ false → begins go (without_marks ms ++ rest) ≡ false
heads_apart f go stay h a y ms rest p stops = begins_apart f go (without_marks ms ++ rest) a (begins_more f (without_marks ms) rest (h y ms p))

-- ---- the same reader, of less

pub widened : {X : Type 0} {E : Type 0} {R : Rule X} {go : Token → Bool} {r : Reader X} (stay : Token → Bool) → Covers stay go → IsReader E R go r → IsReader E R stay r
widened {X} {E} {R} {go} {r} stay c g = record {
  reads = λ x ms rest p stops. g.reads x ms rest p (begins_covers stay go rest c stops);
  found = g.found;
  stuck = g.stuck;
  same_ok = g.same_ok;
  same_err = g.same_err;
  some = g.some;
}

pub weakened : {X : Type 0} {E F : Type 0} {R : Rule X} {go : Token → Bool} {r : Reader X} → (F → E) → IsReader E R go r → IsReader F R go r
weakened e g = record {
  reads = g.reads;
  found = λ f. g.found (e f);
  stuck = λ f. g.stuck (e f);
  same_ok = λ f. g.same_ok (e f);
  same_err = λ f. g.same_err (e f);
  some = λ f. g.some (e f);
}

-- ---- a thing made of another

module _ {X Y : Type 0} {E : Type 0} {R : Rule X} {go : Token → Bool} {r : Reader X} (f : X → Y) (g : IsReader E R go r) where
  onto : X × List Token → Answer Y
  onto z = Ok (f z.0, z.1)

  mapped_reads : (y : Y) (ms : List TokenMark) (rest : List Token) → mapped f R y ms → begins go rest ≡ false → mapped_at f r (without_marks ms ++ rest) ≡ answer_after ms rest (y, rest)
  unfolding onto
  mapped_reads y ms rest (x, is, p) stops =
      ap (λ (z : Answer X). z >>= onto) (g.reads x ms rest p stops) ∙ after_map ms rest onto (x, rest) (y, rest) (ap (λ (z : Y). went z rest) is)

  mapped_found : E → (ts : List Token) (y : Y) (rest : List Token) → mapped_at f r ts ≡ Ok (y, rest) → FoundTokens (mapped f R) ts y rest
  unfolding onto
  mapped_found e ts y rest h =
      let u = bind_ok (r ts) onto (y, rest) h in
      let w = went_is (f u.0.0) y u.0.1 rest u.2 in
      let k = g.found e ts u.0.0 u.0.1 u.1 in
      record { marks = k.marks; parts = k.parts ∙ ap (λ (l : List Token). without_marks k.marks ++ l) w.1; within = k.within; spells = (u.0.0, w.0, k.spells) }

  mapped_stuck : E → (ts bad : List Token) → mapped_at f r ts ≡ Err bad → BeginsText (mapped f R) ts bad
  unfolding onto
  mapped_stuck e ts rest h =
      elim (bind_err (r ts) onto rest h) [
        | inl err ↦ let b = g.stuck e ts rest err in record { marks = b.marks; parts = b.parts; within = b.within; thing = f b.thing; more = b.more; spells = (b.thing, refl, b.spells) }
        | inr (z, ok, err) ↦ absurd (not_both (f z.0) z.1 rest err)
      ]

  mapped_same_ok : E → (p q : List Token) (t : Token) (us vs : List Token) (y : Y) → mapped_at f r (p ++ t ∷ us) ≡ Ok (y, q ++ t ∷ us) → mapped_at f r (p ++ t ∷ vs) ≡ Ok (y, q ++ t ∷ vs)
  unfolding onto
  mapped_same_ok e p q t us vs y h =
      let u = bind_ok (r (p ++ t ∷ us)) onto (y, q ++ t ∷ us) h in
      let w = went_is (f u.0.0) y u.0.1 (q ++ t ∷ us) u.2 in
      let one = g.same_ok e p q t us vs u.0.0 (u.1 ∙ ap (λ (l : List Token). went u.0.0 l) w.1) in
      ap (λ (z : Answer X). z >>= onto) one ∙ ap (λ (z : Y). went z (q ++ t ∷ vs)) w.0

  mapped_same_err : E → (p q : List Token) (t : Token) (us vs : List Token) → mapped_at f r (p ++ t ∷ us) ≡ Err (q ++ t ∷ us) → mapped_at f r (p ++ t ∷ vs) ≡ Err (q ++ t ∷ vs)
  unfolding onto
  mapped_same_err e p q t us vs h =
      elim (bind_err (r (p ++ t ∷ us)) onto (q ++ t ∷ us) h) [
        | inl err ↦ ap (λ (z : Answer X). z >>= onto) (g.same_err e p q t us vs err)
        | inr (z, ok, err) ↦ absurd (not_both (f z.0) z.1 (q ++ t ∷ us) err)
      ]

  pub mapped_reader : IsReader E (mapped f R) go (mapped_at f r)
  mapped_reader = record {
    reads = mapped_reads;
    found = mapped_found;
    stuck = mapped_stuck;
    same_ok = mapped_same_ok;
    same_err = mapped_same_err;
    some = λ e. let a = g.some e in (f a.0, a.1, (a.0, refl, a.2));
  }

-- ---- one of two

pub in_found : {X : Type 0} {R S : Rule X} {ts rest : List Token} {x : X} → ((ms : List TokenMark) → R x ms → S x ms) → FoundTokens R ts x rest → FoundTokens S ts x rest
in_found i f = record { marks = f.marks; parts = f.parts; within = f.within; spells = i f.marks f.spells }

pub in_begins : {X : Type 0} {R S : Rule X} {ts rest : List Token} → ((x : X) (ms : List TokenMark) → R x ms → S x ms) → BeginsText R ts rest → BeginsText S ts rest
in_begins i b = record { marks = b.marks; parts = b.parts; within = b.within; thing = b.thing; more = b.more; spells = i b.thing (b.marks ++ b.more) b.spells }

module _ {X : Type 0} {E : Type 0} {R S : Rule X} {go : Token → Bool} {r s : Reader X} (first : Token → Bool) (left : IsReader E R go r) (right : IsReader E S go s)
    (heads : Heads R first) (others : (x : X) (ms : List TokenMark) (rest : List Token) → S x ms → begins go rest ≡ false → begins first (without_marks ms ++ rest) ≡ false) where
  either_reads : (x : X) (ms : List TokenMark) (rest : List Token) → either R S x ms → begins go rest ≡ false → either_at first r s (without_marks ms ++ rest) ≡ answer_after ms rest (x, rest)
  either_reads x ms rest (inl p) stops = ap (λ (b : Bool). cond b (r (without_marks ms ++ rest)) (s (without_marks ms ++ rest))) (begins_more first (without_marks ms) rest (heads x ms p)) ∙ left.reads x ms rest p stops
  either_reads x ms rest (inr p) stops = ap (λ (b : Bool). cond b (r (without_marks ms ++ rest)) (s (without_marks ms ++ rest))) (others x ms rest p stops) ∙ right.reads x ms rest p stops

  either_found : E → (ts : List Token) (x : X) (rest : List Token) → either_at first r s ts ≡ Ok (x, rest) → FoundTokens (either R S) ts x rest
  either_found e ts x rest h =
      elim (chosen (begins first ts) (r ts) (s ts) (went x rest) h) [
        | inl (is, k) ↦ in_found {R = R} {S = either R S} (λ ms p. inl p) (left.found e ts x rest k)
        | inr (is, k) ↦ in_found {R = S} {S = either R S} (λ ms p. inr p) (right.found e ts x rest k)
      ]

  either_stuck : E → (ts rest : List Token) → either_at first r s ts ≡ Err rest → BeginsText (either R S) ts rest
  either_stuck e ts rest h =
      elim (chosen (begins first ts) (r ts) (s ts) (stop rest) h) [
        | inl (is, k) ↦ in_begins {R = R} {S = either R S} (λ x ms p. inl p) (left.stuck e ts rest k)
        | inr (is, k) ↦ in_begins {R = S} {S = either R S} (λ x ms p. inr p) (right.stuck e ts rest k)
      ]

  either_same_ok : E → (p q : List Token) (t : Token) (us vs : List Token) (x : X) → either_at first r s (p ++ t ∷ us) ≡ Ok (x, q ++ t ∷ us) → either_at first r s (p ++ t ∷ vs) ≡ Ok (x, q ++ t ∷ vs)
  either_same_ok e p q t us vs x h =
      elim (chosen (begins first (p ++ t ∷ us)) (r (p ++ t ∷ us)) (s (p ++ t ∷ us)) (went x (q ++ t ∷ us)) h) [
        | inl (is, k) ↦ ap (λ (b : Bool). cond b (r (p ++ t ∷ vs)) (s (p ++ t ∷ vs))) (same_head first p t vs us ∙ is) ∙ left.same_ok e p q t us vs x k
        | inr (is, k) ↦ ap (λ (b : Bool). cond b (r (p ++ t ∷ vs)) (s (p ++ t ∷ vs))) (same_head first p t vs us ∙ is) ∙ right.same_ok e p q t us vs x k
      ]

  either_same_err : E → (p q : List Token) (t : Token) (us vs : List Token) → either_at first r s (p ++ t ∷ us) ≡ Err (q ++ t ∷ us) → either_at first r s (p ++ t ∷ vs) ≡ Err (q ++ t ∷ vs)
  either_same_err e p q t us vs h =
      elim (chosen (begins first (p ++ t ∷ us)) (r (p ++ t ∷ us)) (s (p ++ t ∷ us)) (stop (q ++ t ∷ us)) h) [
        | inl (is, k) ↦ ap (λ (b : Bool). cond b (r (p ++ t ∷ vs)) (s (p ++ t ∷ vs))) (same_head first p t vs us ∙ is) ∙ left.same_err e p q t us vs k
        | inr (is, k) ↦ ap (λ (b : Bool). cond b (r (p ++ t ∷ vs)) (s (p ++ t ∷ vs))) (same_head first p t vs us ∙ is) ∙ right.same_err e p q t us vs k
      ]

  pub either_reader : IsReader E (either R S) go (either_at first r s)
  either_reader = record {
    reads = either_reads;
    found = either_found;
    stuck = either_stuck;
    same_ok = either_same_ok;
    same_err = either_same_err;
    some = λ e. let a = right.some e in (a.0, a.1, inr a.2);
  }

-- ---- nothing, and where nothing is within the limits

pub nothing_reader : {X : Type 0} (E : Type 0) (x : X) (go : Token → Bool) → IsReader E (nothing x) go (nothing_at x)
nothing_reader {X} E x go = record {
  reads = λ y ms rest p stops. let e : went x (without_marks ms ++ rest) ≡ went y rest = rw (p.0, p.1) refl in e ∙ ap (λ (l : List TokenMark). answer_after l rest (y, rest)) (sym p.1);
  found = λ e ts y rest h. let w = went_is x y ts rest h in record { marks = []; parts = w.1; within = tt; spells = (w.0, refl) };
  stuck = λ e ts rest h. absurd (not_both x ts rest h);
  same_ok = λ e p q t us vs y h. let w = went_is x y (p ++ t ∷ us) (q ++ t ∷ us) h in let same = cancel_right p q (t ∷ us) w.1 in rw (w.0, same) refl;
  same_err = λ e p q t us vs h. absurd (not_both x (p ++ t ∷ us) (q ++ t ∷ us) h);
  some = λ e. (x, [], (refl, refl));
}

-- every spelling begins with a token past the limits
abbrev pub PastLimits : {X : Type 0} → Rule X → (Token → Bool) → Type 0
PastLimits {X} R first = (x : X) (ms : List TokenMark) → R x ms → (t : Token) × (more : List TokenMark) × (ms ≡ (t, false) ∷ more) × (first t ≡ true)

pub refused_reader : {X : Type 0} (E : Type 0) (R : Rule X) (first go : Token → Bool) → PastLimits R first → (E → (x : X) × (ms : List TokenMark) × R x ms) → IsReader E R go refused_at
refused_reader {X} E R first go past some = record {
  reads = λ x ms rest p stops. let a = past x ms p in let e : stop {X = X} (without_marks ms ++ rest) ≡ answer_after ms rest (x, rest) = rw (a.2) refl in e;
  found = λ e ts y rest h. absurd (not_both y rest ts (sym h));
  stuck = λ e ts rest h. let a = some e in record { marks = []; parts = stop_is {X = X} ts rest h; within = tt; thing = a.0; more = a.1; spells = a.2 };
  same_ok = λ e p q t us vs y h. absurd (not_both y (q ++ t ∷ us) (p ++ t ∷ us) (sym h));
  same_err = λ e p q t us vs h. let same = cancel_right p q (t ∷ us) (stop_is {X = X} (p ++ t ∷ us) (q ++ t ∷ us) h) in rw same refl;
  some = some;
}

-- ---- a row of links

module _ {X : Type 0} {E : Type 0} {stay : Token → Bool} {r : Reader X} (link : Bool → Rule X) (first go : Token → Bool) (linked : IsReader E (link true) stay r)
    (heads : (room : Bool) → Heads (link room) first) (past : PastLimits (link false) first)
    (apart : Apart first stay) (covers_first : Covers go first) (covers_stay : Covers go stay) where
  pub links_next : (left : ℕ) (xs : List X) (ms : List TokenMark) (rest : List Token) → links link left xs ms → begins go rest ≡ false → begins stay (without_marks ms ++ rest) ≡ false
  links_next left [] ms rest is stops = rw is (begins_covers go stay rest covers_stay stops)
  links_next zero (x ∷ xs) ms rest (a, b, is, p, q) stops =
      begins_apart first stay (without_marks ms ++ rest) apart (begins_more first (without_marks ms) rest (rw (is, plain_append a b) (begins_more first (without_marks a) (without_marks b) (heads false x a p))))
  links_next (suc left) (x ∷ xs) ms rest (a, b, is, p, q) stops =
      begins_apart first stay (without_marks ms ++ rest) apart (begins_more first (without_marks ms) rest (rw (is, plain_append a b) (begins_more first (without_marks a) (without_marks b) (heads true x a p))))

  pub joined : X → List X × List Token → Answer (List X)
  joined x z = went (x ∷ z.0) z.1

  links_reads : (left : ℕ) (xs : List X) (ms : List TokenMark) (rest : List Token) → links link left xs ms → begins go rest ≡ false → links_at first r left (without_marks ms ++ rest) ≡ answer_after ms rest (xs, rest)
  unfolding joined
  links_reads zero [] ms rest is stops = rw (is, begins_covers go first rest covers_first stops) refl
  links_reads (suc left) [] ms rest is stops = rw (is, begins_covers go first rest covers_first stops) refl
  links_reads zero (x ∷ xs) ms rest (a, b, is, p, q) stops =
      let k = past x a p in
      let e : ms ≡ (k.0, false) ∷ (k.1 ++ b) = is ∙ ap (λ (l : List TokenMark). l ++ b) k.2 in
      rw (e, k.3) refl
  links_reads (suc left) (x ∷ xs) ms rest (a, b, is, p, q) stops =
      let f : X × List Token → Answer (List X) = λ z. links_at first r left z.1 >>= joined z.0 in
      let e1 = linked.reads x a (without_marks b ++ rest) p (links_next left xs b rest q stops) in
      let e2 = links_reads left xs b rest q stops in
      let e3 : f (x, without_marks b ++ rest) ≡ answer_after b rest (x ∷ xs, rest) = ap (λ (z : Answer (List X)). z >>= joined x) e2 ∙ after_map b rest (joined x) (xs, rest) (x ∷ xs, rest) refl in
      let h : begins first (without_marks ms ++ rest) ≡ true = begins_more first (without_marks ms) rest (rw (is, plain_append a b) (begins_more first (without_marks a) (without_marks b) (heads true x a p))) in
      ap (λ (c : Bool). cond c (r (without_marks ms ++ rest) >>= f) (went [] (without_marks ms ++ rest))) h
      ∙ ap (λ (l : List TokenMark). r (without_marks l ++ rest) >>= f) is ∙ ap (λ (l : List Token). r l >>= f) (split_plain a b rest) ∙ ap (λ (z : Answer X). z >>= f) e1
      ∙ after_append a b rest f (x, without_marks b ++ rest) (x ∷ xs, rest) e3 ∙ ap (λ (l : List TokenMark). answer_after l rest (x ∷ xs, rest)) (sym is)

  pub next_of : ℕ → X × List Token → Answer (List X)
  next_of left z = links_at first r left z.1 >>= joined z.0

  links_found : E → (left : ℕ) (ts : List Token) (xs : List X) (rest : List Token) → links_at first r left ts ≡ Ok (xs, rest) → FoundTokens (links link left) ts xs rest
  unfolding joined next_of
  links_found e zero ts xs rest h =
      elim (chosen (begins first ts) (stop ts) (went [] ts) (went xs rest) h) [
        | inl (is, k) ↦ absurd (not_both xs rest ts (sym k))
        | inr (is, k) ↦ let w = went_is [] xs ts rest k in record { marks = []; parts = w.1; within = tt; spells = subst (λ (l : List X). links link zero l []) w.0 refl }
      ]
  links_found e (suc left) ts xs rest h =
      elim (chosen (begins first ts) (r ts >>= next_of left) (went [] ts) (went xs rest) h) [
        | inl (is, k) ↦
            let u = bind_ok (r ts) (next_of left) (xs, rest) k in
            let v = bind_ok (links_at first r left u.0.1) (joined u.0.0) (xs, rest) u.2 in
            let w = went_is (u.0.0 ∷ v.0.0) xs v.0.1 rest v.2 in
            let f = linked.found e ts u.0.0 u.0.1 u.1 in
            let g = links_found e left u.0.1 v.0.0 v.0.1 v.1 in
            record {
              marks = f.marks ++ g.marks;
              parts = f.parts ∙ ap (λ (l : List Token). without_marks f.marks ++ l) (g.parts ∙ ap (λ (l : List Token). without_marks g.marks ++ l) w.1) ∙ sym (split_plain f.marks g.marks rest);
              within = Within_append f.marks g.marks f.within g.within;
              spells = subst (λ (l : List X). links link (suc left) l (f.marks ++ g.marks)) w.0 (f.marks, g.marks, refl, f.spells, g.spells);
            }
        | inr (is, k) ↦ let w = went_is [] xs ts rest k in record { marks = []; parts = w.1; within = tt; spells = subst (λ (l : List X). links link (suc left) l []) w.0 refl }
      ]

  links_stuck : E → (left : ℕ) (ts rest : List Token) → links_at first r left ts ≡ Err rest → BeginsText (links link left) ts rest
  unfolding joined next_of
  links_stuck e zero ts rest h =
      elim (chosen (begins first ts) (stop ts) (went [] ts) (stop rest) h) [
        | inl (is, k) ↦ record { marks = []; parts = stop_is {X = List X} ts rest k; within = tt; thing = []; more = []; spells = refl }
        | inr (is, k) ↦ absurd (not_both [] ts rest k)
      ]
  links_stuck e (suc left) ts rest h =
      elim (chosen (begins first ts) (r ts >>= next_of left) (went [] ts) (stop rest) h) [
        | inl (is, k) ↦ elim (bind_err (r ts) (next_of left) rest k) [
          | inl err ↦ let b = linked.stuck e ts rest err in record {
            marks = b.marks;
            parts = b.parts;
            within = b.within;
            thing = b.thing ∷ [];
            more = b.more;
            spells = (b.marks ++ b.more, [], sym (append-nil (b.marks ++ b.more)), b.spells, refl);
          }
          | inr (z, ok, err) ↦ elim (bind_err (links_at first r left z.1) (joined z.0) rest err) [
            | inl err' ↦ let f = linked.found e ts z.0 z.1 ok in let b = links_stuck e left z.1 rest err' in record {
              marks = f.marks ++ b.marks;
              parts = f.parts ∙ ap (λ (l : List Token). without_marks f.marks ++ l) b.parts ∙ sym (split_plain f.marks b.marks rest);
              within = Within_append f.marks b.marks f.within b.within;
              thing = z.0 ∷ b.thing;
              more = b.more;
              spells = (f.marks, b.marks ++ b.more, append_assoc f.marks b.marks b.more, f.spells, b.spells);
            }
            | inr (y, ok', err') ↦ absurd (not_both (z.0 ∷ y.0) y.1 rest err')
          ]
        ]
        | inr (is, k) ↦ absurd (not_both [] ts rest k)
      ]

  links_same_ok : E → (left : ℕ) (p q : List Token) (t : Token) (us vs : List Token) (xs : List X) → links_at first r left (p ++ t ∷ us) ≡ Ok (xs, q ++ t ∷ us) → links_at first r left (p ++ t ∷ vs) ≡ Ok (xs, q ++ t ∷ vs)
  unfolding joined next_of
  links_same_ok e zero p q t us vs xs h =
      elim (chosen (begins first (p ++ t ∷ us)) (stop (p ++ t ∷ us)) (went [] (p ++ t ∷ us)) (went xs (q ++ t ∷ us)) h) [
        | inl (is, k) ↦ absurd (not_both xs (q ++ t ∷ us) (p ++ t ∷ us) (sym k))
        | inr (is, k) ↦ let w = went_is [] xs (p ++ t ∷ us) (q ++ t ∷ us) k in
            ap (λ (c : Bool). cond c (stop (p ++ t ∷ vs)) (went [] (p ++ t ∷ vs))) (same_head first p t vs us ∙ is) ∙ ap (λ (l : List X). went l (p ++ t ∷ vs)) w.0 ∙ ap (λ (l : List Token). went xs (l ++ t ∷ vs)) (cancel_right p q (t ∷ us) w.1)
      ]
  links_same_ok e (suc left) p q t us vs xs h =
      elim (chosen (begins first (p ++ t ∷ us)) (r (p ++ t ∷ us) >>= next_of left) (went [] (p ++ t ∷ us)) (went xs (q ++ t ∷ us)) h) [
        | inl (is, k) ↦
            let u = bind_ok (r (p ++ t ∷ us)) (next_of left) (xs, q ++ t ∷ us) k in
            let v = bind_ok (links_at first r left u.0.1) (joined u.0.0) (xs, q ++ t ∷ us) u.2 in
            let w = went_is (u.0.0 ∷ v.0.0) xs v.0.1 (q ++ t ∷ us) v.2 in
            let g = links_found e left u.0.1 v.0.0 v.0.1 v.1 in
            let m = without_marks g.marks ++ q in
            let mid : u.0.1 ≡ m ++ t ∷ us = g.parts ∙ ap (λ (l : List Token). without_marks g.marks ++ l) w.1 ∙ sym (append_assoc (without_marks g.marks) q (t ∷ us)) in
            let one = linked.same_ok e p m t us vs u.0.0 (u.1 ∙ ap (λ (l : List Token). went u.0.0 l) mid) in
            let two = links_same_ok e left m q t us vs v.0.0 (ap (links_at first r left) (sym mid) ∙ v.1 ∙ ap (λ (l : List Token). went v.0.0 l) w.1) in
            ap (λ (c : Bool). cond c (r (p ++ t ∷ vs) >>= next_of left) (went [] (p ++ t ∷ vs))) (same_head first p t vs us ∙ is)
            ∙ ap (λ (z : Answer X). z >>= next_of left) one ∙ ap (λ (z : Answer (List X)). z >>= joined u.0.0) two ∙ ap (λ (z : List X). went z (q ++ t ∷ vs)) w.0
        | inr (is, k) ↦ let w = went_is [] xs (p ++ t ∷ us) (q ++ t ∷ us) k in
            ap (λ (c : Bool). cond c (r (p ++ t ∷ vs) >>= next_of left) (went [] (p ++ t ∷ vs))) (same_head first p t vs us ∙ is) ∙ ap (λ (l : List X). went l (p ++ t ∷ vs)) w.0 ∙ ap (λ (l : List Token). went xs (l ++ t ∷ vs)) (cancel_right p q (t ∷ us) w.1)
      ]

  links_same_err : E → (left : ℕ) (p q : List Token) (t : Token) (us vs : List Token) → links_at first r left (p ++ t ∷ us) ≡ Err (q ++ t ∷ us) → links_at first r left (p ++ t ∷ vs) ≡ Err (q ++ t ∷ vs)
  unfolding joined next_of
  links_same_err e zero p q t us vs h =
      elim (chosen (begins first (p ++ t ∷ us)) (stop (p ++ t ∷ us)) (went [] (p ++ t ∷ us)) (stop (q ++ t ∷ us)) h) [
        | inl (is, k) ↦ ap (λ (c : Bool). cond c (stop {X = List X} (p ++ t ∷ vs)) (went [] (p ++ t ∷ vs))) (same_head first p t vs us ∙ is) ∙ ap (λ (l : List Token). stop {X = List X} (l ++ t ∷ vs)) (cancel_right p q (t ∷ us) (stop_is {X = List X} (p ++ t ∷ us) (q ++ t ∷ us) k))
        | inr (is, k) ↦ absurd (not_both [] (p ++ t ∷ us) (q ++ t ∷ us) k)
      ]
  links_same_err e (suc left) p q t us vs h =
      elim (chosen (begins first (p ++ t ∷ us)) (r (p ++ t ∷ us) >>= next_of left) (went [] (p ++ t ∷ us)) (stop (q ++ t ∷ us)) h) [
        | inl (is, k) ↦ ap (λ (c : Bool). cond c (r (p ++ t ∷ vs) >>= next_of left) (went [] (p ++ t ∷ vs))) (same_head first p t vs us ∙ is) ∙
            elim (bind_err (r (p ++ t ∷ us)) (next_of left) (q ++ t ∷ us) k) [
              | inl err ↦ ap (λ (z : Answer X). z >>= next_of left) (linked.same_err e p q t us vs err)
              | inr (u, ok, err) ↦ elim (bind_err (links_at first r left u.1) (joined u.0) (q ++ t ∷ us) err) [
                | inl err' ↦ let b = links_stuck e left u.1 (q ++ t ∷ us) err' in
                    let m = without_marks b.marks ++ q in
                    let mid : u.1 ≡ m ++ t ∷ us = b.parts ∙ sym (append_assoc (without_marks b.marks) q (t ∷ us)) in
                    let one = linked.same_ok e p m t us vs u.0 (ok ∙ ap (λ (l : List Token). went u.0 l) mid) in
                    let two = links_same_err e left m q t us vs (ap (links_at first r left) (sym mid) ∙ err') in
                    ap (λ (z : Answer X). z >>= next_of left) one ∙ ap (λ (z : Answer (List X)). z >>= joined u.0) two
                | inr (y, ok', err') ↦ absurd (not_both (u.0 ∷ y.0) y.1 (q ++ t ∷ us) err')
              ]
            ]
        | inr (is, k) ↦ absurd (not_both [] (p ++ t ∷ us) (q ++ t ∷ us) k)
      ]

  pub links_reader : (left : ℕ) → IsReader E (links link left) go (links_at first r left)
  links_reader left = record {
    reads = links_reads left;
    found = λ e. links_found e left;
    stuck = λ e. links_stuck e left;
    same_ok = λ e. links_same_ok e left;
    same_err = λ e. links_same_err e left;
    some = λ e. ([], [], refl);
  }

-- ---- a row without a limit

abbrev always : {X : Type 0} → Rule X → Bool → Rule X
always R room x ms = (room ≡ true) × R x ms

module _ {X : Type 0} {E : Type 0} {stay : Token → Bool} {R : Rule X} {r : Reader X} (first go : Token → Bool) (item : IsReader E R stay r)
    (heads : Heads R first) (apart : Apart first stay) (covers_first : Covers go first) (covers_stay : Covers go stay) where
  item' : IsReader E (always R true) stay r
  item' = record {
    reads = λ x ms rest p stops. item.reads x ms rest p.1 stops;
    found = λ e ts x rest h. in_found {R = R} {S = always R true} (λ ms p. (refl, p)) (item.found e ts x rest h);
    stuck = λ e ts rest h. in_begins {R = R} {S = always R true} (λ x ms p. (refl, p)) (item.stuck e ts rest h);
    same_ok = item.same_ok;
    same_err = item.same_err;
    some = λ e. let a = item.some e in (a.0, a.1, (refl, a.2));
  }

  heads' : (room : Bool) → Heads (always R room) first
  heads' room x ms (is, p) = heads x ms p

  past' : PastLimits (always R false) first
  past' x ms (is, p) = absurd cc

  in_links : (left : ℕ) (xs : List X) (ms : List TokenMark) → length xs ≤ left → many R xs ms → links (always R) left xs ms
  in_links left [] ms le p = p
  in_links zero (x ∷ xs) ms le p = absurd (omega (arith, le))
  in_links (suc left) (x ∷ xs) ms le (a, b, is, p, q) = (a, b, is, (refl, p), in_links left xs b (omega (arith, le)) q)

  out_links : (left : ℕ) (xs : List X) (ms : List TokenMark) → links (always R) left xs ms → many R xs ms
  out_links left [] ms p = p
  out_links zero (x ∷ xs) ms (a, b, is, p, q) = absurd (let e : false ≡ true = p.0 in cc)
  out_links (suc left) (x ∷ xs) ms (a, b, is, p, q) = (a, b, is, p.1, out_links left xs b q)

  taken : (ms : List TokenMark) → begins first (without_marks ms) ≡ true → 0 < length (without_marks ms)
  taken [] e = absurd cc
  taken (m ∷ ms) e = omega arith

  many_short : (xs : List X) (ms : List TokenMark) → many R xs ms → length xs ≤ length (without_marks ms)
  many_short [] ms p = omega arith
  many_short (x ∷ xs) ms (a, b, is, p, q) =
      let h = taken a (heads x a p) in
      let k = many_short xs b q in
      let n : length (without_marks ms) ≡ length (without_marks a) + length (without_marks b) = rw (is, plain_append a b, length-append (without_marks a) (without_marks b)) refl in
      omega (arith, h, k, n)

  shorter : E → (ts rest : List Token) (x : X) → r ts ≡ Ok (x, rest) → length rest < length ts
  shorter e ts rest x h =
      let f = item.found e ts x rest h in
      let n : length ts ≡ length (without_marks f.marks) + length rest = ap length f.parts ∙ length-append (without_marks f.marks) rest in
      let k = taken f.marks (heads x f.marks f.spells) in
      omega (arith, n, k)

  empty_short : (n : ℕ) (ts : List Token) → length ts ≤ n → n ≡ 0 → begins first ts ≡ false
  empty_short n [] le is = refl
  empty_short n (t ∷ ts) le is = absurd (omega (arith, le, is))

  one_more : E → (j k : ℕ) (ts : List Token) (a : Answer X) → ((us : List Token) → length us ≤ j → length us ≤ k → links_at first r j us ≡ links_at first r k us) → r ts ≡ a → length ts ≤ suc j → length ts ≤ suc k → (a >>= λ x. links_at first r j x.1 >>= λ xs. went (x.0 ∷ xs.0) xs.1) ≡ (a >>= λ x. links_at first r k x.1 >>= λ xs. went (x.0 ∷ xs.0) xs.1)
  one_more e j k ts (Err b) ih is p q = refl
  one_more e j k ts (Ok x) ih is p q =
      let lt = shorter e ts x.1 x.0 is in
      let le : length x.1 ≤ j = omega (arith, lt, p) in let le' : length x.1 ≤ k = omega (arith, lt, q) in
      ap (λ (z : Answer (List X)). z >>= λ xs. went (x.0 ∷ xs.0) xs.1) (ih x.1 le le')

  enough : E → (j k : ℕ) (ts : List Token) → length ts ≤ j → length ts ≤ k → links_at first r j ts ≡ links_at first r k ts
  enough e zero zero ts p q = refl
  enough e zero (suc k) ts p q = rw (empty_short 0 ts p refl) refl
  enough e (suc j) zero ts p q = rw (empty_short 0 ts q refl) refl
  enough e (suc j) (suc k) ts p q =
      ap (λ (z : Answer (List X)). cond (begins first ts) z (went [] ts)) (one_more e j k ts (r ts) (enough e j k) refl p q)

  row : (left : ℕ) → IsReader E (links (always R) left) go (links_at first r left)
  row = links_reader (always R) first go item' heads' past' apart covers_first covers_stay

  longest : List Token → List Token → Token → List Token → ℕ
  longest p us t vs = length (p ++ t ∷ us) + length (p ++ t ∷ vs)

  pub many_reader : IsReader E (many R) go (many_read first r)
  unfolding longest
  many_reader = record {
    reads = λ xs ms rest p stops.
        let n : length xs ≤ length (without_marks ms ++ rest) = omega (arith, many_short xs ms p, length-append (without_marks ms) rest) in
        (row (length (without_marks ms ++ rest))).reads xs ms rest (in_links (length (without_marks ms ++ rest)) xs ms n p) stops;
    found = λ e ts xs rest h. in_found {R = links (always R) (length ts)} {S = many R} (out_links (length ts) xs) ((row (length ts)).found e ts xs rest h);
    stuck = λ e ts rest h. in_begins {R = links (always R) (length ts)} {S = many R} (out_links (length ts)) ((row (length ts)).stuck e ts rest h);
    same_ok = λ e p q t us vs xs h.
        let n = longest p us t vs in
        let up = enough e n (length (p ++ t ∷ us)) (p ++ t ∷ us) (omega arith) (omega arith) in
        let down = enough e n (length (p ++ t ∷ vs)) (p ++ t ∷ vs) (omega arith) (omega arith) in
        sym down ∙ (row n).same_ok e p q t us vs xs (up ∙ h);
    same_err = λ e p q t us vs h.
        let n = longest p us t vs in
        let up = enough e n (length (p ++ t ∷ us)) (p ++ t ∷ us) (omega arith) (omega arith) in
        let down = enough e n (length (p ++ t ∷ vs)) (p ++ t ∷ vs) (omega arith) (omega arith) in
        sym down ∙ (row n).same_err e p q t us vs (up ∙ h);
    some = λ e. ([], [], refl);
  }

  pub many_next : (xs : List X) (ms : List TokenMark) (rest : List Token) → many R xs ms → begins go rest ≡ false → begins stay (without_marks ms ++ rest) ≡ false
  many_next xs ms rest p stops = links_next (always R) first go item' heads' past' apart covers_first covers_stay (length xs) xs ms rest (in_links (length xs) xs ms (omega arith) p) stops
