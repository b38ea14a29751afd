-- What holds of the things that texts spell, from what holds of their tokens.
use Rattle.std.proofs.Common.{◌≡◌, ℕ, zero, suc, ◌≤◌, Bool, true, false, List, [], ◌∷◌, ◌++◌, length, subst, arith, inl, inr}
use Rattle.std.proofs.lemmas.List.{length-append}
use Rattle.cs_lang_token.specs.declared.token.Token.{Token}
use Rattle.cs_lang_token.specs.declared.token.Text.{Text}
use Rattle.cs_lang_token.specs.declared.token.Number.{Number}
use Rattle.cs_lang_token.specs.declared.kind.Kind.{Kind}
use Rattle.cs_lang_token.specs.declared.kind.Kind.TheVariants as kind
use Rattle.cs_lang_token.specs.Kinds.{is}
use Rattle.cs_lang_token.specs.Grammar.{TokenMark, Within, Rule, pair, mapped, either, nothing, many, links}
use Rattle.cs_lang_token.specs.Rules.{sign, name, bytes, number, joined_left, item_behind, first_and_rest, commas}
use Rattle.cs_lang_token.proofs.Spans.{IsWord, AllBytes}

-- what holds of each token of a text
pub record IsToken (t : Token) : Type 0 where
  pub named : is (kind.Name ∷ []) t ≡ true → IsWord t.bytes kind.Name
  pub numbered : is (kind.Number ∷ []) t ≡ true → t.number ≤ 9223372036854775807
  pub quoted : is (kind.Bytes ∷ []) t ≡ true → AllBytes t.bytes × (length t.bytes ≤ 256)

abbrev pub Fine : List TokenMark → Type 0
Fine [] = Unit {0}
Fine (m ∷ ms) = IsToken m.0 × Fine ms

pub record Gives {X : Type 0} (R : Rule X) (P : X → Type 0) : Type 0 where
  pub give : (x : X) (ms : List TokenMark) → R x ms → Within ms → Fine ms → P x

within_parts : (a b : List TokenMark) → Within (a ++ b) → Within a × Within b
within_parts [] b w = (tt, w)
within_parts (m ∷ a) b w = let h = within_parts a b w.1 in ((w.0, h.0), h.1)

fine_parts : (a b : List TokenMark) → Fine (a ++ b) → Fine a × Fine b
fine_parts [] b w = (tt, w)
fine_parts (m ∷ a) b w = let h = fine_parts a b w.1 in ((w.0, h.0), h.1)

pub gives_mapped : {X Y : Type 0} {R : Rule X} {P : X → Type 0} (Q : Y → Type 0) (f : X → Y) → Gives R P → ((x : X) → P x → Q (f x)) → Gives (mapped f R) Q
gives_mapped Q f g step = record {
  give = λ y ms p w t. subst Q p.1 (step p.0 (g.give p.0 ms p.2 w t));
}

pub gives_pair : {X Y : Type 0} {R : Rule X} {S : Rule Y} {P : X → Type 0} {Q : Y → Type 0} → Gives R P → Gives S Q → Gives (pair R S) (λ p. P p.0 × Q p.1)
gives_pair g h = record {
  give = λ x ms p w t.
      let ws = within_parts p.0 p.1 (subst Within p.2 w) in
      let ts = fine_parts p.0 p.1 (subst Fine p.2 t) in
      (g.give x.0 p.0 p.3 ws.0 ts.0, h.give x.1 p.1 p.4 ws.1 ts.1);
}

pub gives_either : {X : Type 0} {R S : Rule X} {P : X → Type 0} → Gives R P → Gives S P → Gives (either R S) P
gives_either {X} {R} {S} {P} g h = record { give = one } where
  one : (x : X) (ms : List TokenMark) → either R S x ms → Within ms → Fine ms → P x
  one x ms (inl p) w t = g.give x ms p w t
  one x ms (inr p) w t = h.give x ms p w t

pub gives_nothing : {X : Type 0} {P : X → Type 0} (x : X) → P x → Gives (nothing x) P
gives_nothing {X} {P} x p = record { give = λ y ms q w t. subst P q.0 p }

-- of everything in a list
abbrev pub Every : {X : Type 0} → (X → Type 0) → List X → Type 0
Every P [] = Unit {0}
Every P (x ∷ xs) = P x × Every P xs

pub gives_many : {X : Type 0} {R : Rule X} {P : X → Type 0} → Gives R P → Gives (many R) (Every P)
gives_many {X} {R} {P} g = record { give = all } where
  all : (xs : List X) (ms : List TokenMark) → many R xs ms → Within ms → Fine ms → Every P xs
  all [] ms p w t = tt
  all (x ∷ xs) ms (a, b, is', u, v) w t =
      let ws = within_parts a b (subst Within is' w) in
      let ts = fine_parts a b (subst Fine is' t) in
      (g.give x a u ws.0 ts.0, all xs b v ws.1 ts.1)

-- a link past the limits isn't within them
pub gives_links : {X : Type 0} (R : Bool → Rule X) {P : X → Type 0} (left : ℕ) → Gives (R true) P → Gives (R false) (λ x. ⊥) → Gives (links R left) (λ xs. Every P xs × (length xs ≤ left))
gives_links {X} R {P} left g never = record { give = all left } where
  all : (k : ℕ) (xs : List X) (ms : List TokenMark) → links R k xs ms → Within ms → Fine ms → Every P xs × (length xs ≤ k)
  all k [] ms p w t = (tt, omega arith)
  all zero (x ∷ xs) ms (a, b, is', u, v) w t =
      let ws = within_parts a b (subst Within is' w) in
      let ts = fine_parts a b (subst Fine is' t) in
      absurd (never.give x a u ws.0 ts.0)
  all (suc k) (x ∷ xs) ms (a, b, is', u, v) w t =
      let ws = within_parts a b (subst Within is' w) in
      let ts = fine_parts a b (subst Fine is' t) in
      let h = all k xs b v ws.1 ts.1 in
      let le = h.1 in
      ((g.give x a u ws.0 ts.0, h.0), omega arith)

pub gives_sign : (k : Kind) (room : Bool) → Gives (sign k room) (λ place. room ≡ true)
gives_sign k room = record { give = λ x ms p w t. (subst Within p.2.0 w).0 }

pub gives_name : Gives name (λ t. IsWord t.bytes kind.Name)
gives_name = record {
  give = λ x ms p w t. subst (λ (y : Text). IsWord y.bytes kind.Name) p.1 ((subst Fine p.2.0 t).0.named p.2.1);
}

pub gives_number : Gives number (λ n. n.value ≤ 9223372036854775807)
gives_number = record {
  give = λ x ms p w t. subst (λ (y : Number). y.value ≤ 9223372036854775807) p.1 ((subst Fine p.2.0 t).0.numbered p.2.1);
}

pub gives_bytes : Gives bytes (λ t. AllBytes t.bytes × (length t.bytes ≤ 256))
gives_bytes = record {
  give = λ x ms p w t. subst (λ (y : Text). AllBytes y.bytes × (length y.bytes ≤ 256)) p.1 ((subst Fine p.2.0 t).0.quoted p.2.1);
}

pub gives_weaker : {X : Type 0} {R : Rule X} {P : X → Type 0} (Q : X → Type 0) → ((x : X) → P x → Q x) → Gives R P → Gives R Q
gives_weaker Q step g = record { give = λ x ms p w t. step x (g.give x ms p w t) }

-- ---- rows

every_append : {X : Type 0} (P : X → Type 0) (xs ys : List X) → Every P xs → Every P ys → Every P (xs ++ ys)
every_append P [] ys p q = q
every_append P (x ∷ xs) ys p q = (p.0, every_append P xs ys p.1 q)

every_joined : {X : Type 0} (P : X → Type 0) (ps : List (ℕ × X)) (acc : List X) → Every P acc → Every (λ (p : ℕ × X). P p.1) ps → Every P (joined_left item_behind acc ps)
every_joined P [] acc a b = a
every_joined P (p ∷ ps) acc a b = every_joined P ps (acc ++ p.1 ∷ []) (every_append P acc (p.1 ∷ []) a (b.0, tt)) b.1

pub gives_commas : {X : Type 0} {R : Rule X} {P : X → Type 0} → Gives R P → Gives (commas R) (Every P)
gives_commas {X} {R} {P} g =
    gives_mapped {P = λ (p : X × List (ℕ × X)). P p.0 × Every (λ (q : ℕ × X). P q.1) p.1} (Every P) first_and_rest
    (gives_pair g (gives_many (gives_weaker {P = λ (q : ℕ × X). (true ≡ true) × P q.1} (λ (q : ℕ × X). P q.1) (λ q h. h.1) (gives_pair (gives_sign kind.Comma true) g))))
    (λ p h. every_joined P p.1 (p.0 ∷ []) (h.0, tt) h.1)

joined_length : {X : Type 0} (ps : List (ℕ × X)) (acc : List X) → length acc ≤ length (joined_left item_behind acc ps)
joined_length [] acc = omega arith
joined_length (p ∷ ps) acc = (let h = joined_length ps (acc ++ p.1 ∷ []) in let l = length-append acc (p.1 ∷ []) in omega arith)

-- and there is one at least
pub gives_row : {X : Type 0} {R : Rule X} {P : X → Type 0} → Gives R P → Gives (commas R) (λ xs. (1 ≤ length xs) × Every P xs)
gives_row {X} {R} {P} g =
    gives_mapped {P = λ (p : X × List (ℕ × X)). P p.0 × Every (λ (q : ℕ × X). P q.1) p.1} (λ (xs : List X). (1 ≤ length xs) × Every P xs) first_and_rest
    (gives_pair g (gives_many (gives_weaker {P = λ (q : ℕ × X). (true ≡ true) × P q.1} (λ (q : ℕ × X). P q.1) (λ q h. h.1) (gives_pair (gives_sign kind.Comma true) g))))
    (λ p h. (joined_length p.1 (p.0 ∷ []), every_joined P p.1 (p.0 ∷ []) (h.0, tt) h.1))
