-- A whole text is read exactly where it is one, and refused at the first token with which none can go on.
use Rattle.std.proofs.Common.{◌≡◌, ℕ, zero, suc, ◌+◌, ◌<◌, ◌≤◌, Bool, true, false, cond, List, [], ◌∷◌, ◌++◌, length, refl, sym, ap, subst, ◌∙◌, append_assoc, arith, inl, inr, rules}
use Rattle.std.specs.Prelude.{Result, Ok, Err, ◌⊎◌}
use Rattle.std.proofs.lemmas.List.{append-nil, length-append}
use Rattle.cs_lang_token.specs.declared.token.Token.{Token}
use Rattle.cs_lang_token.specs.Grammar.{TokenMark, without_marks, Within, Rule, Reader, ◌>>=◌, begins, answer_after, FoundTokens, BeginsText, IsReader}
use Rattle.cs_lang_token.specs.Texts.{IsText, CanBegin, IsNoText, all_or_bad, all_at}
use Rattle.cs_lang_token.proofs.Grammars.{Answer, went, stop, went_is, stop_is, not_both, bind_ok, bind_err, plain_append, split_plain, cancel_right}

after_within : {A : Type 0} (a b : List TokenMark) (rest : List Token) (x : A) → Within a → answer_after (a ++ b) rest x ≡ answer_after b rest x
after_within [] b rest x w = refl
after_within ((t, true) ∷ a) b rest x w = after_within a b rest x w.1
after_within ((t, false) ∷ a) b rest x w = absurd (let e : false ≡ true = w.0 in cc)

after_all : {A : Type 0} (a : List TokenMark) (rest : List Token) (x : A) → Within a → answer_after a rest x ≡ Ok x
after_all [] rest x w = refl
after_all ((t, true) ∷ a) rest x w = after_all a rest x w.1
after_all ((t, false) ∷ a) rest x w = absurd (let e : false ≡ true = w.0 in cc)

abbrev Ends : {X : Type 0} → List TokenMark → X → Type 0
Ends {X} b x = (answer_after b [] (x, []) ≡ went x []) ⊎ ((bad : List Token) × (answer_after b [] (x, []) ≡ stop {X = X} bad) × (length bad ≤ length (without_marks b)))

after_ends : {X : Type 0} (b : List TokenMark) (x : X) → Ends b x
after_ends [] x = inl refl
after_ends ((t, true) ∷ b) x =
    elim (after_ends b x) [
      | inl e ↦ inl e
      | inr (bad, e, le) ↦ inr (bad, e, omega (arith, le))
    ]
after_ends ((t, false) ∷ b) x = inr (t ∷ (without_marks b ++ []), refl, (let n = append-nil (without_marks b) in omega (arith, ap length n)))

module _ {X : Type 0} (Spells : ℕ → Rule X) (least : ℕ) (go : Token → Bool) (r : Reader X) (law : (n : ℕ) → IsReader (least ≤ n) (Spells n) go r) where
  here : IsReader (least ≤ least) (Spells least) go r
  here = law least

  same : least ≤ least
  same = omega arith

  -- what reading says of a beginning
  begun : (p : List Token) (c : CanBegin Spells p) → Ends c.more c.thing × (r (p ++ without_marks c.more) ≡ answer_after c.more [] (c.thing, []))
  begun p c =
      let e1 = (law c.depth).reads c.thing (c.marks ++ c.more) [] c.spells refl in
      let e2 : p ++ without_marks c.more ≡ without_marks (c.marks ++ c.more) ++ [] = ap (λ (l : List Token). l ++ without_marks c.more) (sym c.tokens) ∙ sym (plain_append c.marks c.more) ∙ sym (append-nil (without_marks (c.marks ++ c.more))) in
      (after_ends c.more c.thing, ap r e2 ∙ e1 ∙ after_within c.marks c.more [] (c.thing, []) c.within)

  pub text_read : (x : X) (ts : List Token) → IsText Spells x ts → all_at r ts ≡ Ok x
  text_read x ts t =
      let e1 = (law t.depth).reads x t.marks [] t.spells refl in
      let e2 : ts ≡ without_marks t.marks ++ [] = sym t.tokens ∙ sym (append-nil (without_marks t.marks)) in
      ap (λ (a : Answer X). a >>= all_or_bad) (ap r e2 ∙ e1 ∙ after_all t.marks [] (x, []) t.within)

  all_ok : (x : X) (rest : List Token) (y : X) → all_or_bad (x, rest) ≡ Ok y → (x ≡ y) × (rest ≡ [])
  all_ok x [] y e = (let p : x ≡ y = cc in p, refl)
  all_ok x (t ∷ ts) y e = absurd cc

  pub read_text : (x : X) (ts : List Token) → all_at r ts ≡ Ok x → IsText Spells x ts
  read_text x ts h =
      let u = bind_ok (r ts) all_or_bad x h in
      let w = all_ok u.0.0 u.0.1 x u.2 in
      let f = here.found same ts u.0.0 u.0.1 u.1 in
      record {
        depth = least;
        marks = f.marks;
        spells = subst (λ (z : X). Spells least z f.marks) w.0 f.spells;
        tokens = sym (f.parts ∙ ap (λ (l : List Token). without_marks f.marks ++ l) w.1 ∙ append-nil (without_marks f.marks));
        within = f.within;
      }

  not_text : (bad ts : List Token) → all_at r ts ≡ Err bad → (x : X) → IsText Spells x ts → ⊥
  not_text bad ts h x t = let a = text_read x ts t in let e : all_at r ts ≡ Ok x = a in absurd cc

  shift : (p more : List Token) (t : Token) → (p ++ t ∷ []) ++ more ≡ p ++ t ∷ more
  shift p more t = append_assoc p (t ∷ []) more

  -- a beginning that takes the bad token in leads the reader past it
  no_err : (p us : List Token) (t : Token) → r (p ++ t ∷ us) ≡ Err (t ∷ us) → CanBegin Spells (p ++ t ∷ []) → ⊥
  no_err p us t h c =
      let b = begun (p ++ t ∷ []) c in
      let e : r (p ++ t ∷ without_marks c.more) ≡ stop (t ∷ without_marks c.more) = here.same_err same p [] t us (without_marks c.more) h in
      let f : stop (t ∷ without_marks c.more) ≡ answer_after c.more [] (c.thing, []) = sym e ∙ ap r (sym (shift p (without_marks c.more) t)) ∙ b.1 in
      elim b.0 [
        | inl g ↦ absurd (not_both c.thing [] (t ∷ without_marks c.more) (sym (f ∙ g)))
        | inr (bad, g, le) ↦ absurd (let n : length (t ∷ without_marks c.more) ≡ length bad = ap length (stop_is {X = X} (t ∷ without_marks c.more) bad (f ∙ g)) in omega (arith, n, le))
      ]

  no_ok : (p us : List Token) (t : Token) (x : X) → r (p ++ t ∷ us) ≡ Ok (x, t ∷ us) → CanBegin Spells (p ++ t ∷ []) → ⊥
  no_ok p us t x h c =
      let b = begun (p ++ t ∷ []) c in
      let e : r (p ++ t ∷ without_marks c.more) ≡ went x (t ∷ without_marks c.more) = here.same_ok same p [] t us (without_marks c.more) x h in
      let f : went x (t ∷ without_marks c.more) ≡ answer_after c.more [] (c.thing, []) = sym e ∙ ap r (sym (shift p (without_marks c.more) t)) ∙ b.1 in
      elim b.0 [
        | inl g ↦ absurd (let n : length (t ∷ without_marks c.more) ≡ 0 = ap length (went_is x c.thing (t ∷ without_marks c.more) [] (f ∙ g)).1 in omega (arith, n))
        | inr (bad, g, le) ↦ absurd (not_both x (t ∷ without_marks c.more) bad (f ∙ g))
      ]

  all_err : (x : X) (rest bad : List Token) → all_or_bad (x, rest) ≡ Err bad → rest ≡ bad
  all_err x [] bad e = absurd cc
  all_err x (t ∷ ts) bad e = cc

  pub read_refused : (ts bad : List Token) → all_at r ts ≡ Err bad → IsNoText Spells ts bad
  read_refused ts bad h =
      elim (bind_err (r ts) all_or_bad bad h) [
        | inl err ↦ let b = here.stuck same ts bad err in record {
          before = without_marks b.marks;
          parts = b.parts;
          can = record { depth = least; thing = b.thing; marks = b.marks; more = b.more; spells = b.spells; tokens = refl; within = b.within };
          cannot = λ t us is. no_err (without_marks b.marks) us t (ap r (sym (b.parts ∙ ap (λ (l : List Token). without_marks b.marks ++ l) is)) ∙ err ∙ ap (λ (l : List Token). stop {X = X} l) is);
          none = not_text bad ts h;
        }
        | inr (z, ok, err) ↦ let f = here.found same ts z.0 z.1 ok in let rest_is = all_err z.0 z.1 bad err in
            let parts : ts ≡ without_marks f.marks ++ bad = f.parts ∙ ap (λ (l : List Token). without_marks f.marks ++ l) rest_is in record {
              before = without_marks f.marks;
              parts = parts;
              can = record { depth = least; thing = z.0; marks = f.marks; more = []; spells = subst (λ (l : List TokenMark). Spells least z.0 l) (sym (append-nil f.marks)) f.spells; tokens = refl; within = f.within };
              cannot = λ t us is. no_ok (without_marks f.marks) us t z.0 (ap r (sym (parts ∙ ap (λ (l : List Token). without_marks f.marks ++ l) is)) ∙ ok ∙ ap (λ (l : List Token). went z.0 l) (rest_is ∙ is));
              none = not_text bad ts h;
            }
      ]
