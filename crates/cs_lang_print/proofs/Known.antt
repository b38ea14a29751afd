-- Expressions of which the text is read again.
use Rattle.std.proofs.Common.{◌≡◌, ℕ, zero, suc, ◌+◌, ◌<◌, ◌≤◌, Bool, true, false, max, List, [], ◌∷◌, ◌++◌, length, map, refl, sym, ap, subst, ◌∙◌, append_assoc, arith}
use Rattle.std.specs.Prelude.{◌/◌, nat_lt, if◌then◌else◌}
use Rattle.std.proofs.lemmas.List.{append-nil, length-append}
use Rattle.std.proofs.lemmas.Bool.Decides.{nat_tests}
use Rattle.cs_lang_token.specs.Grammar.{Rule, pair, mapped, links}
use Rattle.cs_lang_token.specs.Rules.{joined_left, joined_pair}
use Rattle.cs_lang.specs.declared.tree.Expr.{Expr}
use Rattle.cs_lang_print.specs.Spelling.{Spelled, parenthesized, held_together, run_text}
use Rattle.cs_lang_print.specs.Expressions.{spelled}
use Rattle.cs_lang_print.specs.Places.{bare_expr}
use Rattle.cs_lang_print.proofs.Says.{Says, says_same, says_text}
use Rattle.cs_lang_print.proofs.Rungs.{at8, rule_at, lift, says_around}
use Rattle.cs_lang_print.proofs.Runs.{Part, Low, item_of, part_text, deep, below_deep, deep_more, deep_few, run_says}
use Rattle.cs_lang_token.proofs.Gives.{Every}

-- the levels that it opens where it has to hold together so tightly
abbrev pub levels_within : ℕ → Expr → ℕ → ℕ
levels_within t e l = if nat_lt (spelled e).tightness t then suc l else l

-- Its text spells it by each rule that asks no more of it than it holds, where so many levels are left.
pub record Spelt (e : Expr) (l : ℕ) : Type 0 where
  pub says : (t n left : ℕ) → t ≤ (spelled e).tightness → l ≤ n → l ≤ left → Says bare_expr (rule_at t n left) e (spelled e).text

pub spelt_at : (e : Expr) (l t : ℕ) → (spelled e).tightness ≡ t → ((n left : ℕ) → l ≤ n → l ≤ left → Says bare_expr (rule_at t n left) e (spelled e).text) → Spelt e l
spelt_at e l t is says = record { says = λ k n left le a b. lift t k n left (omega (arith, is, le)) (says n left a b) }

pub opened : (P : ℕ → ℕ → Type 0) (l : ℕ) → ((n left : ℕ) → l ≤ n → l ≤ left → P (suc n) (suc left)) → (n left : ℕ) → suc l ≤ n → suc l ≤ left → P n left
opened P l f zero left a b = absurd (omega (arith, a))
opened P l f (suc n) zero a b = absurd (omega (arith, b))
opened P l f (suc n) (suc left) a b = f n left (omega (arith, a)) (omega (arith, b))

around : (e : Expr) (l : ℕ) → Spelt e l → (n left : ℕ) → suc l ≤ n → suc l ≤ left → Says bare_expr (at8 n left) e (parenthesized (spelled e).text)
around e l s = opened (λ n left. Says bare_expr (at8 n left) e (parenthesized (spelled e).text)) l (λ n left a b. says_around n left (s.says 0 n left (omega arith) a b))

not_less : (a t : ℕ) → nat_lt a t ≡ false → t ≤ a
not_less a t e = grind (arith, nat_tests)

pub says_within : (e : Expr) (l : ℕ) → Spelt e l → (t n left : ℕ) → t ≤ 8 → levels_within t e l ≤ n → levels_within t e l ≤ left → Says bare_expr (rule_at t n left) e (held_together t (spelled e))
says_within e l s t n left tight a b = go (nat_lt (spelled e).tightness t) refl a b
  where
    go : (c : Bool) → nat_lt (spelled e).tightness t ≡ c → (if c then suc l else l) ≤ n → (if c then suc l else l) ≤ left → Says bare_expr (rule_at t n left) e (if c then parenthesized (spelled e).text else (spelled e).text)
    go true is p q = lift 8 t n left tight (around e l s n left p q)
    go false is p q = s.says t n left (not_less (spelled e).tightness t is) p q

pub levels_most : (t : ℕ) (e : Expr) (l : ℕ) → levels_within t e l ≤ suc l
levels_most t e l = go (nat_lt (spelled e).tightness t)
  where
    go : (c : Bool) → (if c then suc l else l) ≤ suc l
    go true = omega arith
    go false = omega arith

pub levels_least : (t : ℕ) (e : Expr) (l : ℕ) → l ≤ levels_within t e l
levels_least t e l = go (nat_lt (spelled e).tightness t)
  where
    go : (c : Bool) → l ≤ (if c then suc l else l)
    go true = omega arith
    go false = omega arith

fails : (a t : ℕ) → t ≤ a → nat_lt a t ≡ false
fails a t le = grind (arith, nat_tests)

passes : (a t : ℕ) → a < t → nat_lt a t ≡ true
passes a t le = grind (arith, nat_tests)

pub levels_tight : (t : ℕ) (e : Expr) (l k : ℕ) → (spelled e).tightness ≡ k → t ≤ k → levels_within t e l ≡ l
levels_tight t e l k is le = ap (λ (c : Bool). if c then suc l else l) (fails (spelled e).tightness t (omega (arith, is, le)))

pub levels_loose : (t : ℕ) (e : Expr) (l k : ℕ) → (spelled e).tightness ≡ k → k < t → levels_within t e l ≡ suc l
levels_loose t e l k is lt = ap (λ (c : Bool). if c then suc l else l) (passes (spelled e).tightness t (omega (arith, is, lt)))

-- where less is asked no more levels are opened
pub levels_down : (t u : ℕ) (e : Expr) (l : ℕ) → t ≤ u → levels_within t e l ≤ levels_within u e l
levels_down t u e l le = go (nat_lt (spelled e).tightness t) (nat_lt (spelled e).tightness u) refl refl
  where
    go : (c d : Bool) → nat_lt (spelled e).tightness t ≡ c → nat_lt (spelled e).tightness u ≡ d → (if c then suc l else l) ≤ (if d then suc l else l)
    go true true p q = omega arith
    go false d p q = low d
      where
        low : (d : Bool) → l ≤ (if d then suc l else l)
        low true = omega arith
        low false = omega arith
    go true false p q = absurd (grind (arith, nat_tests))

map_append : {X Y : Type 0} (f : X → Y) (xs ys : List X) → map f (xs ++ ys) ≡ map f xs ++ map f ys
map_append f [] ys = refl
map_append f (x ∷ xs) ys = ap (λ l. f x ∷ l) (map_append f xs ys)

joined_last : {A X : Type 0} (f : A → X → A) (xs : List X) (e : A) (x : X) → joined_left f e (xs ++ x ∷ []) ≡ f (joined_left f e xs) x
joined_last f [] e x = refl
joined_last f (y ∷ xs) e x = joined_last f xs (f e y) x

-- a chain or a path: what it begins with, and its parts
pub record RunAt {X : Type 0} (f : Expr → X → Expr) (B : X → X) (moves : (e : Expr) (x : X) → bare_expr (f e x) ≡ f (bare_expr e) (B x)) (link : ℕ → ℕ → Bool → Rule X) (text : X → List ℕ) (w : ℕ) (Built : Expr → Expr → List (List ℕ) → Type 0) (e start : Expr) (v : ℕ) (first : Part B link text) (others : List (Part B link text)) : Type 0 where
  pub says : (n left : ℕ) → v ≤ n → v ≤ left → Says bare_expr (rule_at w n left) start (held_together w (spelled start))
  pub built : Built e start (map (part_text f B moves link text) (first ∷ others))
  pub same : bare_expr e ≡ bare_expr (joined_left f start (map (item_of f B moves link text) (first ∷ others)))

pub record Run {X : Type 0} (f : Expr → X → Expr) (B : X → X) (moves : (e : Expr) (x : X) → bare_expr (f e x) ≡ f (bare_expr e) (B x)) (link : ℕ → ℕ → Bool → Rule X) (text : X → List ℕ) (w : ℕ) (Built : Expr → Expr → List (List ℕ) → Type 0) (e : Expr) (l : ℕ) : Type 0 where
  pub start : Expr
  pub v : ℕ
  pub first : Part B link text
  pub others : List (Part B link text)
  pub at : RunAt f B moves link text w Built e start v first others
  pub level : l ≡ max (v + length others / 64) (deep f B moves link text (first ∷ others))

-- an item of a row that was read
abbrev pub IsItem : {X : Type 0} → (X → X) → (ℕ → ℕ → Bool → Rule X) → (X → List ℕ) → ℕ → X → Type 0
IsItem B link text left x = (k : ℕ) × (k ≤ left) × ((n rest : ℕ) → k ≤ n → k ≤ rest → Says B (link n rest true) x (text x))

module _ {X : Type 0} (f : Expr → X → Expr) (B : X → X) (moves : (e : Expr) (x : X) → bare_expr (f e x) ≡ f (bare_expr e) (B x)) (link : ℕ → ℕ → Bool → Rule X) (text : X → List ℕ)
    (u w : ℕ) (tight : w ≤ 8) (under : u < w) (folds : (e : Expr) (s : List ℕ) (n left : ℕ) → Says bare_expr (mapped (joined_pair f) (pair (rule_at w n left) (links (link n left) 64))) e s → Says bare_expr (rule_at u n left) e s)
    (Built : Expr → Expr → List (List ℕ) → Type 0)
    (built_add : (e s : Expr) (ts : List (List ℕ)) (x : X) → Built e s ts → Built (f e x) s (ts ++ text x ∷ []))
    (built_is : (e s : Expr) (ts : List (List ℕ)) → Built e s ts → spelled e ≡ record { tightness = u; text = run_text (held_together w (spelled s)) ts }) where
  abbrev At : Expr → Expr → ℕ → Part B link text → List (Part B link text) → Type 0
  At = RunAt f B moves link text w Built

  abbrev texts : List (Part B link text) → List (List ℕ)
  texts = map (part_text f B moves link text)

  abbrev items : List (Part B link text) → List X
  items = map (item_of f B moves link text)

  run_add : (e start : Expr) (v : ℕ) (first : Part B link text) (others : List (Part B link text)) → At e start v first others → (p : Part B link text) → At (f e p.item) start v first (others ++ p ∷ [])
  run_add e start v first others h p = record {
    says = h.says;
    built = subst (λ (ts : List (List ℕ)). Built (f e p.item) start ts) (sym (map_append (part_text f B moves link text) (first ∷ others) (p ∷ []))) (built_add e start (texts (first ∷ others)) p.item h.built);
    same = moves e p.item ∙ ap (λ (x : Expr). f x (B p.item)) h.same ∙ sym (moves (joined_left f start (items (first ∷ others))) p.item) ∙ ap bare_expr (sym (joined_last f (items (first ∷ others)) start p.item))
        ∙ ap (λ (l : List X). bare_expr (joined_left f start l)) (sym (map_append (item_of f B moves link text) (first ∷ others) (p ∷ [])));
  }

  run_add_all : (qs : List (Part B link text)) (e start : Expr) (v : ℕ) (first : Part B link text) (others : List (Part B link text)) → At e start v first others → At (joined_left f e (items qs)) start v first (others ++ qs)
  run_add_all [] e start v first others h = subst (λ (l : List (Part B link text)). At e start v first l) (sym (append-nil others)) h
  run_add_all (q ∷ qs) e start v first others h =
      subst (λ (l : List (Part B link text)). At (joined_left f (f e q.item) (items qs)) start v first l) (append_assoc others (q ∷ []) qs) (run_add_all qs (f e q.item) start v first (others ++ q ∷ []) (run_add e start v first others h q))

  pub run_spelt : (e start : Expr) (v : ℕ) (first : Part B link text) (others : List (Part B link text)) → At e start v first others → Spelt e (max (v + length others / 64) (deep f B moves link text (first ∷ others)))
  run_spelt e start v first others h =
      let d = max (v + length others / 64) (deep f B moves link text (first ∷ others)) in
      let is = built_is e start (texts (first ∷ others)) h.built in
      spelt_at e (max (v + length others / 64) (deep f B moves link text (first ∷ others))) u (ap (λ (s : Spelled). s.tightness) is) (λ n left a b.
      let low : deep f B moves link text (first ∷ others) ≤ n = omega (arith, a) in
      let high : deep f B moves link text (first ∷ others) ≤ left = omega (arith, b) in
      says_same e (sym h.same) (says_text (spelled e).text (sym (ap (λ (s : Spelled). s.text) is))
      (run_says f B moves link text u w tight folds start (held_together w (spelled start)) v h.says first others n left (omega (arith, a)) (omega (arith, b))
      (below_deep f B moves link text n (first ∷ others) low) (below_deep f B moves link text left (first ∷ others) high))))

  pub run_tight : (e : Expr) (l : ℕ) → Run f B moves link text w Built e l → (spelled e).tightness ≡ u
  run_tight e l r = ap (λ (s : Spelled). s.tightness) (built_is e r.start (texts (r.first ∷ r.others)) r.at.built)

  parts_of : (left : ℕ) (xs : List X) → Every (IsItem B link text left) xs → (ps : List (Part B link text)) × (items ps ≡ xs) × Low f B moves link text left ps × (length ps ≡ length xs)
  parts_of left [] h = ([], refl, tt, refl)
  parts_of left (x ∷ xs) h =
      let k = parts_of left xs h.1 in
      let p : Part B link text = record { item = x; level = h.0.0; says = h.0.2 } in
      (p ∷ k.0, ap (λ (l : List X). x ∷ l) k.1, (h.0.1, k.2), ap suc k.3)

  abbrev pub Grown : ℕ → Expr → Type 0
  Grown left e = (l : ℕ) × (l ≤ left) × Spelt e l × Run f B moves link text w Built e l

  -- behind a chain of its own sort
  more_parts : (left : ℕ) (x : Expr) (l : ℕ) → Run f B moves link text w Built x l → suc l ≤ left → (xs : List X) → Every (IsItem B link text left) xs → length xs ≤ 64 → Grown left (joined_left f x xs)
  more_parts left x l r less xs each few =
      let k = parts_of left xs each in
      let qs = k.0 in
      let same = k.1 in
      let low = k.2 in
      let count : length k.0 ≤ 64 = omega (arith, k.3, few) in
      let before = r.level in
      let run = run_add_all k.0 x r.start r.v r.first r.others r.at in
      let lower : deep f B moves link text ((r.first ∷ r.others) ++ k.0) ≤ left = deep_more f B moves link text left (r.first ∷ r.others) k.0 (omega arith) k.2 count in
      let len : length (r.others ++ k.0) ≡ length r.others + length k.0 = length-append r.others k.0 in
      let start : r.v + length (r.others ++ k.0) / 64 ≤ left = subst (λ (j : ℕ). r.v + j / 64 ≤ left) (sym len) (room (length r.others) (length k.0) r.v count (omega arith)) in
      let d : ℕ = max (r.v + length (r.others ++ k.0) / 64) (deep f B moves link text ((r.first ∷ r.others) ++ k.0)) in
      subst (Grown left) (ap (joined_left f x) k.1) (
        max (r.v + length (r.others ++ k.0) / 64) (deep f B moves link text ((r.first ∷ r.others) ++ k.0)),
        omega arith,
        run_spelt (joined_left f x (items k.0)) r.start r.v r.first (r.others ++ k.0) run,
        record { start = r.start; v = r.v; first = r.first; others = r.others ++ k.0; at = run; level = refl },
      )
    where
      room : (a b v : ℕ) → b ≤ 64 → suc (v + a / 64) ≤ left → v + (a + b) / 64 ≤ left
      room a b v le less' = omega arith

  -- behind anything else
  new_parts : (left : ℕ) (x : Expr) (l : ℕ) → Spelt x l → levels_within w x l ≤ left → ((p : X) → Built (f x p) x (text p ∷ [])) → (y : X) (xs : List X) → IsItem B link text left y → Every (IsItem B link text left) xs → suc (length xs) ≤ 64 → Grown left (joined_left f x (y ∷ xs))
  new_parts left x l spelt le built_new y xs item each few =
      let k = parts_of left xs each in
      let v = levels_within w x l in
      let p : Part B link text = record { item = y; level = item.0; says = item.2 } in
      let first : At (f x y) x (levels_within w x l) p [] = record { says = λ n rest a b. says_within x l spelt w n rest tight a b; built = built_new y; same = refl } in
      let run = run_add_all k.0 (f x y) x (levels_within w x l) p [] first in
      let count : length k.0 ≤ 63 = omega (arith, k.3, few) in
      let lower : deep f B moves link text (p ∷ k.0) ≤ left = deep_few f B moves link text left (p ∷ k.0) (item.1, k.2) (omega arith) in
      let start : levels_within w x l + length k.0 / 64 ≤ left = none (length k.0) (levels_within w x l) count le in
      subst (Grown left) (ap (joined_left f (f x y)) k.1) (
        max (levels_within w x l + length k.0 / 64) (deep f B moves link text (p ∷ k.0)),
        omega arith,
        run_spelt (joined_left f (f x y) (items k.0)) x (levels_within w x l) p k.0 run,
        record { start = x; v = levels_within w x l; first = p; others = k.0; at = run; level = refl },
      )
    where
      none : (a v : ℕ) → a ≤ 63 → v ≤ left → v + a / 64 ≤ left
      none a v few' le' = omega arith

  pub grown : (left : ℕ) (x : Expr) (l : ℕ) → Spelt x l → levels_within w x l ≤ left → (test : Bool) → (test ≡ true → Run f B moves link text w Built x l) → (test ≡ false → (p : X) → Built (f x p) x (text p ∷ [])) → (y : X) (xs : List X) → IsItem B link text left y → Every (IsItem B link text left) xs → suc (length xs) ≤ 64 → Grown left (joined_left f x (y ∷ xs))
  grown left x l spelt le true runs news y xs item each few =
      let r = runs refl in
      let loose : levels_within w x l ≡ suc l = levels_loose w x l u (run_tight x l r) under in
      more_parts left x l r (omega (arith, loose, le)) (y ∷ xs) (item, each) few
  grown left x l spelt le false runs news y xs item each few = new_parts left x l spelt le (news refl) y xs item each few
