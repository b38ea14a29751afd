-- Chains and paths are read again from their printed text, however long they are.
use Rattle.std.proofs.Common.{◌≡◌, ℕ, zero, suc, ◌+◌, ◌-◌, ◌≤◌, Bool, true, false, max, List, [], ◌∷◌, ◌++◌, length, map, refl, sym, ap, subst, ◌∙◌, append_assoc, arith, inl, inr}
use Rattle.std.specs.Prelude.{◌/◌, ◌%◌, ◌==◌, if◌then◌else◌, ◌⊎◌}
use Rattle.std.proofs.lemmas.List.{append-nil, length-append}
use Rattle.std.proofs.lemmas.Bool.Decides.{Decides-eqb}
use Rattle.cs_lang_token.specs.Grammar.{Rule, pair, mapped, links}
use Rattle.cs_lang_token.specs.Rules.{joined_left, joined_pair}
use Rattle.cs_lang.specs.declared.tree.Expr.{Expr}
use Rattle.cs_lang_print.specs.Words.{each_text}
use Rattle.cs_lang_print.specs.Spelling.{parenthesized, held, run_on, run_text}
use Rattle.cs_lang_print.specs.Places.{bare_expr}
use Rattle.cs_lang_print.proofs.Says.{Says, both, says_pair, says_mapped, says_same, says_text, says_links_none, says_links_more}
use Rattle.cs_lang_print.proofs.Moves.{move_joined}
use Rattle.cs_lang_print.proofs.Rungs.{rule_at, lift, says_around}

-- an operator with its right operand, or a step: it may stand where so many levels are left
pub record Part {X : Type 0} (B : X → X) (link : ℕ → ℕ → Bool → Rule X) (text : X → List ℕ) : Type 0 where
  pub item : X
  pub level : ℕ
  pub says : (n left : ℕ) → level ≤ n → level ≤ left → Says B (link n left true) item (text item)

bool_cases : (b : Bool) → (b ≡ true) ⊎ (b ≡ false)
bool_cases true = inl refl
bool_cases false = inr refl

mod_less : (n : ℕ) → n % 64 ≤ 63
mod_less n = omega arith

map_append : {X Y : Type 0} (f : X → Y) (xs ys : List X) → map f (xs ++ ys) ≡ map f xs ++ map f ys
map_append f [] ys = refl
map_append f (x ∷ xs) ys = ap (λ l. f x ∷ l) (map_append f xs ys)

length_map : {X Y : Type 0} (f : X → Y) (xs : List X) → length (map f xs) ≡ length xs
length_map f [] = refl
length_map f (x ∷ xs) = ap suc (length_map f xs)

joined_last : {A X : Type 0} (f : A → X → A) (xs : List X) (e : A) (x : X) → joined_left f e (xs ++ x ∷ []) ≡ f (joined_left f e xs) x
joined_last f [] e x = refl
joined_last f (y ∷ xs) e x = joined_last f xs (f e y) x

each_last : {X : Type 0} (text : X → List ℕ) (xs : List X) (x : X) → each_text text (xs ++ x ∷ []) ≡ each_text text xs ++ text x
each_last text [] x = append-nil (text x)
each_last text (y ∷ xs) x = ap (λ t. text y ++ t) (each_last text xs x) ∙ sym (append_assoc (text y) (each_text text xs) (text x))

module _ {X : Type 0} (f : Expr → X → Expr) (B : X → X) (moves : (e : Expr) (x : X) → bare_expr (f e x) ≡ f (bare_expr e) (B x)) (link : ℕ → ℕ → Bool → Rule X) (text : X → List ℕ) where
  -- each level is at most this
  abbrev pub Low : ℕ → List (Part B link text) → Type 0
  Low n [] = Unit {0}
  Low n (p ∷ ps) = (p.level ≤ n) × Low n ps

  -- behind each part the parentheses close that have to
  abbrev pub Below : ℕ → List (Part B link text) → Type 0
  Below n [] = Unit {0}
  Below n (p ∷ ps) = (p.level + length ps / 64 ≤ n) × Below n ps

  abbrev pub item_of : Part B link text → X
  item_of p = p.item

  abbrev pub part_text : Part B link text → List ℕ
  part_text p = text p.item

  abbrev pub deep : List (Part B link text) → ℕ
  deep [] = 0
  deep (p ∷ ps) = max (p.level + length ps / 64) (deep ps)

  low_more : (n m : ℕ) (ps : List (Part B link text)) → n ≤ m → Low n ps → Low m ps
  low_more n m [] le low = tt
  low_more n m (p ∷ ps) le low = ((let h = low.0 in omega arith), low_more n m ps le low.1)

  low_last : (n : ℕ) (ps : List (Part B link text)) (p : Part B link text) → Low n ps → p.level ≤ n → Low n (ps ++ p ∷ [])
  low_last n [] p low le = (le, tt)
  low_last n (q ∷ ps) p low le = (low.0, low_last n ps p low.1 le)

  pub below_deep : (n : ℕ) (ps : List (Part B link text)) → deep ps ≤ n → Below n ps
  below_deep n [] le = tt
  below_deep n (p ∷ ps) le = (omega arith, below_deep n ps (omega arith))

  pub deep_few : (n : ℕ) (ps : List (Part B link text)) → Low n ps → length ps ≤ 64 → deep ps ≤ n
  deep_few n [] low few = omega arith
  deep_few n (p ∷ ps) low few =
      let h = low.0 in
      let rest = deep_few n ps low.1 (omega (arith, few)) in
      let none : length ps / 64 ≡ 0 = omega (arith, few) in
      omega arith

  few_more : (a k : ℕ) → k ≤ 64 → (a + k) / 64 ≤ a / 64 + 1
  few_more a k le = omega arith

  -- at most 64 more parts behind those in parentheses
  pub deep_more : (n : ℕ) (ps qs : List (Part B link text)) → suc (deep ps) ≤ n → Low n qs → length qs ≤ 64 → deep (ps ++ qs) ≤ n
  deep_more n [] qs less low few = deep_few n qs low few
  deep_more n (p ∷ ps) qs less low few =
      let rest = deep_more n ps qs (omega (arith, less)) low few in
      let len : length (ps ++ qs) ≡ length ps + length qs = length-append ps qs in
      let more : length (ps ++ qs) / 64 ≤ length ps / 64 + 1 = subst (λ (k : ℕ). k / 64 ≤ length ps / 64 + 1) (sym len) (few_more (length ps) (length qs) few) in
      omega (arith, less)

  says_parts : (k n left : ℕ) (ps : List (Part B link text)) → Low n ps → Low left ps → length ps ≤ k → Says (map B) (links (link n left) k) (map item_of ps) (each_text part_text ps)
  says_parts k n left [] low high few = says_links_none (map B) (link n left) k
  says_parts zero n left (p ∷ ps) low high few = absurd (omega (arith, few))
  says_parts (suc k) n left (p ∷ ps) low high few = says_links_more (link n left) (p.says n left low.0 high.0) (says_parts k n left ps low.1 high.1 (omega (arith, few)))

-- a chain that has room for as many more operators as stand before the next parenthesis
pub record Half {X : Type 0} (f : Expr → X → Expr) (B : X → X) (moves : (e : Expr) (x : X) → bare_expr (f e x) ≡ f (bare_expr e) (B x)) (link : ℕ → ℕ → Bool → Rule X) (text : X → List ℕ) (w : ℕ) (before : List ℕ) (whole : Expr) (n left more : ℕ) : Type 0 where
  pub start : Expr
  pub begins : List ℕ
  pub says : Says bare_expr (rule_at w n left) start begins
  pub parts : List (Part B link text)
  pub low : Low f B moves link text n parts
  pub high : Low f B moves link text left parts
  pub same : bare_expr whole ≡ bare_expr (joined_left f start (map (item_of f B moves link text) parts))
  pub written : before ≡ begins ++ each_text (part_text f B moves link text) parts
  pub room : length parts + more % 64 ≤ 64

module _ {X : Type 0} (f : Expr → X → Expr) (B : X → X) (moves : (e : Expr) (x : X) → bare_expr (f e x) ≡ f (bare_expr e) (B x)) (link : ℕ → ℕ → Bool → Rule X) (text : X → List ℕ)
    (u w : ℕ) (tight : w ≤ 8) (folds : (e : Expr) (s : List ℕ) (n left : ℕ) → Says bare_expr (mapped (joined_pair f) (pair (rule_at w n left) (links (link n left) 64))) e s → Says bare_expr (rule_at u n left) e s) where
  abbrev Halved : List ℕ → Expr → ℕ → ℕ → ℕ → Type 0
  Halved = Half f B moves link text w

  half_says : (before : List ℕ) (whole : Expr) (n left more : ℕ) → Halved before whole n left more → Says bare_expr (rule_at u n left) whole before
  half_says before whole n left more h =
      let few : length h.parts ≤ 64 = (let r = h.room in omega arith) in
      folds whole before n left (says_same whole (sym h.same) (says_text before (sym h.written)
      (says_mapped {B = both bare_expr (map B)} bare_expr (joined_pair f) (λ z. move_joined f B moves z.1 z.0)
      (says_pair h.says (says_parts f B moves link text 64 n left h.parts h.low h.high few)))))

  half_add : (before : List ℕ) (whole : Expr) (n left had more : ℕ) (h : Halved before whole n left had) → length h.parts + (1 + more % 64) ≤ 64 → (p : Part B link text) → p.level ≤ n → p.level ≤ left → Halved (before ++ text p.item) (f whole p.item) n left more
  half_add before whole n left had more h free p low high =
      let its = map (item_of f B moves link text) h.parts in
      let len : length (h.parts ++ p ∷ []) ≡ length h.parts + 1 = length-append h.parts (p ∷ []) in
      record {
        start = h.start;
        begins = h.begins;
        says = h.says;
        parts = h.parts ++ p ∷ [];
        low = low_last f B moves link text n h.parts p h.low low;
        high = low_last f B moves link text left h.parts p h.high high;
        same = moves whole p.item ∙ ap (λ (e : Expr). f e (B p.item)) h.same ∙ sym (moves (joined_left f h.start its) p.item) ∙ ap bare_expr (sym (joined_last f its h.start p.item))
            ∙ ap (λ (l : List X). bare_expr (joined_left f h.start l)) (sym (map_append (item_of f B moves link text) h.parts (p ∷ [])));
        written = ap (λ (t : List ℕ). t ++ text p.item) h.written ∙ append_assoc h.begins (each_text (part_text f B moves link text) h.parts) (text p.item)
            ∙ ap (λ (t : List ℕ). h.begins ++ t) (sym (each_last (part_text f B moves link text) h.parts p));
        room = omega arith;
      }

  abbrev half_around : (before : List ℕ) (whole : Expr) (n left more : ℕ) → Halved before whole n left more → Halved (parenthesized before) whole (suc n) (suc left) more
  half_around before whole n left more h = record {
    start = whole;
    begins = parenthesized before;
    says = lift 8 w (suc n) (suc left) tight (says_around n left (lift u 0 n left (omega arith) (half_says before whole n left more h)));
    parts = [];
    low = tt;
    high = tt;
    same = refl;
    written = sym (append-nil (parenthesized before));
    room = (let m = mod_less more in omega arith);
  }

  run_half : (ps : List (Part B link text)) (before : List ℕ) (whole : Expr) (a b n left : ℕ) → Halved before whole a b (length ps) → a + length ps / 64 ≡ n → b + length ps / 64 ≡ left → Below f B moves link text n ps → Below f B moves link text left ps
      → Halved (run_on before (map (part_text f B moves link text) ps)) (joined_left f whole (map (item_of f B moves link text) ps)) n left 0
  run_half [] before whole a b n left h first second low high =
      let one : a ≡ n = omega (arith, first) in
      let two : b ≡ left = omega (arith, second) in
      subst (λ (k : ℕ). Halved before whole k left 0) one (subst (λ (k : ℕ). Halved before whole a k 0) two h)
  run_half (p ∷ ps) before whole a b n left h first second low high =
      let m = length ps in
      let t = text p.item in
      let texts = map (part_text f B moves link text) ps in
      let its = map (item_of f B moves link text) ps in
      let lower = low.0 in
      let higher = high.0 in
      subst (λ (k : ℕ). Halved (run_on (held (suc k) before ++ t) texts) (joined_left f (f whole p.item) its) n left 0) (sym (length_map (part_text f B moves link text) ps))
      (elim (bool_cases (suc m % 64 == 0)) [
        | inl e ↦
            let full : suc m % 64 ≡ 0 = (Decides-eqb (suc m % 64) 0).0 e in
            let next : suc m / 64 ≡ suc (m / 64) = omega arith in
            let one : suc a + m / 64 ≡ n = omega (arith, first) in
            let two : suc b + m / 64 ≡ left = omega (arith, second) in
            let free : length (half_around before whole a b (suc m) h).parts + (1 + m % 64) ≤ 64 = (let r = mod_less m in omega arith) in
            let added = half_add (parenthesized before) whole (suc a) (suc b) (suc m) m (half_around before whole a b (suc m) h) free p (omega arith) (omega arith) in
            subst (λ (s : List ℕ). Halved (run_on (s ++ t) texts) (joined_left f (f whole p.item) its) n left 0) (sym (ap (λ (c : Bool). if c then parenthesized before else before) e))
            (run_half ps (parenthesized before ++ t) (f whole p.item) (suc a) (suc b) n left added one two low.1 high.1)
        | inr e ↦
            let other : suc m % 64 ≡ 0 → ⊥ = (λ z. let c : (suc m % 64 == 0) ≡ true = (Decides-eqb (suc m % 64) 0).1 z in absurd cc) in
            let next : suc m / 64 ≡ m / 64 = omega arith in
            let one : a + m / 64 ≡ n = omega (arith, first) in
            let two : b + m / 64 ≡ left = omega (arith, second) in
            let rest : suc m % 64 ≡ suc (m % 64) = omega arith in
            let free : length h.parts + (1 + m % 64) ≤ 64 = (let r = h.room in omega arith) in
            let added = half_add before whole a b (suc m) m h free p (omega arith) (omega arith) in
            subst (λ (s : List ℕ). Halved (run_on (s ++ t) texts) (joined_left f (f whole p.item) its) n left 0) (sym (ap (λ (c : Bool). if c then parenthesized before else before) e))
            (run_half ps (before ++ t) (f whole p.item) a b n left added one two low.1 high.1)
      ])

  pub run_says : (start : Expr) (begins : List ℕ) (v : ℕ) → ((n left : ℕ) → v ≤ n → v ≤ left → Says bare_expr (rule_at w n left) start begins) → (first : Part B link text) (others : List (Part B link text)) (n left : ℕ)
      → v + length others / 64 ≤ n → v + length others / 64 ≤ left → Below f B moves link text n (first ∷ others) → Below f B moves link text left (first ∷ others)
      → Says bare_expr (rule_at u n left) (joined_left f start (map (item_of f B moves link text) (first ∷ others))) (run_text begins (map (part_text f B moves link text) (first ∷ others)))
  run_says start begins v says first others n left one two low high =
      let k = length others / 64 in
      let a = n - length others / 64 in
      let b = left - length others / 64 in
      let lower = low.0 in
      let higher = high.0 in
      let at : (v ≤ n - length others / 64) × (v ≤ left - length others / 64) = (omega arith, omega arith) in
      let begin : Halved (begins ++ text first.item) (f start first.item) (n - length others / 64) (left - length others / 64) (length others) =
      record {
        start = start;
        begins = begins;
        says = says (n - length others / 64) (left - length others / 64) at.0 at.1;
        parts = first ∷ [];
        low = (omega arith, tt);
        high = (omega arith, tt);
        same = refl;
        written = ap (λ (t : List ℕ). begins ++ t) (sym (append-nil (text first.item)));
        room = (let r = mod_less (length others) in omega arith);
      } in
      half_says (run_on (begins ++ text first.item) (map (part_text f B moves link text) others)) (joined_left f (f start first.item) (map (item_of f B moves link text) others)) n left 0
      (run_half others (begins ++ text first.item) (f start first.item) (n - length others / 64) (left - length others / 64) n left begin (omega arith) (omega arith) low.1 high.1)
