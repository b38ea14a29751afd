-- Lists of deeds, taken apart.
use Rattle.std.proofs.Common.{◌≡◌, ℕ, zero, suc, ◌+◌, ◌<◌, ◌≤◌, List, [], ◌∷◌, ◌++◌, map, length, get_or, take, drop, refl, sym, ap, subst, ◌∙◌, arith}
use Rattle.std.specs.List.{AllByRecursion}
use Rattle.std.proofs.lemmas.List.{take_more, take-append-drop, map-append}
use Rattle.std.proofs.lemmas.Grind.{common_steps}
use Rattle.cs_base.specs.declared.node_id.NodeId.{NodeId}
use Rattle.cs_config.specs.declared.plan.Plan.{Plan}
use Rattle.cs_spawn.specs.Words.{client_words, client_title}
use Rattle.cs_spawn.specs.Deeds.{ClusterDeed, Start, Wait, numbered, node_starts, call_deeds, node_waits, words_in}

-- the first items, and one more
pub next_taken : {A : Type 0} (xs : List A) (i : ℕ) (x none : A) → i < length xs → x ≡ get_or xs i none → take (i + 1) xs ≡ take i xs ++ x ∷ []
next_taken xs i x none within is = take_more xs i none within ∙ ap (λ y. take i xs ++ y ∷ []) (sym is)

-- ---- a deed for each item

pub map-next : {A : Type 0} (f : A → ClusterDeed) (xs : List A) (i : ℕ) (x none : A) → i < length xs → x ≡ get_or xs i none → map f (take (i + 1) xs) ≡ map f (take i xs) ++ f x ∷ []
map-next f xs i x none within is = ap (map f) (next_taken xs i x none within is) ∙ map-append f (take i xs) (x ∷ [])

pub map-split : {A : Type 0} (f : A → ClusterDeed) (xs : List A) (n : ℕ) → map f xs ≡ map f (take n xs) ++ map f (drop n xs)
map-split f xs n = ap (map f) (sym (take-append-drop n xs)) ∙ map-append f (take n xs) (drop n xs)

-- ---- calls

calls-append : (plan : Plan) (n m : ℕ) (xs ys : List (List ℕ)) (j k : ℕ) → j ≡ n + length xs → k ≡ m + length xs
    → call_deeds plan n m (xs ++ ys) ≡ call_deeds plan n m xs ++ call_deeds plan j k ys
calls-append plan n m [] ys j k p q =
    let ej : n ≡ j = omega arith in
    let ek : m ≡ k = omega arith in
    ap (λ i. call_deeds plan i m ys) ej ∙ ap (λ i. call_deeds plan j i ys) ek
calls-append plan n m (x ∷ xs) ys j k p q =
    ap (λ l. Start (client_words plan x) ∷ Wait (client_title n) m ∷ l) (calls-append plan (n + 1) (m + 1) xs ys j k (omega arith) (omega arith))

module _ (plan : Plan) (first : ℕ) (calls : List (List ℕ)) where
  pub calls-next : (i child : ℕ) (call none : List ℕ) → i < length calls → call ≡ get_or calls i none → child ≡ first + i
      → call_deeds plan 0 first (take (i + 1) calls) ≡ call_deeds plan 0 first (take i calls) ++ Start (client_words plan call) ∷ Wait (client_title i) child ∷ []
  calls-next i child call none within is number =
      let so_many : length (take i calls) ≡ i = grind (arith, common_steps) in
      ap (call_deeds plan 0 first) (next_taken calls i call none within is)
      ∙ calls-append plan 0 first (take i calls) (call ∷ []) i child (omega arith) (omega arith)

  pub calls-split : (n : ℕ) → call_deeds plan 0 first calls ≡ call_deeds plan 0 first (take n calls) ++ call_deeds plan (0 + length (take n calls)) (first + length (take n calls)) (drop n calls)
  calls-split n =
      ap (call_deeds plan 0 first) (sym (take-append-drop n calls))
      ∙ calls-append plan 0 first (take n calls) (drop n calls) (0 + length (take n calls)) (first + length (take n calls)) refl refl

-- ---- numbers of children

pub many-starts : (plan : Plan) (nodes : List NodeId) → length (words_in (node_starts plan nodes)) ≡ length nodes
many-starts plan [] = refl
many-starts plan (me ∷ nodes) = ap suc (many-starts plan nodes)

pub no-starts : (running : List (NodeId × ℕ)) → words_in (node_waits running) ≡ []
no-starts [] = refl
no-starts (node ∷ running) = no-starts running

numbered-append : {A : Type 0} (n : ℕ) (xs ys : List A) (m : ℕ) → m ≡ n + length xs → numbered n (xs ++ ys) ≡ numbered n xs ++ numbered m ys
numbered-append n [] ys m e = let same : n ≡ m = omega arith in ap (λ i. numbered i ys) same
numbered-append n (x ∷ xs) ys m e = ap (λ l. (x, n) ∷ l) (numbered-append (n + 1) xs ys m (omega arith))

-- one item more has the next number
pub numbered-next : {A : Type 0} (first : ℕ) (xs : List A) (i : ℕ) (x none : A) (n : ℕ) → i < length xs → x ≡ get_or xs i none → n ≡ first + i
    → numbered first (take (i + 1) xs) ≡ numbered first (take i xs) ++ (x, n) ∷ []
numbered-next first xs i x none n within is number =
    let so_many : length (take i xs) ≡ i = grind (arith, common_steps) in
    ap (numbered first) (next_taken xs i x none within is) ∙ numbered-append first (take i xs) (x ∷ []) n (omega arith)

-- all numbers are below the last
pub numbered-below : (first : ℕ) (nodes : List NodeId) (bound : ℕ) → first + length nodes ≤ bound → AllByRecursion (λ (node : NodeId × ℕ). node.1 < bound) (numbered first nodes)
numbered-below first [] bound within = tt
numbered-below first (me ∷ nodes) bound within = (omega arith, numbered-below (first + 1) nodes bound (omega arith))

-- what holds of all holds at a place
pub all_at : {A : Type 0} (P : A → Type 0) (xs : List A) (i : ℕ) (x none : A) → AllByRecursion P xs → i < length xs → x ≡ get_or xs i none → P x
all_at P [] i x none all within is = absurd (omega arith)
all_at P (y ∷ xs) zero x none all within is = subst P (sym is) all.0
all_at P (y ∷ xs) (suc i) x none all within is = all_at P xs i x none all.1 (omega arith) is
