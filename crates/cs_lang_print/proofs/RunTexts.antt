-- Runs and rows of texts.
use Rattle.std.proofs.Common.{◌≡◌, ℕ, zero, suc, ◌+◌, ◌-◌, ◌<◌, ◌≤◌, Bool, true, false, List, [], ◌∷◌, ◌++◌, map, length, drop, get_or, length-drop, sym, ap, refl, ◌∙◌, append_assoc, add-one, arith}
use Rattle.std.proofs.lemmas.Result.{on_ok_weaker}
use Rattle.std.specs.Prelude.{Result, OnOk, codes, ◌/◌, ◌%◌, ◌==◌, if◌then◌else◌}
use Rattle.std.proofs.Math.Seq.{drop-cons}
use Rattle.std.proofs.lemmas.List.{append-nil, drop_all}
use Rattle.std.proofs.lemmas.Bool.Decides.{Decides-eqb}
use Rattle.cs_lang_print.specs.Words.{word, each_text, behind_comma, with_commas}
use Rattle.cs_lang_print.specs.Spelling.{parenthesized, held, run_on, run_text}
use Rattle.cs_lang_print.specs.Expressions.{applied}
use Rattle.cs_lang_print.specs.Statements.{block_until, block_text}
use Rattle.cs_lang_print.specs.Runs.{times, openings, closing, parts_text, comma_text, items_text}

pub each-map : {X Y : Type 0} (text : Y → List ℕ) (f : X → Y) (xs : List X) → each_text text (map f xs) ≡ each_text (λ x. text (f x)) xs
each-map text f [] = refl
each-map text f (x ∷ xs) = ap (λ t. text (f x) ++ t) (each-map text f xs)

pub with_commas-map : {X Y : Type 0} (text : Y → List ℕ) (f : X → Y) (xs : List X) → with_commas text (map f xs) ≡ with_commas (λ x. text (f x)) xs
with_commas-map text f [] = refl
with_commas-map text f (x ∷ xs) = ap (λ t. text (f x) ++ t) (each-map (behind_comma text) f xs)

pub runs_map : {X Y Z : Type 0} (g : Y → Z) (f : X → Y) (xs : List X) → map g (map f xs) ≡ map (λ x. g (f x)) xs
runs_map g f [] = refl
runs_map g f (x ∷ xs) = ap (λ t. g (f x) ∷ t) (runs_map g f xs)

length_map : {X Y : Type 0} (f : X → Y) (xs : List X) → length (map f xs) ≡ length xs
length_map f [] = refl
length_map f (x ∷ xs) = ap suc (length_map f xs)

times_more : (n : ℕ) (t u : List ℕ) → times n t ++ (t ++ u) ≡ t ++ (times n t ++ u)
times_more zero t u = refl
times_more (suc n) t u = append_assoc t (times n t) (t ++ u) ∙ ap (λ (v : List ℕ). t ++ v) (times_more n t u) ∙ ap (λ (v : List ℕ). t ++ v) (sym (append_assoc t (times n t) u))

-- the number of parentheses, one part more
more_full : (m : ℕ) → suc m % 64 ≡ 0 → suc m / 64 ≡ suc (m / 64)
more_full m e = omega arith

more_other : (m : ℕ) → (suc m % 64 ≡ 0 → ⊥) → suc m / 64 ≡ m / 64
more_other m e = omega arith

step_on : (full : Bool) (m : ℕ) (before part rest : List ℕ) → (full ≡ true → suc m / 64 ≡ suc (m / 64)) → (full ≡ false → suc m / 64 ≡ m / 64)
    → times (m / 64) (word (codes "(")) ++ (((if full then parenthesized before else before) ++ part) ++ rest)
    ≡ times (suc m / 64) (word (codes "(")) ++ (before ++ (((if full then word (codes ")") else []) ++ part) ++ rest))
step_on true m before part rest more same =
    let open' = word (codes "(") in
    let close = word (codes ")") in
    ap (λ (t : List ℕ). times (m / 64) open' ++ t) (ap (λ (t : List ℕ). t ++ rest) (append_assoc open' (before ++ close) part) ∙ append_assoc open' ((before ++ close) ++ part) rest)
    ∙ times_more (m / 64) open' (((before ++ close) ++ part) ++ rest)
    ∙ sym (append_assoc open' (times (m / 64) open') (((before ++ close) ++ part) ++ rest))
    ∙ ap (λ (k : ℕ). times k open' ++ (((before ++ close) ++ part) ++ rest)) (sym (more refl))
    ∙ ap (λ (t : List ℕ). times (suc m / 64) open' ++ t) (ap (λ (t : List ℕ). t ++ rest) (append_assoc before close part) ∙ append_assoc before (close ++ part) rest)
step_on false m before part rest more same =
    let open' = word (codes "(") in
    ap (λ (k : ℕ). times k open' ++ ((before ++ part) ++ rest)) (sym (same refl))
    ∙ ap (λ (t : List ℕ). times (suc m / 64) open' ++ t) (append_assoc before part rest)

test_false : (n : ℕ) → (n == 0) ≡ false → n ≡ 0 → ⊥
test_false n e z = let t : (n == 0) ≡ true = (Decides-eqb n 0).1 z in absurd cc

run_on_is : {X : Type 0} (text : X → List ℕ) (before : List ℕ) (xs : List X) → run_on before (map text xs) ≡ times (length xs / 64) (word (codes "(")) ++ (before ++ parts_text text true xs)
run_on_is text before [] = sym (append-nil before)
run_on_is text before (x ∷ xs) =
    let m = length xs in
    ap (λ (k : ℕ). run_on (held (suc k) before ++ text x) (map text xs)) (length_map text xs)
    ∙ run_on_is text (held (suc m) before ++ text x) xs
    ∙ step_on (suc m % 64 == 0) m before (text x) (parts_text text true xs) (λ e. more_full m ((Decides-eqb (suc m % 64) 0).0 e)) (λ e. more_other m (test_false (suc m % 64) e))

pub run_is : {X : Type 0} (text : X → List ℕ) (start : List ℕ) (xs : List X) → run_text start (map text xs) ≡ openings (length xs) ++ (start ++ parts_text text false xs)
unfolding openings
run_is text start [] = sym (append-nil start)
run_is text start (x ∷ xs) = run_on_is text (start ++ text x) xs
    ∙ ap (λ (k : ℕ). times (k / 64) (word (codes "(")) ++ ((start ++ text x) ++ parts_text text true xs)) (same (length xs))
    ∙ ap (λ (t : List ℕ). times ((suc (length xs) - 1) / 64) (word (codes "(")) ++ t) (append_assoc start (text x) (parts_text text true xs))
  where
    same : (n : ℕ) → n ≡ suc n - 1
    same n = omega arith

-- ---- loops

opened : {X : Type 0} (xs : List X) (i : ℕ) (x : X) → i < length xs → x ≡ get_or xs i x → drop i xs ≡ x ∷ drop (i + 1) xs
opened xs i x lt is = rw add-one (drop-cons xs i x lt ∙ ap (λ (y : _). y ∷ drop (suc i) xs) (sym is))

items_behind : {X : Type 0} (text : X → List ℕ) (xs : List X) → each_text (behind_comma text) xs ≡ items_text text true xs
items_behind text [] = refl
items_behind text (x ∷ xs) = ap (λ t. (word (codes ",") ++ text x) ++ t) (items_behind text xs)

pub items_are : {X : Type 0} (text : X → List ℕ) (xs : List X) → with_commas text xs ≡ items_text text false xs
items_are text [] = refl
items_are text (x ∷ xs) = ap (λ t. text x ++ t) (items_behind text xs)

-- one more: what was put and what is left are all
pub items_turn : {X : Type 0} (text : X → List ℕ) (xs : List X) (i : ℕ) (x : X) (behind : Bool) (out new all : List ℕ) → i < length xs → x ≡ get_or xs i x → new ≡ out ++ (comma_text behind ++ text x)
    → out ++ items_text text behind (drop i xs) ≡ all → new ++ items_text text true (drop (i + 1) xs) ≡ all
items_turn text xs i x behind out new all lt is put so =
    ap (λ (t : List ℕ). t ++ items_text text true (drop (i + 1) xs)) put ∙ append_assoc out (comma_text behind ++ text x) (items_text text true (drop (i + 1) xs))
    ∙ ap (λ (ys : List _). out ++ items_text text behind ys) (sym (opened xs i x lt is)) ∙ so

pub items_end : {X : Type 0} (text : X → List ℕ) (xs : List X) (i : ℕ) (behind : Bool) (out all : List ℕ) → length xs ≤ i → out ++ items_text text behind (drop i xs) ≡ all → out ≡ all
items_end text xs i behind out all le so = sym (append-nil out) ∙ ap (λ (ys : List _). out ++ items_text text behind ys) (sym (drop_all i xs le)) ∙ so

length_left : {X : Type 0} (xs : List X) (i left : ℕ) → i < length xs → left + i ≡ length xs → suc (length (drop (i + 1) xs)) ≡ left
length_left {X} xs i left lt e = omega (arith, length-drop {A = X})

pub parts_turn : {X : Type 0} (text : X → List ℕ) (xs : List X) (i : ℕ) (x : X) (behind : Bool) (left : ℕ) (out new all : List ℕ) → i < length xs → left + i ≡ length xs → x ≡ get_or xs i x
    → new ≡ out ++ (closing behind left ++ text x) → out ++ parts_text text behind (drop i xs) ≡ all → new ++ parts_text text true (drop (i + 1) xs) ≡ all
parts_turn text xs i x behind left out new all lt e is put so =
    ap (λ (t : List ℕ). t ++ parts_text text true (drop (i + 1) xs)) put ∙ append_assoc out (closing behind left ++ text x) (parts_text text true (drop (i + 1) xs))
    ∙ ap (λ (k : ℕ). out ++ ((closing behind k ++ text x) ++ parts_text text true (drop (i + 1) xs))) (sym (length_left xs i left lt e))
    ∙ ap (λ (ys : List _). out ++ parts_text text behind ys) (sym (opened xs i x lt is)) ∙ so

pub parts_end : {X : Type 0} (text : X → List ℕ) (xs : List X) (i : ℕ) (behind : Bool) (out all : List ℕ) → length xs ≤ i → out ++ parts_text text behind (drop i xs) ≡ all → out ≡ all
parts_end text xs i behind out all le so = sym (append-nil out) ∙ ap (λ (ys : List _). out ++ parts_text text behind ys) (sym (drop_all i xs le)) ∙ so

-- ---- one after the other

pub put_two : (o p q a b whole : List ℕ) → p ≡ o ++ a → q ≡ p ++ b → whole ≡ a ++ b → q ≡ o ++ whole
put_two o p q a b whole first second is = second ∙ ap (λ (t : List ℕ). t ++ b) first ∙ append_assoc o a b ∙ ap (λ (t : List ℕ). o ++ t) (sym is)

pub put_three : (o p q r a b c whole : List ℕ) → p ≡ o ++ a → q ≡ p ++ b → r ≡ q ++ c → whole ≡ a ++ (b ++ c) → r ≡ o ++ whole
put_three o p q r a b c whole first second third is = put_two o p r a (b ++ c) whole first (put_two p q r b c (b ++ c) second third refl) is

pub ok_two : {T E : Type 0} (r : Result T E) (o p q a b whole : List ℕ) → p ≡ o ++ a → OnOk r (q ≡ p ++ b) → whole ≡ a ++ b → OnOk r (q ≡ o ++ whole)
ok_two r o p q a b whole first second is = on_ok_weaker r (λ h. put_two o p q a b whole first h is) second

pub ok_three : {T E : Type 0} (s : Result T E) (o p q r a b c whole : List ℕ) → p ≡ o ++ a → q ≡ p ++ b → OnOk s (r ≡ q ++ c) → whole ≡ a ++ (b ++ c) → OnOk s (r ≡ o ++ whole)
ok_three s o p q r a b c whole first second third is = on_ok_weaker s (λ h. put_three o p q r a b c whole first second h is) third

pub times_next : (n : ℕ) (t : List ℕ) → times (n + 1) t ≡ times n t ++ t
times_next n t = rw add-one (sym (append-nil (t ++ times n t)) ∙ append_assoc t (times n t) [] ∙ sym (times_more n t []) ∙ ap (λ (u : List ℕ). times n t ++ u) (append-nil t))

pub ruleset items = (items_are)

pub concat_is : (f b : List ℕ) → applied (codes "concat") (f ++ (word (codes ",") ++ b)) ≡ (word (codes "concat") ++ (word (codes "(") ++ f)) ++ (word (codes ",") ++ (b ++ word (codes ")")))
concat_is f b = simp append_assoc

pub if_else_is : (e b o : List ℕ) → word (codes "if") ++ (e ++ (block_until (word (codes "}")) b ++ (word (codes "else") ++ block_text o))) ≡ (word (codes "if") ++ e) ++ ((block_until (word (codes "}")) b ++ word (codes "else")) ++ block_text o)
if_else_is e b o = simp append_assoc

pub if_is : (e b : List ℕ) → word (codes "if") ++ (e ++ block_text b) ≡ (word (codes "if") ++ e) ++ block_text b
if_is e b = simp append_assoc

pub for_is : (n e b : List ℕ) → word (codes "for") ++ (n ++ ((word (codes "in") ++ e) ++ block_text b)) ≡ (word (codes "for") ++ (n ++ (word (codes "in") ++ e))) ++ block_text b
for_is n e b = simp append_assoc
