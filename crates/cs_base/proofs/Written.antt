-- What stands in a writer after several calls, and after several turns of a loop.
use Rattle.std.proofs.Common.{◌≡◌, ℕ, ◌+◌, ◌<◌, ◌≤◌, List, [], ◌∷◌, ◌++◌, length, take, drop, get_or, Result, Ok, Err, refl, sym, ap, ◌∙◌, append_assoc, add-one, arith}
use Rattle.std.specs.Prelude.{OnOk}
use Rattle.std.proofs.lemmas.List.{append-nil, take-append-drop, length-append}
use Rattle.std.proofs.Math.Seq.{take-suc}
use Rattle.cs_base.specs.Fields.{each}

-- a part was there, and then the other
pub two_parts : (old a mid b new whole : List ℕ) → mid ≡ old ++ a → new ≡ mid ++ b → whole ≡ a ++ b → new ≡ old ++ whole
two_parts old a mid b new whole first second parts = second ∙ ap (λ (x : List ℕ). x ++ b) first ∙ append_assoc old a b ∙ ap (λ (x : List ℕ). old ++ x) (sym parts)

-- the same where the last call may have failed
pub two_parts_if : {T E : Type 0} (r : Result T E) (old a mid b new whole : List ℕ) → mid ≡ old ++ a → OnOk r (new ≡ mid ++ b) → whole ≡ a ++ b → OnOk r (new ≡ old ++ whole)
two_parts_if (Ok x) old a mid b new whole first second parts = two_parts old a mid b new whole first second parts
two_parts_if (Err e) old a mid b new whole first second parts = tt

pub each-append : {X : Type 0} (write : X → List ℕ) (xs ys : List X) → each write (xs ++ ys) ≡ each write xs ++ each write ys
each-append write [] ys = refl
each-append write (x ∷ xs) ys = ap (λ (t : List ℕ). write x ++ t) (each-append write xs ys) ∙ sym (append_assoc (write x) (each write xs) (each write ys))

-- one more turn of a loop
pub each_more : {X : Type 0} (write : X → List ℕ) (xs : List X) (i : ℕ) (x : X) (old out new : List ℕ) → i < length xs → x ≡ get_or xs i x
    → out ≡ old ++ each write (take i xs) → new ≡ out ++ write x → new ≡ old ++ each write (take (i + 1) xs)
each_more {X} write xs i x old out new lt is so_far wrote =
    let taken : take (i + 1) xs ≡ take i xs ++ x ∷ [] = rw add-one (take-suc xs i x lt ∙ ap (λ (y : X). take i xs ++ y ∷ []) (sym is)) in
    let text : each write (take (i + 1) xs) ≡ each write (take i xs) ++ write x = rw taken (each-append write (take i xs) (x ∷ []) ∙ ap (λ (t : List ℕ). each write (take i xs) ++ t) (append-nil (write x))) in
    two_parts old (each write (take i xs)) out (write x) new (each write (take (i + 1) xs)) so_far wrote text

-- ---- how long it is

pub length-each-more : {X : Type 0} (write : X → List ℕ) (xs : List X) (i : ℕ) (x : X) → i < length xs → x ≡ get_or xs i x
    → length (each write (take (i + 1) xs)) ≡ length (each write (take i xs)) + length (write x)
length-each-more {X} write xs i x lt is =
    let taken : take (i + 1) xs ≡ take i xs ++ x ∷ [] = rw add-one (take-suc xs i x lt ∙ ap (λ (y : X). take i xs ++ y ∷ []) (sym is)) in
    let text : each write (take (i + 1) xs) ≡ each write (take i xs) ++ write x = rw taken (each-append write (take i xs) (x ∷ []) ∙ ap (λ (t : List ℕ). each write (take i xs) ++ t) (append-nil (write x))) in
    ap (λ (t : List ℕ). length t) text ∙ length-append (each write (take i xs)) (write x)

pub length-each-at : {X : Type 0} (write : X → List ℕ) (xs : List X) (i : ℕ) (x : X) → i < length xs → x ≡ get_or xs i x
    → length (each write (take i xs)) + length (write x) ≤ length (each write xs)
length-each-at {X} write xs i x lt is =
    let parts : each write xs ≡ each write (take (i + 1) xs) ++ each write (drop (i + 1) xs) = ap (each write) (sym (take-append-drop (i + 1) xs)) ∙ each-append write (take (i + 1) xs) (drop (i + 1) xs) in
    omega (arith, length-each-more write xs i x lt is, ap (λ (t : List ℕ). length t) parts ∙ length-append (each write (take (i + 1) xs)) (each write (drop (i + 1) xs)))
