-- The numbers of lines.
use Rattle.std.proofs.Common.{◌≡◌, ℕ, ◌+◌, List, [], ◌∷◌, ◌++◌, length, ap, sym, ◌∙◌, arith}
use Rattle.std.specs.List.{enumerate_from}
use Rattle.std.proofs.lemmas.List.{length-append}

-- one more line
pub enumerate-more : {X : Type 0} (n : ℕ) (xs : List X) (x : X) → enumerate_from n (xs ++ x ∷ []) ≡ enumerate_from n xs ++ (n + length xs, x) ∷ []
enumerate-more {X} n [] x = ap (λ (m : ℕ). (m, x) ∷ []) (omega arith)
enumerate-more {X} n (y ∷ xs) x =
    ap (λ (rest : List (ℕ × X)). (n, y) ∷ rest) (enumerate-more (n + 1) xs x)
    ∙ ap (λ (m : ℕ). (n, y) ∷ (enumerate_from (n + 1) xs ++ (m, x) ∷ [])) (omega arith)

pub pushed : {X : Type 0} (n line : ℕ) (yielded : List X) (x : X) (old new : List (ℕ × X)) → new ≡ old ++ (line, x) ∷ [] → old ≡ enumerate_from n yielded → line ≡ n + length yielded
    → new ≡ enumerate_from n (yielded ++ x ∷ [])
pushed {X} n line yielded x old new push is number =
    push ∙ ap (λ (lines : List (ℕ × X)). lines ++ (line, x) ∷ []) is ∙ ap (λ (m : ℕ). enumerate_from n yielded ++ (m, x) ∷ []) number ∙ sym (enumerate-more n yielded x)

pub counted : {X : Type 0} (n line : ℕ) (yielded : List X) (x : X) → line ≡ n + length yielded → line + 1 ≡ n + length (yielded ++ x ∷ [])
counted {X} n line yielded x is = omega (arith, is, length-append yielded (x ∷ []))
