-- The string that is hashed for a checkpoint, grouped as its encoding is.
use Rattle.std.proofs.Common.{◌≡◌, ℕ, List, [], ◌++◌, sym, ap, ◌∙◌, append_assoc, append-nil}

-- in version 1 nothing stands behind the root of the table
pub regrouped : (a b c d e : List ℕ) → (((a ++ b) ++ c) ++ d) ++ e ≡ a ++ (b ++ (c ++ (d ++ (e ++ []))))
regrouped a b c d e =
    let grouped : (((a ++ b) ++ c) ++ d) ++ e ≡ a ++ (b ++ (c ++ (d ++ e))) = simp append_assoc in
    grouped ∙ ap (λ (l : List ℕ). a ++ (b ++ (c ++ (d ++ l)))) (sym (append-nil e))
