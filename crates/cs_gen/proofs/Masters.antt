-- The master, written number by number.
use Rattle.std.proofs.Common.{◌≡◌, ℕ, List, [], ◌++◌, length, ap, ◌∙◌, sym}
use Rattle.std.specs.Int.{w64, to_be_bytes}
use Rattle.cs_gen.specs.Draws.{state_after}
use Rattle.cs_gen.specs.Schedules.{drawn_master}

abbrev numbers : ℕ → ℕ → ℕ → ℕ → List ℕ
numbers a b c d = to_be_bytes w64 a ++ to_be_bytes w64 b ++ to_be_bytes w64 c ++ to_be_bytes w64 d

-- four numbers, one after the other
pub four : (a b c d : ℕ) (none one two three all : List ℕ) → none ≡ [] → one ≡ none ++ to_be_bytes w64 a → two ≡ one ++ to_be_bytes w64 b
    → three ≡ two ++ to_be_bytes w64 c → all ≡ three ++ to_be_bytes w64 d → all ≡ numbers a b c d
four a b c d none one two three all is first second third fourth =
    fourth
    ∙ ap (λ (t : List ℕ). t ++ to_be_bytes w64 d)
    (third ∙ ap (λ (t : List ℕ). t ++ to_be_bytes w64 c) (second ∙ ap (λ (t : List ℕ). t ++ to_be_bytes w64 b) (first ∙ ap (λ (t : List ℕ). t ++ to_be_bytes w64 a) is)))

pub numbers-length : (a b c d : ℕ) (text : List ℕ) → text ≡ numbers a b c d → 32 ≡ length text
numbers-length a b c d text is = sym (ap length is)

-- four states in a row
pub of_states : (state a b c d : ℕ) → a ≡ state_after state 1 → b ≡ state_after state 2 → c ≡ state_after state 3 → d ≡ state_after state 4 → numbers a b c d ≡ drawn_master state
of_states state a b c d first second third fourth =
    ap (λ (n : ℕ). numbers n b c d) first ∙ ap (λ (n : ℕ). numbers (state_after state 1) n c d) second
    ∙ ap (λ (n : ℕ). numbers (state_after state 1) (state_after state 2) n d) third
    ∙ ap (λ (n : ℕ). numbers (state_after state 1) (state_after state 2) (state_after state 3) n) fourth
