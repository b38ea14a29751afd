-- States in a row.
use Rattle.std.proofs.Common.{◌≡◌, ℕ, zero, suc, ◌+◌, ◌/◌, ◌^◌, refl, ap, sym, ◌∙◌, arith, add-one}
use Rattle.cs_gen.specs.Draws.{next_state, state_after, draw}

pub state-none : (state : ℕ) → state_after state 0 ≡ state
unfolding state_after
state-none state = refl

-- one more draw
pub state-more : (state n m : ℕ) → m ≡ n + 1 → state_after state m ≡ next_state (state_after state n)
unfolding state_after
state-more state n m is = ap (state_after state) (is ∙ add-one n)

-- draws behind others
pub state-plus : (state n m : ℕ) → state_after (state_after state n) m ≡ state_after state (n + m)
unfolding state_after
state-plus state n zero = ap (state_after state) (omega arith)
state-plus state n (suc m) = ap next_state (state-plus state n m) ∙ sym (state-more state (n + m) (n + suc m) (omega arith))

-- what is drawn behind others
pub drawn : (state n : ℕ) → next_state (state_after state n) / 2 ^ 33 ≡ draw state n
drawn state n = ap (λ (s : ℕ). s / 2 ^ 33) (sym (state-more state n (n + 1) refl))

-- what the second of two draws gives
pub drawn-second : (state n : ℕ) → next_state (next_state (state_after state n)) / 2 ^ 33 ≡ draw state (n + 1)
drawn-second state n = ap (λ (s : ℕ). next_state s / 2 ^ 33) (sym (state-more state n (n + 1) refl)) ∙ drawn state (n + 1)

-- two draws
pub state-two : (state n m : ℕ) → m ≡ n + 2 → state_after state m ≡ next_state (next_state (state_after state n))
state-two state n m is = state-more state (n + 1) m (omega arith) ∙ ap next_state (state-more state n (n + 1) refl)

-- four states in a row
pub one : (state a : ℕ) → a ≡ next_state state → a ≡ state_after state 1
one state a is = is ∙ ap next_state (sym (state-none state)) ∙ sym (state-more state 0 1 refl)

pub next : (state n m a b : ℕ) → a ≡ state_after state n → b ≡ next_state a → m ≡ n + 1 → b ≡ state_after state m
next state n m a b before is more = is ∙ ap next_state before ∙ sym (state-more state n m more)
