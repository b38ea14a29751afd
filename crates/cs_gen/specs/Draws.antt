-- Numbers that look random, the same at each run: the states of a linear congruential generator.
use Rattle.std.specs.Prelude.{ℕ, zero, suc, ◌+◌, ◌*◌, ◌/◌, ◌%◌, ◌^◌}

-- the state behind another
abbrev pub next_state : ℕ → ℕ
next_state state = (state * 6364136223846793005 + 1442695040888963407) % 2 ^ 64

-- the state after so many draws
unfoldable pub state_after : ℕ → ℕ → ℕ
state_after state zero = state
state_after state (suc draws) = next_state (state_after state draws)

-- what a draw gives, before which so many were made from this state: the state that it makes, without its 33 low bits
abbrev pub draw : ℕ → ℕ → ℕ
draw state draws = state_after state (draws + 1) / 2 ^ 33
